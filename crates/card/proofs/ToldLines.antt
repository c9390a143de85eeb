-- What the reader tells: the text in front of the line.
use mathlib.Core.Path.{◌≡◌, sym, ◌∙◌, ap, subst}
use mathlib.Core.Bool.{Bool, cond}
use mathlib.Core.List.{List, []}
use Prim.Native.Nat.{ℕ, ◌<◌, ◌≤◌}
use native.Mathlib.Omega.{arith}
use borrow.Author.Tests.{ne_eqb}
use lib.ListN.{length, take, drop, length-append, length-drop}
use lib.Seq.{take-append_seam}
use Rattle.network.specs.Answers.{shown}
use Rattle.records.specs.declared.reader.Stage.{Stage}
use Rattle.records.specs.declared.reader.Reader.{Reader}
use Rattle.lines.specs.Text.{journey_line, refusal_line, line_of, LineWritten, fits, short}
use Rattle.card.specs.Reading.{Told, Refusing}
use Rattle.card.specs.Running.{told_line}
use Rattle.lines.proofs.Lines.{refusal_most}

-- a refusal's text
pub refusal_text : (number place : ℕ) → (number ≡ 0 → ⊥) → line_of (shown number place) [] ≡ refusal_line number place
refusal_text number place n = ap (λ (b : Bool). cond b (journey_line 0 0 []) (refusal_line number place)) (ne_eqb number 0 n)

written_size : {text line line' : List ℕ} {n : ℕ} → LineWritten text line line' n → length line' ≡ length line
written_size {text} {line} {line'} {n} (fits a b c) = ap length c ∙ omega (arith, length-append text (drop n line), length-drop n line)
written_size (short a b c) = ap length c

written_front : {text line line' : List ℕ} {n : ℕ} → LineWritten text line line' n → length text ≤ length line → take n line' ≡ text
written_front {text} {line} {line'} {n} (fits a b c) h =
    ap (λ k. take k line') b ∙ ap (take (length text)) c ∙ take-append_seam text (drop n line)
written_front (short a b c) h = absurd (omega arith)

module _ {r r' : Reader} {stage : Stage} {text line line' : List ℕ} (t : Told r stage text line r' line') where
  -- where there is room, the text is told
  pub told_text : length text ≤ length line → told_line r' line' ≡ text
  told_text h = ap (λ (x : Reader). take x.written line') t.then ∙ written_front t.writes h

  pub told_stage : r'.stage ≡ stage
  told_stage = ap (λ (x : Reader). x.stage) t.then

  pub told_size : length line' ≡ length line
  told_size = written_size t.writes

-- a refusal that is told
pub refusal_told : {r r' : Reader} {number place : ℕ} {line line' : List ℕ} → Refusing r (shown number place) line r' line'
    → (number ≡ 0 → ⊥) → number < 256 → place < 18446744073709551616 → 32768 ≤ length line → told_line r' line' ≡ refusal_line number place
refusal_told {r} {r'} {number} {place} {line} {line'} t n h k room =
    told_text t (subst (λ (l : List ℕ). length l ≤ length line) (sym (refusal_text number place n)) (omega (arith, refusal_most number place h k)))
    ∙ refusal_text number place n
