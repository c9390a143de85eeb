-- Fed any stream, the reader writes the text that the stream owes.
use mathlib.Core.Path.{◌≡◌, refl, sym, ◌∙◌, ap, ap₂, subst, subst₂}
use mathlib.Core.Logic.{◌⊎◌, inl, inr}
use mathlib.Core.Bool.{Bool, true, false}
use mathlib.Core.List.{List, [], ◌∷◌, ◌++◌, append_assoc, append-nil, Memᴰ}
use Prim.Native.Nat.{ℕ, suc, ◌+◌, ◌<◌, ◌≤◌}
use native.Mathlib.Omega.{arith}
use lib.ListN.{length, take, length-append}
use Rattle.network.specs.Refusal.{Passed, sheet_order}
use Rattle.network.specs.Answers.{shown}
use Rattle.records.specs.declared.reader.Kind.{Kind}
use Rattle.records.specs.declared.reader.Kind.TheVariants as kind
use Rattle.records.specs.declared.reader.Stage.TheVariants.{Ended, Over}
use Rattle.records.specs.declared.reader.Reader.{Reader}
use Rattle.records.proofs.KindLaws.{kind_unique}
use Rattle.card.specs.Records.{bytes_of}
use Rattle.lines.specs.Text.{refusal_line}
use Rattle.card.specs.Stream.{Stage, start, ready, ended, due, no_sheet, some_sheet, Text, over, stops, misplaced, cut, goes_on, refuses, StreamText}
use Rattle.records.specs.Reader.{begun, code_of, holding, byte_at, awaits, Misplaced, size_of}
use Rattle.card.specs.Reading.{Lent, Refusing, Taken, Held, waits, takes, unknown, Fed, Finished}
use Rattle.card.specs.Running.{Bytes, Enough, told_line, Run, finishes, reads}
use Rattle.card.proofs.RecordBytes.{known_cut}
use Rattle.card.proofs.ToldLines.{told_stage, refusal_told}
use Rattle.card.proofs.Invariant.{core, network_at, AcceptedAt, At, at_start, at_nodes, at_edges, at_ready, at_states, at_asking, at_end, not_over, Awaited, due_awaited, head_awaited, node_awaited, edge_awaited, sheet_awaited, state_awaited, question_awaited, none_awaited, Between, Inside, Full, size_most, first_held, gathered_first, gathered_more, first_byte, Acts}
use Rattle.card.proofs.Invariant
use Rattle.card.proofs.SimpleOutcomes.{head_acts, sheet_acts, end_acts, state_acts}
use Rattle.card.proofs.NetworkOutcomes.{node_acts, edge_acts}
use Rattle.card.proofs.QuestionOutcomes.{asking_at, question_acts}

-- a whole record, by the stage in which it comes
record_acts : {k : Kind} {s : Stage} {off : ℕ} {full : List ℕ} {q r' : Reader} {L L' : Lent} → Full k s off full q L → Taken k q L r' L'
    → Acts s full off r' L'
record_acts {k} {s} {off} {full} {q} {r'} {L} {L'} F t = go F.inside.at
  where
    back : {k' : Kind} {s' : Stage} → k ≡ k' → s ≡ s' → (Full k' s' off full q L → Taken k' q L r' L' → Acts s' full off r' L')
        → Acts s full off r' L'
    back {k'} {s'} e f acts =
        subst (λ (x : Stage). Acts x full off r' L') (sym f)
        (acts (subst₂ (λ (x : Kind) (y : Stage). Full x y off full q L) e f F) (subst (λ (x : Kind). Taken x q L r' L') e t))

    sheet_or_end : AcceptedAt (core q) L → s ≡ ready (network_at (core q) L) → (k ≡ kind.Sheet) ⊎ (k ≡ kind.End) → Acts s full off r' L'
    sheet_or_end a f (inl e) = back e f (λ G u. sheet_acts G no_sheet u.1 a u.0)
    sheet_or_end a f (inr e) = back e f (λ G u. end_acts G no_sheet u.0 u.1)

    any : AcceptedAt (core q) L → Passed (sheet_order q.sheet) → s ≡ asking_at q L
        → (k ≡ kind.Question) ⊎ ((k ≡ kind.Sheet) ⊎ (k ≡ kind.End)) → Acts s full off r' L'
    any a p f (inl e) = back e f (λ G u. question_acts G a p u)
    any a p f (inr (inl e)) = back e f (λ G u. sheet_acts G some_sheet u.1 a u.0)
    any a p f (inr (inr e)) = back e f (λ G u. end_acts G some_sheet u.0 u.1)

    go : At L (core q) s → Acts s full off r' L'
    go (at_start e f) = back (head_awaited k e F.inside.due) f (λ G u. head_acts G u.1 u.0)
    go (at_nodes e d f) = back (node_awaited k e F.inside.due) f (λ G u. node_acts G d u)
    go (at_edges e d f) = back (edge_awaited k e F.inside.due) f (λ G u. edge_acts G d u)
    go (at_ready e a f) = sheet_or_end a f (sheet_awaited k e F.inside.due)
    go (at_states e a d f) = back (state_awaited k e F.inside.due) f (λ G u. state_acts G d u.1 a u.0)
    go (at_asking e a p f) = any a p f (question_awaited k e F.inside.due)
    go (at_end e f) = absurd (none_awaited k e F.inside.due)

-- a byte ------------------------------------------------------------------------------------------------------------------------------------------

-- what comes of a byte, with which `full` are held of the record at hand
data Step (s : Stage) (off : ℕ) (full : List ℕ) (r' : Reader) (L' : Lent) : Type 0 where
  out_of_place : {byte : ℕ} → full ≡ byte ∷ [] → (Memᴰ byte (due s) → ⊥) → r'.stage ≡ Over → told_line r' L'.line ≡ refusal_line 12 off
      → Step s off full r' L'
  gathers : (k : Kind) → Inside k s off full r' L' → r'.held < size_of k → r'.written ≡ 0 → Step s off full r' L'
  acts : Acts s full off r' L' → Step s off full r' L'

-- a refusal 12
twelve_told : {r r' : Reader} {off : ℕ} {line line' : List ℕ} → Refusing r (shown 12 r.offset) line r' line' → r.offset ≡ off
    → off < 4611686018427387904
    → 32768 ≤ length line → told_line r' line' ≡ refusal_line 12 off
twelve_told {r} t e h room =
    refusal_told {number = 12} {place = r.offset} t (λ z. omega arith) (omega arith) (omega (arith, e, h)) room ∙ ap (refusal_line 12) e

true_or_false : (b : Bool) → (b ≡ true) ⊎ (b ≡ false)
true_or_false true = inl refl
true_or_false false = inr refl

held_step : {k : Kind} {s : Stage} {off : ℕ} {full : List ℕ} {q r' : Reader} {L L' : Lent} → Inside k s off full q L → q.written ≡ 0
    → q.held ≤ size_of k → off + length full < 4611686018427387904 → Held q L r' L' → Step s off full r' L'
held_step {k} {s} {off} {full} I w m h (waits k' c u e f) =
    let same : size_of k' ≡ size_of k = ap size_of (kind_unique k' k (c ∙ sym I.first)) in
    subst₂ (Step s off full) (sym e) (sym f) (gathers k I (omega (arith, same, u)) w)
held_step {k} {q = q} {r'} {L} {L'} I w m h (takes k' c u t) =
    let same : k' ≡ k = kind_unique k' k (c ∙ sym I.first) in
    acts (record_acts (record { inside = I; whole = omega (arith, ap size_of same, u, m); early = h })
    (subst (λ (x : Kind). Taken x q L r' L') same t))
held_step {k} I w m h (unknown n t l) = absurd (n k I.first)

module _ {s : Stage} {off : ℕ} {r : Reader} {L : Lent} (b : ℕ) (B : Between s off r L) where
  -- a first byte that may come is of a kind that is awaited
  first_kind : {r' : Reader} {L' : Lent} → (Misplaced r b → ⊥) → Held (holding r b) L r' L' → Awaited r.stage b
  first_kind m h = go h
    where
      known : (k : Kind) → code_of k ≡ byte_at (holding r b) 0 → Awaited r.stage b
      known k c = by (true_or_false (awaits r.stage k))
        where
          code : code_of k ≡ b
          code = c ∙ first_held b B

          by : (awaits r.stage k ≡ true) ⊎ (awaits r.stage k ≡ false) → Awaited r.stage b
          by (inl d) = record { kind = k; code = code; due = d }
          by (inr n) = absurd (m (record {
            first = B.none_held;
            not_due = λ k' c'. subst (λ (x : Kind). awaits r.stage x ≡ false) (kind_unique k k' (code ∙ sym c')) n;
          }))

      go : {r'' : Reader} {L'' : Lent} → Held (holding r b) L r'' L'' → Awaited r.stage b
      go (waits k c u e f) = known k c
      go (takes k c u t) = known k c
      go (unknown n t l) = absurd (m (record { first = B.none_held; not_due = λ k c. absurd (n k (c ∙ sym (first_held b B))) }))

  first_step : {r' : Reader} {L' : Lent} → b < 256 → off + 1 < 4611686018427387904 → Fed r b L r' L' → Step s off (b ∷ []) r' L'
  first_step h short (Fed.over o e f) = absurd (not_over B.at o)
  first_step h short (Fed.misplaced o m t f) =
      out_of_place refl
      (λ d. let w : Awaited r.stage b = due_awaited B.enough B.at b d in
      let wrong : awaits r.stage w.kind ≡ false = m.not_due w.kind w.code in
      Invariant.no_kind (sym wrong ∙ w.due))
      (told_stage t)
      (twelve_told t B.here (omega (arith, short)) B.enough.line)
  first_step h short (Fed.held o m t) =
      let w : Awaited r.stage b = first_kind m t in
      let I : Inside w.kind s off (b ∷ []) (holding r b) L = gathered_first b B h w.code w.due in
      held_step I refl (omega (arith, I.counted, (size_most w.kind).0)) short t

next_step : {k : Kind} {s : Stage} {off : ℕ} {full : List ℕ} {r r' : Reader} {L L' : Lent} (b : ℕ) → Inside k s off full r L → r.held < size_of k
    → b < 256 → off + length (full ++ b ∷ []) < 4611686018427387904 → Fed r b L r' L' → Step s off (full ++ b ∷ []) r' L'
next_step b I u h short (Fed.over o e f) = absurd (not_over I.at o)
next_step b I u h short (Fed.misplaced o m t f) = absurd (omega (arith, m.first, I.some, I.counted))
next_step {k} {s} {off} {full} {r} {L = L} b I u h short (Fed.held o m t) =
    let J : Inside k s off (full ++ b ∷ []) (holding r b) L = gathered_more b I u h in
    held_step J refl (omega (arith, u, J.counted, I.counted, length-append full (b ∷ []))) short t

-- whole streams -----------------------------------------------------------------------------------------------------------------------------

-- once the stream is over, nothing more is written
silent : (bs : List ℕ) {r : Reader} {L : Lent} {text : List ℕ} → r.stage ≡ Over → Run r L bs text → text ≡ []
silent [] o (finishes {line' = line'} (Finished.over o' e l) f) = f ∙ ap (λ (x : Reader). told_line x line') e
silent [] o (finishes (Finished.ended o' e l) f) = cc
silent [] o (finishes (Finished.stops n n' t) f) = absurd (n o)
silent (b ∷ bs) o (reads {r' = r'} {L' = L'} (Fed.over o' e l) s f) =
    f ∙ ap₂ ◌++◌ (ap (λ (x : Reader). told_line x L'.line) e) (silent bs (ap (λ (x : Reader). x.stage) e) s)
silent (b ∷ bs) o (reads (Fed.misplaced n m t l) s f) = absurd (n o)
silent (b ∷ bs) o (reads (Fed.held n m h) s f) = absurd (n o)

-- the end of input
not_ended : {L : Lent} {c : Invariant.Core} {s : Stage} → At L c s → (c.stage ≡ Ended → ⊥) → s ≡ ended → ⊥
not_ended (at_start e f) n g = let z : ◌≡◌ {A = ℕ} 0 1 = cc in omega arith
not_ended (at_nodes e d f) n g = let z : ◌≡◌ {A = ℕ} 0 1 = cc in omega arith
not_ended (at_edges e d f) n g = let z : ◌≡◌ {A = ℕ} 0 1 = cc in omega arith
not_ended (at_ready e a f) n g = let z : ◌≡◌ {A = ℕ} 0 1 = cc in omega arith
not_ended (at_states e a d f) n g = let z : ◌≡◌ {A = ℕ} 0 1 = cc in omega arith
not_ended (at_asking e a p f) n g = let z : ◌≡◌ {A = ℕ} 0 1 = cc in omega arith
not_ended (at_end e f) n g = n e

is_ended : {L : Lent} {c : Invariant.Core} {s : Stage} → At L c s → c.stage ≡ Ended → s ≡ ended
is_ended (at_start e f) o = cc
is_ended (at_nodes e d f) o = cc
is_ended (at_edges e d f) o = cc
is_ended (at_ready e a f) o = cc
is_ended (at_states e a d f) o = cc
is_ended (at_asking e a p f) o = cc
is_ended (at_end e f) o = f

-- What is read of the bytes bs from a place between records, and from inside a record.
record Reading_on (bs : List ℕ) : Type 0 where
  between : (s : Stage) (off : ℕ) (r : Reader) (L : Lent) (text : List ℕ) → Between s off r L → off + length bs < 4611686018427387904
      → Run r L bs text → Text s off bs text
  inside : (k : Kind) (s : Stage) (off : ℕ) (full : List ℕ) (r : Reader) (L : Lent) (text : List ℕ) → Inside k s off full r L → r.held < size_of k
      → off + length full + length bs < 4611686018427387904 → Run r L bs text → Text s off (full ++ bs) text

-- a refusal and then silence
ends_here : {r : Reader} {L : Lent} {bs chunk rest all line : List ℕ} → r.stage ≡ Over → Run r L bs rest → chunk ≡ line → all ≡ chunk ++ rest
    → all ≡ line
ends_here {bs = bs} {line = line} o run e f = f ∙ ap₂ ◌++◌ e (silent bs o run) ∙ append-nil line

go_on : {s : Stage} {off : ℕ} {full bs text all : List ℕ} {r' : Reader} {L' : Lent} → Reading_on bs
    → off + length full + length bs < 4611686018427387904
    → Step s off full r' L' → Run r' L' bs text → all ≡ told_line r' L'.line ++ text → Text s off (full ++ bs) all
go_on {s} {off} {full} {bs} {text} {all} ih short (out_of_place {byte} e n o w) run f =
    subst₂ (Text s off) (ap (λ l. l ++ bs) (sym e)) (sym (ends_here o run w f)) (misplaced n)
go_on {s} {off} {full} {bs} {text} {all} {r'} {L'} ih short (gathers k I u w) run f =
    subst (Text s off (full ++ bs)) (sym (f ∙ ap (λ n. take n L'.line ++ text) w)) (ih.inside k s off full r' L' text I u short run)
go_on {s} {off} {full} {bs} {text} {all} {r'} {L'} ih short (acts A) run f = by A.outcome
  where
    by : Invariant.Outcome s A.what off r' L' → Text s off (full ++ bs) all
    by (Invariant.goes {s' = s'} follows B w) =
        goes_on (ap (λ l. l ++ bs) A.same) follows
        (ih.between s' (off + length (bytes_of A.what)) r' L' text B (omega (arith, ap length A.same, short)) run)
        (f ∙ ap (λ l. l ++ text) w)
    by (Invariant.stops refused o w) =
        subst (Text s off (full ++ bs)) (sym (ends_here o run w f)) (refuses bs (ap (λ l. l ++ bs) A.same) refused)

none_after_end : {k : Kind} {s : Stage} {off : ℕ} {full : List ℕ} {r : Reader} {L : Lent} → Inside k s off full r L → r.stage ≡ Ended → ⊥
none_after_end {k} I o = none_awaited k o I.due

none_left : Reading_on []
none_left = record { between = λ s off r L text B h run. at_end_between B h run; inside = λ k s off full r L text I u h run. at_end_inside I u h run }
  where
    at_end_between : {s : Stage} {off : ℕ} {r : Reader} {L : Lent} {text : List ℕ} → Between s off r L → off + 0 < 4611686018427387904
        → Run r L [] text
        → Text s off [] text
    at_end_between B h (finishes (Finished.over o e l) f) = absurd (not_over B.at o)
    at_end_between {s} {off} B h (finishes {line' = line'} (Finished.ended o e l) f) =
        subst₂ (λ (x : Stage) (t : List ℕ). Text x off [] t) (sym (is_ended B.at o)) (sym (f ∙ ap (λ (x : Reader). told_line x line') e)) over
    at_end_between {s} {off} B h (finishes (Finished.stops n n' t) f) =
        subst (Text s off []) (sym (f ∙ twelve_told t B.here (omega (arith, h)) B.enough.line)) (stops (not_ended B.at n'))

    at_end_inside : {k : Kind} {s : Stage} {off : ℕ} {full : List ℕ} {r : Reader} {L : Lent} {text : List ℕ} → Inside k s off full r L
        → r.held < size_of k
        → off + length full + 0 < 4611686018427387904 → Run r L [] text → Text s off (full ++ []) text
    at_end_inside I u h (finishes (Finished.over o e l) f) = absurd (not_over I.at o)
    at_end_inside {r = r} I u h (finishes (Finished.ended o e l) f) = absurd (none_after_end I o)
    at_end_inside {k} {s} {off} {full} {r} I u h (finishes (Finished.stops n n' t) f) =
        subst₂ (Text s off) (sym (append-nil full)) (sym (f ∙ twelve_told t I.here (omega (arith, h)) I.enough.line))
        (cut (known_cut k full I.bytes (I.first ∙ sym (first_byte I)) I.some (omega (arith, u, I.counted))))

one_byte : (b : ℕ) (bs : List ℕ) → b < 256 → Reading_on bs → Reading_on (b ∷ bs)
one_byte b bs y later = record {
  between = λ s off r L text B h run. begins B h run;
  inside = λ k s off full r L text I u h run. goes_further I u h run;
}
  where
    begins : {s : Stage} {off : ℕ} {r : Reader} {L : Lent} {text : List ℕ} → Between s off r L → off + suc (length bs) < 4611686018427387904
        → Run r L (b ∷ bs) text → Text s off (b ∷ bs) text
    begins B h (reads fed run f) = go_on later (omega (arith, h)) (first_step b B y (omega (arith, h)) fed) run f

    goes_further : {k : Kind} {s : Stage} {off : ℕ} {full : List ℕ} {r : Reader} {L : Lent} {text : List ℕ} → Inside k s off full r L
        → r.held < size_of k
        → off + length full + suc (length bs) < 4611686018427387904 → Run r L (b ∷ bs) text → Text s off (full ++ b ∷ bs) text
    goes_further {k} {s} {off} {full} {text = text} I u h (reads fed run f) =
        subst (λ (l : List ℕ). Text s off l text) (append_assoc full (b ∷ []) bs)
        (go_on later (omega (arith, h, length-append full (b ∷ [])))
        (next_step b I u y (omega (arith, h, length-append full (b ∷ []))) fed) run f)

reading_on : (bs : List ℕ) → Bytes bs → Reading_on bs
reading_on [] y = none_left
reading_on (b ∷ bs) y = one_byte b bs y.0 (reading_on bs y.1)

-- Lent enough, the reader writes of any stream exactly the text that the stream owes.
pub stream_text : {L : Lent} {bytes text : List ℕ} → Enough L → Bytes bytes → length bytes < 4611686018427387904 → Run begun L bytes text
    → StreamText bytes text
stream_text {L} {bytes} {text} enough y h run =
    (reading_on bytes y).between start 0 begun L text
    (record { at = at_start refl refl; enough = enough; here = refl; none_held = refl; eight = refl }) (omega (arith, h)) run
