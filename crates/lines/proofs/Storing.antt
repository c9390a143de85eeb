-- Texts written one behind the other.
use mathlib.Core.Path.{◌≡◌, refl, sym, ap, ◌∙◌}
use mathlib.Core.List.{List, [], ◌∷◌, ◌++◌, append_assoc, append-nil}
use Prim.Native.Nat.{ℕ, suc, ◌+◌, ◌-◌, ◌≤◌, ◌<◌}
use native.Mathlib.Nat.{zero-add, add-zero, add-suc, suc-add}
use native.Mathlib.Numerals.{add-one}
use native.Mathlib.Omega.{arith}
use lib.ListN.{length, get_or, set, take, drop, length-append}
use borrow.Rule.Slice.PartMut.{put_mid}
use lib.Seq.{sets, sets-eq, take-suc, take_all}
use Rattle.std.proofs.lemmas.List.{take-append-drop, drop_more}
use Rattle.std.proofs.lemmas.Slice.{put_mid-paste}
use Rattle.lines.specs.Text.{decimal, spaced, LineWritten, fits}
use Rattle.lines.specs.TextSteps.{Wrote, Room}
use Rattle.lines.specs.declared.text.Pen.{Pen}

sets_append : (l : List ℕ) (i : ℕ) (xs ys : List ℕ) → sets (sets l i xs) (i + length xs) ys ≡ sets l i (xs ++ ys)
sets_append l i [] ys = rw (add-zero i) refl
sets_append l i (x ∷ xs) ys = rw (add-suc i (length xs)) (rw (suc-add i (length xs)) at (sets_append (set l i x) (suc i) xs ys))

-- a text that is copied into a part of the line
pub put_sets : (l : List ℕ) (at : ℕ) {text part : List ℕ} → at + length text ≤ length l → part ≡ text → put_mid at (at + length text - at) l part ≡ sets l at text
put_sets l at {text} {part} h e =
    put_mid-paste at (at + length text - at) l part text (length text) e (omega arith) refl
    ∙ rw (take_all (length text) text (omega arith)) (sym (sets-eq text l at h))

-- one text behind another
pub wrote_both : {s t : List ℕ} {p q r : Pen} → Wrote s p q → Wrote t q r → Wrote (s ++ t) p r
wrote_both {s} {t} {p} {q} {r} v w = record {
  same_line = w.same_line ∙ v.same_line;
  as_long = w.as_long ∙ v.as_long;
  behind = omega (arith, v.behind, w.behind, length-append s t);
  holds = w.holds ∙ rw (v.holds, v.behind) (sets_append p.line.now p.at s t);
}

-- a text that has room and is written from the line's first byte on
pub line_written : {text line line' : List ℕ} {p q : Pen} → p.at ≡ 0 → p.line.now ≡ line → length text ≤ length line → Wrote text p q → line' ≡ q.line.now
    → LineWritten text line line' q.at
line_written {text} {line} {line'} {p} {q} z l h w e =
    let told : q.at ≡ length text = omega (arith, w.behind) in
    let behind : text ++ drop (0 + length text) line ≡ text ++ drop q.at line = ap (λ (k : ℕ). text ++ drop k line) (zero-add (length text) ∙ sym told) in
    fits h told (e ∙ w.holds ∙ rw (z, l) (sets-eq text line 0 (omega (arith, h)) ∙ behind))

-- ---- the legs, one by one

spaced_append : (ms ns : List ℕ) → spaced (ms ++ ns) ≡ spaced ms ++ spaced ns
spaced_append [] ns = refl
spaced_append (m ∷ ms) ns =
    ap (λ (s : List ℕ). 32 ∷ decimal m ++ s) (spaced_append ms ns) ∙ sym (append_assoc (32 ∷ decimal m) (spaced ms) (spaced ns))

module _ (legs : List ℕ) (i : ℕ) (h : i < length legs) where
  pub next_leg : spaced (take (i + 1) legs) ≡ spaced (take i legs) ++ (32 ∷ decimal (get_or legs i 0))
  next_leg =
      ap spaced (rw (add-one i) (take-suc legs i 0 h))
      ∙ spaced_append (take i legs) (get_or legs i 0 ∷ [])
      ∙ ap (λ (s : List ℕ). spaced (take i legs) ++ (32 ∷ s)) (append-nil (decimal (get_or legs i 0)))

  pub legs_around : spaced legs ≡ spaced (take i legs) ++ ((32 ∷ decimal (get_or legs i 0)) ++ spaced (drop (i + 1) legs))
  legs_around =
      ap spaced (sym (take-append-drop i legs))
      ∙ spaced_append (take i legs) (drop i legs)
      ∙ ap (λ (ns : List ℕ). spaced (take i legs) ++ spaced ns) (drop_more legs i 0 h)

-- where all legs have room, the next one has it behind those that are written
pub next_fits : (legs : List ℕ) (i : ℕ) {p q : Pen} → i < length legs → Room (spaced legs) p → Wrote (spaced (take i legs)) p q
    → Room (32 ∷ decimal (get_or legs i 0)) q
next_fits legs i h room w =
    omega (
      arith,
      room,
      w.behind,
      w.as_long,
      ap length (legs_around legs i h),
      length-append (spaced (take i legs)) ((32 ∷ decimal (get_or legs i 0)) ++ spaced (drop (i + 1) legs)),
      length-append (32 ∷ decimal (get_or legs i 0)) (spaced (drop (i + 1) legs)),
    )
