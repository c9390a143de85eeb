-- How long a line is, and that a promise allows one line only.
use mathlib.Core.Path.{◌≡◌, sym, ap, ◌∙◌}
use mathlib.Core.Bool.{Bool, true, false, cond}
use mathlib.Core.List.{List, [], ◌∷◌, ◌++◌, append_assoc, append-nil}
use Prim.Native.Nat.{ℕ, suc, ◌+◌, ◌*◌, ◌≤◌, ◌<◌}
use native.Mathlib.Omega.{arith}
use lib.ListN.{length, get_or, take, drop, length-append, length-take}
use lib.Dec.{eqb}
use lib.Seq.{get_or-take}
use Rattle.network.specs.declared.answer.Answer.{Answer}
use Rattle.lines.specs.Text.{decimal, spaced, journey_line, refusal_line, line_of, LineWritten, fits, short}
use Rattle.lines.specs.TextSteps.{Wrote}
use Rattle.lines.specs.declared.text.Pen.{Pen}
use Rattle.lines.proofs.Digits.{decimal_most}
use Rattle.lines.proofs.Storing.{wrote_both}

pub length_refusal : (number place : ℕ) → length (refusal_line number place) ≡ 4 + (length (decimal number) + length (decimal place))
length_refusal number place =
    omega (
      arith,
      length-append (spaced (number ∷ place ∷ [])) (10 ∷ []),
      length-append (decimal number) (spaced (place ∷ [])),
      length-append (decimal place) [],
    )

pub length_journey : (seconds count : ℕ) (legs : List ℕ) → length (journey_line seconds count legs)
    ≡ 2 + (length (decimal seconds) + length (decimal count)) + length (spaced legs)
length_journey seconds count legs =
    omega (
      arith,
      length-append (decimal seconds ++ spaced (count ∷ legs)) (10 ∷ []),
      length-append (decimal seconds) (spaced (count ∷ legs)),
      length-append (decimal count) (spaced legs),
    )

-- legs are 16-bit numbers: five digits and a space
pub spaced_most : (legs : List ℕ) → ((i : ℕ) → i < length legs → get_or legs i 0 < 65536) → length (spaced legs) ≤ 6 * length legs
spaced_most [] f = omega arith
spaced_most (leg ∷ legs) f =
    let small : leg < 65536 = f 0 (omega arith) in
    let five : length (decimal leg) ≤ 5 = decimal_most 4 leg (omega arith) in
    omega (arith, length-append (decimal leg) (spaced legs), spaced_most legs (λ i h. f (suc i) (omega arith)))

pub journey_most : (seconds count : ℕ) (legs : List ℕ) → seconds < 18446744073709551616 → count < 4294967296
    → ((i : ℕ) → i < length legs → get_or legs i 0 < 65536) → length (journey_line seconds count legs) ≤ 32 + 6 * length legs
journey_most seconds count legs s c f =
    let twenty : length (decimal seconds) ≤ 20 = decimal_most 19 seconds (omega arith) in
    let ten : length (decimal count) ≤ 10 = decimal_most 9 count (omega arith) in
    omega (arith, length_journey seconds count legs, spaced_most legs f)

-- ---- a line is put part by part

module _ (number place : ℕ) {p q r s t : Pen} where
  pub refusal_wrote : Wrote (33 ∷ []) p q → Wrote (32 ∷ decimal number) q r → Wrote (32 ∷ decimal place) r s → Wrote (10 ∷ []) s t
      → Wrote (refusal_line number place) p t
  refusal_wrote a b c d =
      let parts : refusal_line number place ≡ ((33 ∷ []) ++ (32 ∷ decimal number)) ++ (32 ∷ decimal place) ++ (10 ∷ []) =
      ap (λ (x : List ℕ). 33 ∷ 32 ∷ ((decimal number ++ (32 ∷ x)) ++ (10 ∷ []))) (append-nil (decimal place)) in
      rw parts (wrote_both (wrote_both (wrote_both a b) c) d)

module _ (seconds count : ℕ) (legs : List ℕ) {p q r s t : Pen} where
  pub journey_wrote : Wrote (decimal seconds) p q → Wrote (32 ∷ decimal count) q r → Wrote (spaced legs) r s → Wrote (10 ∷ []) s t
      → Wrote (journey_line seconds count legs) p t
  journey_wrote a b c d =
      let parts : journey_line seconds count legs ≡ (decimal seconds ++ (32 ∷ decimal count)) ++ spaced legs ++ (10 ∷ []) =
      ap (λ (x : List ℕ). x ++ (10 ∷ [])) (sym (append_assoc (decimal seconds) (32 ∷ decimal count) (spaced legs))) in
      rw parts (wrote_both (wrote_both (wrote_both a b) c) d)

-- ---- two results that the promise of `write_line` allows are equal

pub line_unique : {text line line₁ line₂ : List ℕ} {r₁ r₂ : ℕ} → LineWritten text line line₁ r₁ → LineWritten text line line₂ r₂
    → (r₁ ≡ r₂) × (line₁ ≡ line₂)
line_unique {text} {line} (fits a b c) (fits d e f) = (b ∙ sym e, c ∙ ap (λ (k : ℕ). text ++ drop k line) (b ∙ sym e) ∙ sym f)
line_unique (fits a b c) (short d e f) = absurd (omega arith)
line_unique (short a b c) (fits d e f) = absurd (omega arith)
line_unique (short a b c) (short d e f) = (b ∙ sym e, c ∙ sym f)

-- ---- the program's line room, 32,768 bytes, is enough

pub refusal_most : (number place : ℕ) → number < 256 → place < 18446744073709551616 → length (refusal_line number place) ≤ 27
refusal_most number place n p =
    let three : length (decimal number) ≤ 3 = decimal_most 2 number (omega arith) in
    let twenty : length (decimal place) ≤ 20 = decimal_most 19 place (omega arith) in
    omega (arith, length_refusal number place)

-- what an answer's number types hold, with at most 4,096 legs of 16 bits
pub line_short : (a : Answer) (legs : List ℕ) → a.number < 256 → a.place < 18446744073709551616 → a.time < 18446744073709551616
    → a.count < 4294967296 → length legs ≤ 4096 → ((i : ℕ) → i < length legs → get_or legs i 0 < 65536) → length (line_of a legs) ≤ 32768
line_short a legs n p t c k f = go (eqb a.number 0)
  where
    go : (b : Bool) → length (cond b (journey_line a.time a.count legs) (refusal_line a.number a.place)) ≤ 32768
    go true = omega (arith, journey_most a.time a.count legs t c f)
    go false = omega (arith, refusal_most a.number a.place n p)

-- the legs of a journey that stands in the program's room of 4,096 places
pub told_short : (a : Answer) (journey : List ℕ) → a.number < 256 → a.place < 18446744073709551616 → a.time < 18446744073709551616
    → a.count < 4294967296 → length journey ≤ 4096 → ((i : ℕ) → i < length journey → get_or journey i 0 < 65536)
    → length (line_of a (take a.count journey)) ≤ 32768
told_short a journey n p t c k f = line_short a (take a.count journey) n p t c (omega (arith, length-take a.count journey)) each
  where
    each : (i : ℕ) → i < length (take a.count journey) → get_or (take a.count journey) i 0 < 65536
    each i h =
        let counted : i < a.count = omega (arith, length-take a.count journey) in
        let there : i < length journey = omega (arith, length-take a.count journey) in
        rw (get_or-take a.count journey i 0 counted) (f i there)
