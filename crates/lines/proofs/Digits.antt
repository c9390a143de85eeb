-- A number's digits: that the library writes them, how many there are, and that they tell the number again.
use mathlib.Core.Path.{◌≡◌, refl, sym, ap, ◌∙◌}
use mathlib.Core.List.{List, [], ◌∷◌, ◌++◌}
use Prim.Native.Nat.{ℕ, zero, suc, ◌+◌, ◌*◌, ◌-◌, ◌/◌, ◌%◌, ◌^◌, ◌≤◌, ◌<◌}
use native.Mathlib.Nat.{pow-suc}
use native.Mathlib.Omega.{arith}
use native.Mathlib.Decide.{dec_lt}
use lib.ListN.{length, get_or, length-append, get_or-append}
use borrow.Author.Tests.{lt-ltb, le-ltb}
use Rattle.std.specs.Fmt as printing
use Rattle.std.proofs.lemmas.Fmt.{decimal_by_steps}
use Rattle.lines.specs.Text.{digits, decimal}

digits_one : (f n : ℕ) → n < 10 → digits (suc f) n ≡ (48 + n) ∷ []
unfolding digits
digits_one f n h = rw (lt-ltb n 10 h, digits) refl

digits_more : (f n : ℕ) → 9 < n → digits (suc f) n ≡ digits f (n / 10) ++ ((48 + n % 10) ∷ [])
unfolding digits
digits_more f n h = rw (le-ltb n 10 h, digits) refl

-- more room than the number needs changes nothing
digits_same : (f g n : ℕ) → n < f → n < g → digits f n ≡ digits g n
digits_same zero g n a b = absurd (omega arith)
digits_same (suc f) zero n a b = absurd (omega arith)
digits_same (suc f) (suc g) n a b =
    elim (dec_lt n 10) [
      | yes h ↦ digits_one f n h ∙ sym (digits_one g n h)
      | no h ↦ digits_more f n (omega arith)
          ∙ ap (λ (front : List ℕ). front ++ ((48 + n % 10) ∷ [])) (digits_same f g (n / 10) (omega arith) (omega arith))
          ∙ sym (digits_more g n (omega arith))
    ]

decimal_one : (n : ℕ) → n < 10 → decimal n ≡ (48 + n) ∷ []
unfolding decimal
decimal_one n h = digits_one n n h

decimal_more : (n : ℕ) → 9 < n → decimal n ≡ decimal (n / 10) ++ ((48 + n % 10) ∷ [])
unfolding decimal
decimal_more n h =
    digits_more n n h ∙ ap (λ (front : List ℕ). front ++ ((48 + n % 10) ∷ [])) (digits_same n (suc (n / 10)) (n / 10) (omega arith) (omega arith))

length_one : (n : ℕ) → n < 10 → length (decimal n) ≡ 1
length_one n h = rw (decimal_one n h) refl

length_more : (n : ℕ) → 9 < n → length (decimal n) ≡ length (decimal (n / 10)) + 1
length_more n h = rw (decimal_more n h) (length-append (decimal (n / 10)) ((48 + n % 10) ∷ []))

some_digit : (n : ℕ) → 1 ≤ length (decimal n)
some_digit n = elim (dec_lt n 10) [ yes h ↦ omega (arith, length_one n h) | no h ↦ let m : 9 < n = omega arith in omega (arith, length_more n m) ]

-- the library's text of a 64-bit number
pub decimal_printed : (n : ℕ) → n < 2 ^ 64 → printing.decimal n ≡ decimal n
decimal_printed n b =
    decimal_by_steps
    (λ n digits. digits ≡ decimal n)
    (λ n one. sym (decimal_one n one))
    (λ n digits many e. ap (λ (front : List ℕ). front ++ ((48 + n % 10) ∷ [])) e ∙ sym (decimal_more n (omega arith)))
    n
    b

pub decimal_most : (k n : ℕ) → n < 10 ^ suc k → length (decimal n) ≤ suc k
decimal_most zero n h = let one : n < 10 = h in omega (arith, length_one n one)
decimal_most (suc k) n h =
    elim (dec_lt n 10) [
      | yes one ↦ omega (arith, length_one n one)
      | no many ↦ let m : 9 < n = omega arith in
          let t : n / 10 < 10 ^ suc k = omega (arith, rw (pow-suc 10 (suc k)) at h) in
          omega (arith, length_more n m, decimal_most k (n / 10) t)
    ]

-- ---- the definition says what it should: the digits tell the number, and none but `0` itself begins with a zero

-- the number that the digits tell, read from the first to the last behind `before`
abbrev pub told : (before : ℕ) → List ℕ → ℕ
told before [] = before
told before (d ∷ ds) = told (10 * before + (d - 48)) ds

told_append : (before : ℕ) (ds es : List ℕ) → told before (ds ++ es) ≡ told (told before ds) es
told_append before [] es = refl
told_append before (d ∷ ds) es = told_append (10 * before + (d - 48)) ds es

told_within : (f n : ℕ) → n < f → told 0 (decimal n) ≡ n
told_within zero n a = absurd (omega arith)
told_within (suc f) n a =
    elim (dec_lt n 10) [
      | yes h ↦ rw (decimal_one n h) (omega arith)
      | no h ↦ let m : 9 < n = omega arith in
          rw (decimal_more n m, told_append 0 (decimal (n / 10)) ((48 + n % 10) ∷ []), told_within f (n / 10) (omega arith)) (omega arith)
    ]

pub decimal_told : (n : ℕ) → told 0 (decimal n) ≡ n
decimal_told n = told_within (n + 1) n (omega arith)

no_zero_within : (f n : ℕ) → n < f → 0 < n → 48 < get_or (decimal n) 0 0
no_zero_within zero n a p = absurd (omega arith)
no_zero_within (suc f) n a p =
    elim (dec_lt n 10) [
      | yes h ↦ rw (decimal_one n h) (omega arith)
      | no h ↦ let m : 9 < n = omega arith in
          rw (decimal_more n m, get_or-append (decimal (n / 10)) ((48 + n % 10) ∷ []) 0 0 (some_digit (n / 10)))
          (no_zero_within f (n / 10) (omega arith) (omega arith))
    ]

pub no_leading_zero : (n : ℕ) → 0 < n → 48 < get_or (decimal n) 0 0
no_leading_zero n = no_zero_within (n + 1) n (omega arith)
