-- The lines that the unit writes (01, "Card stream"), as lists of bytes.
use Rattle.std.specs.Prelude.{◌≡◌, refl, true, false, cond, List, [], ◌∷◌, ◌++◌, ℕ, zero, suc, ◌+◌, ◌<◌, ◌≤◌, ◌/◌, ◌%◌, ltb, eqb, length, drop}
use Rattle.network.specs.declared.answer.Answer.{Answer}

-- The digits of n, where `0` is byte 48: those of its tenth part, then its last; no more than `most` of them.
unfoldable pub digits : (most n : ℕ) → List ℕ
digits zero n = []
digits (suc most) n = elim (ltb n 10) [ true ↦ (48 + n) ∷ [] | false ↦ digits most (n / 10) ++ ((48 + n % 10) ∷ []) ]

-- "decimal digits without leading zeros"; zero is `0`. No n has more than n + 1 digits.
-- (proofs/Digits: they tell n again, and none but `0` begins with a zero.)
unfoldable pub decimal : ℕ → List ℕ
decimal n = digits (suc n) n

-- each number with a single space (32) before it
abbrev pub spaced : List ℕ → List ℕ
spaced [] = []
spaced (n ∷ ns) = 32 ∷ decimal n ++ spaced ns

-- "seconds, edge count, edge numbers, with single spaces"; "each line ends with LF" (10)
abbrev pub journey_line : (seconds count : ℕ) (legs : List ℕ) → List ℕ
journey_line seconds count legs = decimal seconds ++ spaced (count ∷ legs) ++ 10 ∷ []

-- "A refusal is `!`, number, place" (`!` is byte 33)
abbrev pub refusal_line : (number place : ℕ) → List ℕ
refusal_line number place = 33 ∷ spaced (number ∷ place ∷ []) ++ 10 ∷ []

-- the line of an answer whose journey has these legs
abbrev pub line_of : Answer → List ℕ → List ℕ
line_of a legs = cond (eqb a.number 0) (journey_line a.time a.count legs) (refusal_line a.number a.place)

-- The text stands in front of the room that was `line`, the rest of the room as it was, and r is the text's length. Or the room is too short for
-- the text: it is as it was, and r is 0.
pub data LineWritten (text line line' : List ℕ) (r : ℕ) : Type 0 where
  fits : length text ≤ length line → r ≡ length text → line' ≡ text ++ drop r line → LineWritten text line line' r
  short : length line < length text → r ≡ 0 → line' ≡ line → LineWritten text line line' r

-- 01's own lines: `22 6 0 1 2 3 4 5`, `! 7 0`, `0 0`, `42 4 0 1 7 5`
abbrev answered : (time count : ℕ) → Answer
answered time count = record { number = 0; place = 0; time = time; count = count }

abbrev refused : (number place : ℕ) → Answer
refused number place = record { number = number; place = place; time = 0; count = 0 }

through_rail : line_of (answered 22 6) (0 ∷ 1 ∷ 2 ∷ 3 ∷ 4 ∷ 5 ∷ [])
    ≡ 50 ∷ 50 ∷ 32 ∷ 54 ∷ 32 ∷ 48 ∷ 32 ∷ 49 ∷ 32 ∷ 50 ∷ 32 ∷ 51 ∷ 32 ∷ 52 ∷ 32 ∷ 53 ∷ 10 ∷ []
unfolding decimal digits
through_rail = refl

no_way : line_of (refused 7 0) [] ≡ 33 ∷ 32 ∷ 55 ∷ 32 ∷ 48 ∷ 10 ∷ []
unfolding decimal digits
no_way = refl

staying : line_of (answered 0 0) [] ≡ 48 ∷ 32 ∷ 48 ∷ 10 ∷ []
unfolding decimal digits
staying = refl

on_foot : line_of (answered 42 4) (0 ∷ 1 ∷ 7 ∷ 5 ∷ []) ≡ 52 ∷ 50 ∷ 32 ∷ 52 ∷ 32 ∷ 48 ∷ 32 ∷ 49 ∷ 32 ∷ 55 ∷ 32 ∷ 53 ∷ 10 ∷ []
unfolding decimal digits
on_foot = refl

-- and zeros within a number: `! 12 1020`
cut_record : line_of (refused 12 1020) [] ≡ 33 ∷ 32 ∷ 49 ∷ 50 ∷ 32 ∷ 49 ∷ 48 ∷ 50 ∷ 48 ∷ 10 ∷ []
unfolding decimal digits
cut_record = refl
