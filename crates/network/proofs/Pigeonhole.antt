-- A list of distinct numbers below n has length at most n.
use mathlib.Core.Path.{◌≡◌, sym, ap, ◌∙◌}
use mathlib.Core.Bool.{Bool, true, false, true≢false, ◌||◌}
use mathlib.Core.List.{List, [], ◌∷◌}
use Prim.Native.Nat.{ℕ, ◌<◌, ◌≤◌}
use native.Mathlib.Omega.{arith}
use native.Mathlib.Decide.{ℕ_discrete}
use lib.Dec.{eqb}
use lib.ListN.{length}
use borrow.Author.Tests.{ne_eqb}
use Rattle.std.specs.List.{AllByRecursion, IsDistinct, list_any}
use Rattle.std.proofs.lemmas.Map.Steps.{length-le_from_distinct_below}

-- x is none of the list
abbrev pub Absent : ℕ → List ℕ → Type 0
Absent x [] = Unit {0}
Absent x (y ∷ ys) = (x ≡ y → ⊥) × Absent x ys

pub data Distinct : List ℕ → Type 0 where
  no_more : Distinct []
  and : {x : ℕ} {xs : List ℕ} → Absent x xs → Distinct xs → Distinct (x ∷ xs)

abbrev pub AllBelow : ℕ → List ℕ → Type 0
AllBelow n [] = Unit {0}
AllBelow n (x ∷ xs) = (x < n) × AllBelow n xs

apart : (x : ℕ) (xs : List ℕ) → Absent x xs → AllByRecursion (λ y. eqb x y ≡ false) xs
apart x [] a = tt
apart x (y ∷ ys) a = (ne_eqb x y a.0, apart x ys a.1)

all_apart : (xs : List ℕ) → Distinct xs → IsDistinct eqb xs
unfolding IsDistinct
all_apart [] no_more = tt
all_apart (x ∷ xs) (and a d) = (apart x xs a, all_apart xs d)

below : (n : ℕ) (xs : List ℕ) → AllBelow n xs → (q : ℕ) → list_any (eqb q) xs ≡ true → q < n
below n [] b q h = absurd (true≢false (sym h))
below n (x ∷ xs) b q h = go (below n xs b.1 q) (ℕ_discrete q x)
  where
    go : (list_any (eqb q) xs ≡ true → q < n) → Dec (q ≡ x) → q < n
    go behind (yes e) = omega (arith, b.0)
    go behind (no m) = behind (ap (λ (t : Bool). t || list_any (eqb q) xs) (sym (ne_eqb q x m)) ∙ h)

pub pigeonhole : (n : ℕ) (xs : List ℕ) → AllBelow n xs → Distinct xs → length xs ≤ n
pigeonhole n xs b d = length-le_from_distinct_below xs n (all_apart xs d) (below n xs b)
