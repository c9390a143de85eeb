-- Lists that rise by a strict order are fixed by their members. The order of contraction and that of one node's shortcuts are such orders.
use mathlib.Core.Path.{◌≡◌, refl, sym, ◌∙◌, subst}
use mathlib.Core.Logic.{◌⊎◌, inl, inr}
use mathlib.Core.List.Memᴰ
use mathlib.Core.List.{List, [], ◌∷◌, Memᴰ}
use Prim.Native.Nat.{ℕ}
use native.Mathlib.Omega.{arith}
use Rattle.network.specs.declared.rows.Row.{Row}
use Rattle.network.specs.Order.{Before}
use Rattle.network.specs.Network.{Network}
use Rattle.network.proofs.OrderLaws.{before_trans}
use Rattle.preparation.specs.Contraction.{Earlier, lower_tail, lower_head, Rising, none, one, more, Turns, over, last, then}

module _ {A : Type 0} (R : A → A → Type 0) where
  -- each member comes before all that follow it
  abbrev pub Sorted : List A → Type 0
  Sorted [] = Unit {0}
  Sorted (x ∷ xs) = ((y : A) → Memᴰ y xs → R x y) × Sorted xs

  module _ (trans : (x y z : A) → R x y → R y z → R x z) where
    pub sorted_cons : (x y : A) (ys : List A) → R x y → Sorted (y ∷ ys) → Sorted (x ∷ y ∷ ys)
    sorted_cons x y ys h s = (λ z m. go z (Memᴰ.cases_cons m), s)
      where
        go : (z : A) → (z ≡ y) ⊎ Memᴰ z ys → R x z
        go z (inl e) = subst (R x) (sym e) h
        go z (inr m) = trans x y z h (s.0 z m)

    module _ (irrefl : (x : A) → R x x → ⊥) where
      first_same : (x y : A) (xs ys : List A) → Sorted (x ∷ xs) → Sorted (y ∷ ys) → (x ≡ y) ⊎ Memᴰ x ys → (y ≡ x) ⊎ Memᴰ y xs → x ≡ y
      first_same x y xs ys s t (inl e) q = e
      first_same x y xs ys s t (inr m) (inl e) = sym e
      first_same x y xs ys s t (inr m) (inr l) = absurd (irrefl x (trans x y x (s.0 y l) (t.0 x m)))

      rest_same : (x y : A) (xs ys : List A) → x ≡ y → Sorted (x ∷ xs) → (z : A) → Memᴰ z xs → (z ≡ y) ⊎ Memᴰ z ys → Memᴰ z ys
      rest_same x y xs ys e s z m (inl f) = absurd (irrefl x (subst (R x) (f ∙ sym e) (s.0 z m)))
      rest_same x y xs ys e s z m (inr l) = l

      pub sorted_unique : (xs ys : List A) → Sorted xs → Sorted ys → ((z : A) → Memᴰ z xs → Memᴰ z ys)
          → ((z : A) → Memᴰ z ys → Memᴰ z xs) → xs ≡ ys
      sorted_unique [] [] s t f g = refl
      sorted_unique [] (y ∷ ys) s t f g = absurd (Memᴰ.not-nil (g y (Memᴰ.head refl)))
      sorted_unique (x ∷ xs) [] s t f g = absurd (Memᴰ.not-nil (f x (Memᴰ.head refl)))
      sorted_unique (x ∷ xs) (y ∷ ys) s t f g =
          let e : x ≡ y =
          first_same x y xs ys s t
          (Memᴰ.cases_cons (f x (Memᴰ.head refl)))
          (Memᴰ.cases_cons (g y (Memᴰ.head refl)))
          in
          let r : xs ≡ ys =
          sorted_unique xs ys s.1 t.1
          (λ z m. rest_same x y xs ys e s z m (Memᴰ.cases_cons (f z (Memᴰ.tail m))))
          (λ z m. rest_same y x ys xs (sym e) t z m (Memᴰ.cases_cons (g z (Memᴰ.tail m))))
          in
          λ i. e i ∷ r i

-- the order of contraction
pub turns_sorted : {N : Network} {vs : List ℕ} → Turns N vs → Sorted (Before N.node_ranks) vs
turns_sorted over = tt
turns_sorted last = (λ y m. absurd (Memᴰ.not-nil m), tt)
turns_sorted {N} (then {v} {w} {vs} h t) = sorted_cons (Before N.node_ranks) (λ x y z. before_trans) v w vs h (turns_sorted t)

-- the order of the shortcuts of one turn
pub earlier_trans : {x y z : Row} → Earlier x y → Earlier y z → Earlier x z
earlier_trans (lower_tail h) (lower_tail k) = lower_tail (omega arith)
earlier_trans (lower_tail h) (lower_head e k) = lower_tail (omega arith)
earlier_trans (lower_head e h) (lower_tail k) = lower_tail (omega arith)
earlier_trans (lower_head e h) (lower_head f k) = lower_head (e ∙ f) (omega arith)

pub earlier_irrefl : {x : Row} → Earlier x x → ⊥
earlier_irrefl (lower_tail h) = omega arith
earlier_irrefl (lower_head e h) = omega arith

pub rising_sorted : {xs : List Row} → Rising xs → Sorted Earlier xs
rising_sorted none = tt
rising_sorted one = (λ y m. absurd (Memᴰ.not-nil m), tt)
rising_sorted (more {x} {y} {xs} h t) = sorted_cons Earlier (λ x y z. earlier_trans) x y xs h (rising_sorted t)
