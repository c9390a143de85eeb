-- Laws of the order of contraction.
use mathlib.Core.Path.{◌≡◌, sym, ◌∙◌}
use mathlib.Core.List.{List}
use Prim.Native.Nat.{ℕ, ◌<◌, ◌≤◌}
use native.Mathlib.Omega.{arith}
use native.Mathlib.Decide.{dec_lt, ℕ_discrete}
use lib.ListN.{get_or}
use Rattle.network.specs.Order.{Core, Before, lower_rank, same_rank}

-- x is not before y: its rank is no lower, and at the same rank it is core or its number is no lower
pub not_before : {ranks : List ℕ} {x y : ℕ} → get_or ranks y 0 ≤ get_or ranks x 0
    → (get_or ranks x 0 ≡ get_or ranks y 0 → (Core ranks x → ⊥) → y ≤ x) → Before ranks x y → ⊥
not_before r n (lower_rank h) = omega arith
not_before r n (same_rank e k h) = omega (arith, n e k)

pub before_dec : (ranks : List ℕ) (x y : ℕ) → Dec (Before ranks x y)
before_dec ranks x y =
    go (dec_lt (get_or ranks x 0) (get_or ranks y 0)) (dec_lt (get_or ranks y 0) (get_or ranks x 0)) (ℕ_discrete (get_or ranks x 0) 65535) (dec_lt x y)
  where
    go : Dec (get_or ranks x 0 < get_or ranks y 0) → Dec (get_or ranks y 0 < get_or ranks x 0) → Dec (get_or ranks x 0 ≡ 65535) → Dec (x < y)
        → Dec (Before ranks x y)
    go (yes a) b c d = yes (lower_rank a)
    go (no a) (yes b) c d = no (not_before (omega arith) (λ e n. absurd (omega arith)))
    go (no a) (no b) (yes c) d = no (not_before (omega arith) (λ e n. absurd (n c)))
    go (no a) (no b) (no c) (yes d) = yes (same_rank (omega arith) c d)
    go (no a) (no b) (no c) (no d) = no (not_before (omega arith) (λ e n. omega arith))

pub before_irrefl : {ranks : List ℕ} {x : ℕ} → Before ranks x x → ⊥
before_irrefl = not_before (omega arith) (λ e n. omega arith)

pub before_trans : {ranks : List ℕ} {x y z : ℕ} → Before ranks x y → Before ranks y z → Before ranks x z
before_trans (lower_rank h) (lower_rank k) = lower_rank (omega arith)
before_trans (lower_rank h) (same_rank e n k) = lower_rank (omega arith)
before_trans (same_rank e n h) (lower_rank k) = lower_rank (omega arith)
before_trans (same_rank e n h) (same_rank f m k) = same_rank (omega arith) n (omega arith)

pub before_asym : {ranks : List ℕ} {x y : ℕ} → Before ranks x y → Before ranks y x → ⊥
before_asym h k = before_irrefl (before_trans h k)

-- what is contracted before a node is not core
pub before_not_core : {ranks : List ℕ} {x y : ℕ} → get_or ranks y 0 ≤ 65535 → Before ranks x y → Core ranks x → ⊥
before_not_core l (lower_rank h) c = omega arith
before_not_core l (same_rank e n h) c = n c

-- of a node that is not core and any other, one is before the other
pub before_total : {ranks : List ℕ} (x y : ℕ) → (Core ranks x → ⊥) → (x ≡ y → ⊥) → (Before ranks x y → ⊥) → Before ranks y x
before_total {ranks} x y n d b = go (dec_lt (get_or ranks y 0) (get_or ranks x 0)) (ℕ_discrete (get_or ranks x 0) (get_or ranks y 0)) (dec_lt y x)
  where
    go : Dec (get_or ranks y 0 < get_or ranks x 0) → Dec (get_or ranks x 0 ≡ get_or ranks y 0) → Dec (y < x) → Before ranks y x
    go (yes a) c e = lower_rank a
    go (no a) (yes c) (yes e) = same_rank (sym c) (λ k. n (c ∙ k)) e
    go (no a) (yes c) (no e) = absurd (b (same_rank c n (omega arith)))
    go (no a) (no c) e = absurd (b (lower_rank (omega arith)))

-- of core nodes none is before another
pub core_level : {ranks : List ℕ} {x y : ℕ} → Core ranks x → Core ranks y → Before ranks x y → ⊥
core_level c e = not_before (omega arith) (λ _ n. absurd (n c))
