-- There is at most one proof that a node is contracted before another: what a ghost field over sound rows has to know.
use Rattle.std.specs.Prelude.{◌≡◌, List, ℕ, ◌<◌, get_or}
use Rattle.std.specs.Coded.{le_prop}
use Rattle.std.proofs.Common.{ap, arith}
use Rattle.std.proofs.Props.{props}
use Rattle.network.specs.Order.{Core, Before, lower_rank, same_rank}

-- what `same_rank` says
abbrev Same : List ℕ → (x y : ℕ) → Type 0
Same ranks x y = (get_or ranks x 0 ≡ get_or ranks y 0) × ((Core ranks x → ⊥) × (x < y))

same_prop : (ranks : List ℕ) (x y : ℕ) → IsProp (Same ranks x y)
same_prop ranks x y = hlevel props

pub before_prop : (ranks : List ℕ) (x y : ℕ) → IsProp (Before ranks x y)
before_prop ranks x y (lower_rank a) (lower_rank b) = ap lower_rank (le_prop a b)
before_prop ranks x y (lower_rank a) (same_rank e n l) = absurd (omega arith)
before_prop ranks x y (same_rank e n l) (lower_rank b) = absurd (omega arith)
before_prop ranks x y (same_rank e n l) (same_rank f m k) =
    ap (λ (t : Same ranks x y). same_rank t.0 t.1.0 t.1.1) (same_prop ranks x y (e, (n, l)) (f, (m, k)))
