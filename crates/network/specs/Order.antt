-- The order of contraction (01, "Network and sheet", "Contraction"), told by the column of ranks.
use Rattle.std.specs.Prelude.{◌≡◌, List, ℕ, ◌<◌, get_or}

-- "Rank 65,535 means core: never contracted."
abbrev pub Core : List ℕ → ℕ → Type 0
Core ranks v = get_or ranks v 0 ≡ 65535

-- x is contracted before y. "Nodes that are not core are contracted by rising rank, then by rising number"; "core nodes come last, level
-- with each other".
pub data Before (ranks : List ℕ) (x y : ℕ) : Type 0 where
  lower_rank : get_or ranks x 0 < get_or ranks y 0 → Before ranks x y
  same_rank : get_or ranks x 0 ≡ get_or ranks y 0 → (Core ranks x → ⊥) → x < y → Before ranks x y
