-- A room whose front is written.
use mathlib.Core.Path.{refl}
use mathlib.Core.List.{List, [], ◌∷◌}
use Prim.Native.Nat.{ℕ, ◌≤◌}
use native.Mathlib.Omega.{arith}
use lib.ListN.{length, set}
use Rattle.legs.specs.Steps.{Written}

-- an edge's own number in front
pub first_written : (room : List ℕ) (e : ℕ) → 1 ≤ length room → Written (e ∷ []) room 1 (set room 0 e)
first_written [] e h = absurd (omega arith)
first_written (x ∷ room) e h = record { counted = refl; holds = refl }
