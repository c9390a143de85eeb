-- What the functions that find whose turn it is promise each other. No entry point's promise rests on these words.
use Rattle.std.specs.Prelude.{◌≡◌, Option, Some, List, ℕ}
use Rattle.network.specs.Order.{Before}
use Rattle.preparation.specs.Preparing.{Due}

-- x is due, and comes before `first`, where there is one
pub record Sooner (ranks : List ℕ) (last first : Option ℕ) (x : ℕ) : Type 0 where
  pub due : Due ranks last x
  pub before : (y : ℕ) → first ≡ Some y → Before ranks x y
