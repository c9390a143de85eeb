-- What becomes of lent work rooms (01, "Numbers the unit shows").
use Rattle.std.specs.Prelude.{◌≡◌, List, ℕ, length, replicate}

-- "untouched by 1 to 6, 10 and 11": the work rooms, before and after
pub record Untouched (wide wide' narrow narrow' : List ℕ) : Type 0 where
  pub wide_same : wide' ≡ wide
  pub narrow_same : narrow' ≡ narrow

-- "all zero after 0, 7, 8, 9", however long they are
pub record Zeroed (wide wide' narrow narrow' : List ℕ) : Type 0 where
  pub wide_zero : wide' ≡ replicate (length wide) 0
  pub narrow_zero : narrow' ≡ replicate (length narrow) 0
