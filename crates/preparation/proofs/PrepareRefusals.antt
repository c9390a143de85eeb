-- What preparation rests on where no rule is broken.
use mathlib.Core.Path.{◌≡◌, subst}
use Prim.Native.Nat.{ℕ}
use Rattle.network.specs.Network.{Network}
use Rattle.network.specs.Rows.{Columns}
use Rattle.network.specs.Refusal.{Refused, Passed}
use Rattle.preparation.specs.Answers.{prepare_order}

-- what the check says of the lent rows as they are read, it says of the rows
module _ {N : Network} {T U : Columns} {wide narrow : ℕ} (read : T ≡ U) where
  pub read_passed : Passed (prepare_order N T wide narrow) → Passed (prepare_order N U wide narrow)
  read_passed p = subst (λ (X : Columns). Passed (prepare_order N X wide narrow)) read p

  pub read_refused : {number place : ℕ} → Refused (prepare_order N T wide narrow) number place → Refused (prepare_order N U wide narrow) number place
  read_refused {number} {place} r = subst (λ (X : Columns). Refused (prepare_order N X wide narrow) number place) read r
