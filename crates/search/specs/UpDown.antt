-- Row paths over any sound table (01, "Contraction").
use Rattle.std.specs.Prelude.{List, [], ◌∷◌, ℕ}
use Rattle.network.specs.declared.rows.Row.{Row}
use Rattle.network.specs.Order.{Before}
use Rattle.network.specs.Network.{Network}
use Rattle.network.specs.declared.sheet.Sheet.{Sheet}
use Rattle.network.specs.Rows.{row}
use Rattle.network.specs.Journey.{Journey}

-- "no inner node is contracted before both its neighbours (core nodes come last, level with each other)"
abbrev pub UpDown : Network → List Row → List ℕ → Type 0
UpDown N ss [] = Unit {0}
UpDown N ss (r ∷ []) = Unit {0}
UpDown N ss (r ∷ s ∷ rs) =
    (Before N.node_ranks (row N ss r).head (row N ss r).tail → Before N.node_ranks (row N ss r).head (row N ss s).head → ⊥)
    × UpDown N ss (s ∷ rs)

-- "an accepted row path in which no inner node is contracted before both its neighbours"
pub record UpDownJourney (N : Network) (ss : List Row) (S : Sheet) (from to : ℕ) (rs : List ℕ) : Type 0 where
  pub journey : Journey N ss S from to rs
  pub up_down : UpDown N ss rs
