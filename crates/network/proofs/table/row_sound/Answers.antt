-- `network::table::row_sound` tells whether a shortcut row is sound. Assumes nothing.
use native.Mathlib.Omega.{arith}
use Rattle.network.proofs.RowLaws.{both_lower, sound_by_joins}
use Rattle.network.proofs.table.row_sound.Goals as goal

pub returns-then-r-first : goal.returns-then-r-first
returns-then-r-first c s = let lower = both_lower _ _ c.requires _ c.row_in_line-x.ensures s in omega (arith, lower.0, lower.1)

pub returns : goal.returns
returns c = sound_by_joins _ _ c.requires _ c.row_in_line-x.ensures c.joins.result (omega arith) (omega arith) c.row_in_line-a.ensures c.row_in_line-b.ensures c.joins.ensures
