-- `search::witness::try_rows` tries every row. Assumes nothing.
use Rattle.search.proofs.WitnessLaws.{rides_joined}
use Rattle.search.proofs.witness.try_rows.Goals as goal

pub returns : goal.returns
returns c = rides_joined c.try_column.ensures c.try_column-2.ensures
