-- `legs::opening::open_into` opens a row that may be opened, and writes nothing for another. Assumes nothing.
use Rattle.network.proofs.Scanning.{decided_true}
use Rattle.legs.proofs.Openings.{openable_fits, opened_into}
use Rattle.legs.proofs.opening.open_into.Goals as goal

pub open_row-requires : goal.open_row-requires
open_row-requires c = openable_fits (decided_true c.openable.ensures c.if-openable.true)

pub returns-then-openable : goal.returns-then-openable
returns-then-openable c = opened_into (decided_true c.openable.ensures c.if-openable.true) c.open_row.ensures
