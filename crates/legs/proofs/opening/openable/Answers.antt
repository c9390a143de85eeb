-- `legs::opening::openable` tells whether a row may be opened into a room of so many numbers. Assumes nothing.
use Rattle.legs.proofs.Openings.{row_absent, openable_by_room}
use Rattle.legs.proofs.opening.openable.Goals as goal

pub returns-then-row-network : goal.returns-then-row-network
returns-then-row-network c = openable_by_room c.args.room c.if-not-accepted.ensures.network_accepted c.if-not-accepted.ensures.table_accepted c.if-row-network.true c.row_at.ensures

pub returns-else-row-network : goal.returns-else-row-network
returns-else-row-network c = row_absent _ _ _ _ c.if-row-network.false
