-- The cycle of calls {open_pair, open_row}: the row number falls.
use Rattle.std.proofs.Common.{arith}
use Rattle.legs.proofs.Legs.{edge_room, edge_written, first_lower, second_lower, pair_fits, row_written}
use Rattle.legs.proofs.opening.+open_pair_open_row.Goals as goal

pub open_row-bounds-room-0 : goal.open_row-bounds-room-0
open_row-bounds-room-0 t c = edge_room c.args.room.now c.requires c.if-r-network.true

pub open_row-returns-then-r-network : goal.open_row-returns-then-r-network
open_row-returns-then-r-network t c = edge_written c.args.room.now c.requires c.if-r-network.true

pub open_row-open_pair-requires : goal.open_row-open_pair-requires
open_row-open_pair-requires t c =
    (omega (arith, c.decreases, first_lower c.requires c.if-r-network.false, second_lower c.requires c.if-r-network.false), pair_fits c.requires c.if-r-network.false)

pub open_row-returns : goal.open_row-returns
open_row-returns t c = row_written c.requires c.if-r-network.false c.open_pair.ensures
