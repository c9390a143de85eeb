-- `preparation::lent::write_from` appends the shortcuts that are called for. Assumes nothing.
use Rattle.preparation.proofs.LentRows.{writing_start, writing_more, writing_over}
use Rattle.preparation.proofs.SameRoomLaws.{same_room, same_room_still}
use Rattle.preparation.proofs.lent.write_from.Goals as goal

pub loop-w-init : goal.loop-w-init
loop-w-init c = (writing_start c.requires.even c.requires.limit_bound.0, same_room)

pub returns-in_err-rows-clause-appended : goal.returns-in_err-rows-clause-appended
returns-in_err-rows-clause-appended c = rw c.from_residual.ensures (writing_over c.loop-w.invariant.0 c.loop-w-test.true c.in_err-rows.ensures.appended)

pub loop-w-preserved : goal.loop-w-preserved
loop-w-preserved c =
    (writing_more c.loop-w.invariant.0 c.loop-w-test.true c.in_ok-rows.ensures.appended, same_room_still c.loop-w.invariant.1 c.in_ok-rows.ensures.same_room)
