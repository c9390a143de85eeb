-- `preparation::prepare::contract_each` goes through the nodes from which a row leads to v. Rests on `Turning`.
use native.Mathlib.Omega.{arith}
use Rattle.preparation.proofs.Turning.{turning_start, turning_more, turning_over, turning_done}
use Rattle.preparation.proofs.SameRoomLaws.{same_room, same_room_still}
use Rattle.preparation.proofs.prepare.contract_each.Goals as goal

pub loop-u-init : goal.loop-u-init
loop-u-init c = (turning_start c.requires.even.0 (omega arith) c.requires.neighbours, same_room)

pub returns-in_err-made-clause-turned : goal.returns-in_err-made-clause-turned
returns-in_err-made-clause-turned c = rw c.from_residual.ensures (turning_over c.loop-u.invariant.0 c.in_err-made.ensures.turn_from)

pub loop-u-preserved : goal.loop-u-preserved
loop-u-preserved c =
    (turning_more c.loop-u.invariant.0 c.in_ok-made.ensures.turn_from c.requires.even.1 c.loop-u-test.true, same_room_still c.loop-u.invariant.1 c.in_ok-made.ensures.same_room)

pub returns-clause-turned : goal.returns-clause-turned
returns-clause-turned c = turning_done c.requires.in_turn.sound c.requires.in_turn.sound_table c.loop-u.invariant.0 c.loop-u-test.false
