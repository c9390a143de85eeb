-- `preparation::prepare::contract_all` goes through all turns. Rests on `Turning`.
use native.Mathlib.Omega.{arith}
use Rattle.preparation.proofs.Turning.{contracting_start, contracting_over, turn_comes, contracting_more, contracting_exceeds}
use Rattle.preparation.proofs.SameRoomLaws.{same_room, same_room_still}
use Rattle.preparation.proofs.prepare.contract_all.Goals as goal

pub loop-turns-init : goal.loop-turns-init
loop-turns-init c = (contracting_start c.requires.sound.0 c.requires.even.0, same_room)

pub returns-in_default-clause-all_turned : goal.returns-in_default-clause-all_turned
returns-in_default-clause-all_turned c = contracting_over c.requires.sound.0 c.loop-turns.invariant.0 c.in_default.ensures

pub contract-requires-clause-in_turn : goal.contract-requires-clause-in_turn
contract-requires-clause-in_turn c = turn_comes c.requires.sound.0 c.loop-turns.invariant.0 _ c.in-Some.ensures c.requires.even.1 c.requires.even.2 c.requires.sound.1

pub returns-in_err-made-clause-all_turned : goal.returns-in_err-made-clause-all_turned
returns-in_err-made-clause-all_turned c = rw c.from_residual.ensures (contracting_exceeds c.requires.sound.0 c.loop-turns.invariant.0 _ c.in-Some.ensures c.in_err-made.ensures.turned
    (omega (arith, c.loop-turns.invariant.0.within, c.requires.even.2, c.loop-turns.invariant.0.same_size.size)))

pub loop-turns-preserved : goal.loop-turns-preserved
loop-turns-preserved c = (contracting_more c.requires.sound.0 c.loop-turns.invariant.0 _ c.in-Some.ensures c.in_ok-made.ensures.turned c.in_ok-made.ensures.same_rooms, same_room_still c.loop-turns.invariant.1 c.in_ok-made.ensures.same_room)
