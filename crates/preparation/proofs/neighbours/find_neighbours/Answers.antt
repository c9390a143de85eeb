-- `preparation::neighbours::find_neighbours` notes the least rows into and out of v. Assumes nothing.
use native.Mathlib.Omega.{arith}
use Rattle.preparation.proofs.LeastNoted.{noting_start, noting_more, noting_done, few_read, turn_sized}
use Rattle.preparation.proofs.neighbours.find_neighbours.Goals as goal

pub loop-r-init : goal.loop-r-init
loop-r-init c = noting_start _ _ _ c.clear_slots.ensures

pub note_row-requires : goal.note_row-requires
note_row-requires c = (c.requires.1.sound.sized.few_nodes, omega (arith, c.loop-r-test.true, few_read c.requires.1))

pub loop-r-preserved : goal.loop-r-preserved
loop-r-preserved c = noting_more _ _ _ (turn_sized c.requires.1 c.clear_slots.ensures.size) c.loop-r.invariant c.loop-r-test.true c.note_row.ensures

pub returns-clause-neighbours : goal.returns-clause-neighbours
returns-clause-neighbours c = noting_done _ _ _ (turn_sized c.requires.1 c.clear_slots.ensures.size) c.loop-r.invariant c.loop-r-test.false
