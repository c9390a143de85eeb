-- `legs::contracted::open_back` opens the rows of the journey room in place. Assumes nothing.
use Rattle.legs.proofs.RowsInPlace.{open_fits, open_turn}
use Rattle.legs.proofs.contracted.open_back.Goals as goal

pub open_before-end-requires : goal.open_before-end-requires
open_before-end-requires c = open_fits c.requires _ c.loop-i.invariant c.loop-i-test.true

pub loop-i-preserved : goal.loop-i-preserved
loop-i-preserved c = open_turn c.requires _ c.loop-i.invariant c.loop-i-test.true c.open_before-end.ensures
