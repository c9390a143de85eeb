-- `preparation::testing::note_sums` notes the sums. Assumes nothing.
use Rattle.preparation.proofs.SiftingLaws.{noting_more}
use Rattle.preparation.proofs.testing.note_sums.Goals as goal

pub loop-w-preserved : goal.loop-w-preserved
loop-w-preserved c = noting_more c.loop-w.invariant c.loop-w-test.true c.requires c.note_sum-bound.ensures
