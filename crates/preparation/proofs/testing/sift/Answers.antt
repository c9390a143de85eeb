-- `preparation::testing::sift` sifts the marks. Assumes nothing.
use Rattle.preparation.proofs.SiftingLaws.{sieving_more}
use Rattle.preparation.proofs.testing.sift.Goals as goal

pub loop-w-preserved : goal.loop-w-preserved
loop-w-preserved c = sieving_more c.loop-w.invariant c.loop-w-test.true c.sift_mark.ensures
