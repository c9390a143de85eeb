-- `preparation::testing::bound_marks` bounds the sums that are marked. Assumes nothing.
use Rattle.preparation.specs.Sifting.{BoundsSums}
use Rattle.preparation.proofs.testing.bound_marks.Given as goal

abbrev pub invariant-loop-w : goal.invariant-loop-w
invariant-loop-w l = BoundsSums l.nodes l.wide l.narrow l.w l.bound
