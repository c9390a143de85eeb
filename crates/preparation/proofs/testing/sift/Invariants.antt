-- `preparation::testing::sift` sifts the marks. Assumes nothing.
use Rattle.preparation.specs.Sifting.{SiftedAll}
use Rattle.preparation.proofs.testing.sift.Given as goal

abbrev pub invariant-loop-w : goal.invariant-loop-w
invariant-loop-w l = SiftedAll l.nodes l.around l.w l.wide l.initial.narrow l.narrow
