-- `search::witness::empty`, one place after the other. Assumes nothing.
use Rattle.search.specs.WitnessSteps.{Emptied}
use Rattle.search.proofs.WitnessLaws.{Passing}
use Rattle.search.proofs.witness.empty.Given as goal

abbrev pub invariant-loop-p : goal.invariant-loop-p
invariant-loop-p l = Passing Emptied l.nodes l.initial.wide l.initial.narrow l.wide l.narrow l.p
