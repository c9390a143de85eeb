-- `search::witness::close`, one place after the other. Assumes nothing.
use Rattle.search.specs.WitnessSteps.{Closed}
use Rattle.search.proofs.WitnessLaws.{Passing}
use Rattle.search.proofs.witness.close.Given as goal

abbrev pub invariant-loop-p : goal.invariant-loop-p
invariant-loop-p l = Passing Closed l.nodes l.initial.wide l.initial.narrow l.wide l.narrow l.p
