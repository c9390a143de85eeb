-- `search::witness::try_column` tries rows whose tails stand side by side. Assumes nothing.
use Rattle.search.specs.Witness.{turn_of}
use Rattle.search.proofs.WitnessLaws.{TryingRides}
use Rattle.search.proofs.witness.try_column.Given as goal

abbrev pub invariant-loop-i : goal.invariant-loop-i
invariant-loop-i l = TryingRides (turn_of l.turn) l.u l.w l.initial.wide l.initial.narrow l.wide l.narrow l.first l.i-end l.i
