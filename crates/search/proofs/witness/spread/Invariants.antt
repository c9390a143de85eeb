-- `search::witness::spread` searches. Assumes nothing.
use Rattle.search.specs.Witness.{turn_of}
use Rattle.search.proofs.WitnessGraph.{Spreading, left_over}
use Rattle.search.proofs.witness.spread.Given as goal

abbrev pub invariant-loop-u : goal.invariant-loop-u
invariant-loop-u l = Spreading (turn_of l.turn) l.from l.bound l.initial.wide l.initial.narrow l.wide l.narrow

abbrev pub decreases-loop-u : goal.decreases-loop-u
decreases-loop-u l = left_over (turn_of l.turn) l.narrow
