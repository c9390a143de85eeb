-- `search::engine::run` searches. Assumes nothing.
use Rattle.search.proofs.SearchLoop.{Searching, left_over}
use Rattle.search.proofs.engine.run.Given as goal

abbrev pub invariant-loop-u : goal.invariant-loop-u
invariant-loop-u l = Searching l.question l.initial.wide l.initial.narrow l.wide l.narrow

abbrev pub decreases-loop-u : goal.decreases-loop-u
decreases-loop-u l = left_over l.question l.narrow
