-- `search::engine::start_states` labels the starts. Assumes nothing.
use Rattle.search.proofs.Starting.{StartingTo}
use Rattle.search.proofs.engine.start_states.Given as goal

abbrev pub invariant-loop-q : goal.invariant-loop-q
invariant-loop-q l = StartingTo l.sheet.entries l.from l.sheet.states l.initial.wide l.initial.narrow l.wide l.narrow l.q
