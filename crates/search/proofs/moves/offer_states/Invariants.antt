-- `search::moves::offer_states` offers a label to the places of a next byte's states. Assumes nothing.
use Rattle.search.proofs.Arriving.{Offering}
use Rattle.search.proofs.moves.offer_states.Given as goal

abbrev pub invariant-loop-j : goal.invariant-loop-j
invariant-loop-j l = Offering l.base l.next l.states l.step.label l.step.row l.step.low l.initial.wide l.initial.narrow l.wide l.narrow l.j
