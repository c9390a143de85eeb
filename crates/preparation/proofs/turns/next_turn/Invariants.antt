-- `preparation::turns::next_turn` tells whose turn comes next. Assumes nothing.
use Rattle.preparation.specs.Preparing.{NextBelow}
use Rattle.preparation.proofs.turns.next_turn.Given as goal

abbrev pub invariant-loop-x : goal.invariant-loop-x
invariant-loop-x l = NextBelow l.node_ranks l.last l.x l.first
