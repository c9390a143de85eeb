-- `search::pick::pick` finds a lightest waiting place. Assumes nothing.
use Rattle.search.specs.Labels.{label, mark}
use Rattle.search.proofs.Picking.{Looking}
use Rattle.search.proofs.pick.pick.Given as goal

abbrev pub invariant-loop-p : goal.invariant-loop-p
invariant-loop-p l = Looking l.places (label l.wide l.narrow) (mark l.narrow) l.so_far l.p
