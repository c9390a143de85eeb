-- `preparation::neighbours::find_neighbours` notes the least rows into and out of v. Assumes nothing.
use lib.ListN.{length}
use Rattle.network.specs.Lent.{network_of, columns_of}
use Rattle.preparation.proofs.LeastNoted.{Noting}
use Rattle.preparation.proofs.neighbours.find_neighbours.Given as goal

abbrev pub invariant-loop-r : goal.invariant-loop-r
invariant-loop-r l = Noting (network_of l.network) (columns_of l.shortcuts) l.v (length l.initial.narrow) l.narrow l.r
