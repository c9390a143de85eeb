-- `legs::contracted::open_back` opens the rows of the journey room in place. Assumes nothing.
use Rattle.network.specs.Lent.{network_of, columns_of}
use Rattle.network.specs.Rows.{table}
use Rattle.legs.proofs.RowsInPlace.{LeftToOpen}
use Rattle.legs.proofs.contracted.open_back.Given as goal

abbrev pub invariant-loop-i : goal.invariant-loop-i
invariant-loop-i l =
    LeftToOpen (network_of l.network) (table (columns_of l.shortcuts)) l.written l.count l.initial.journey l.journey l.i l.end
