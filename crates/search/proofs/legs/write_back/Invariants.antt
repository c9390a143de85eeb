-- `search::legs::write_back` writes the rows that lead to a place. Assumes nothing.
use Rattle.search.specs.Questions.{roads, table_of, rows_to}
use Rattle.search.proofs.LegLaws.{Writing}
use Rattle.search.proofs.legs.write_back.Given as goal

abbrev pub invariant-loop-k : goal.invariant-loop-k
invariant-loop-k l =
    Writing (roads l.question) (table_of l.question) l.narrow l.n (rows_to l.question l.narrow l.p) l.initial.journey l.journey l.v l.k
