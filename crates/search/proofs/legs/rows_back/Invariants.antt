-- `search::legs::rows_back` counts the rows that lead to a place. Assumes nothing.
use Rattle.search.specs.Delivery.{edges_to}
use Rattle.search.specs.Questions.{roads, table_of, rows_to}
use Rattle.search.proofs.LegLaws.{Counting}
use Rattle.search.proofs.legs.rows_back.Given as goal

abbrev pub invariant-loop-v : goal.invariant-loop-v
invariant-loop-v l =
    Counting (roads l.question) (table_of l.question) l.narrow l.p (rows_to l.question l.narrow l.p) l.n l.v

abbrev pub decreases-loop-v : goal.decreases-loop-v
decreases-loop-v l = edges_to l.narrow l.v
