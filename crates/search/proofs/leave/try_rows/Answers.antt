-- `search::leave::try_rows` tries every row. Assumes nothing.
use Rattle.search.proofs.Attempting.{rows_more, rows_done}
use Rattle.search.proofs.leave.try_rows.Goals as goal

pub loop-r-preserved : goal.loop-r-preserved
loop-r-preserved c = rows_more c.loop-r.invariant c.loop-r-test.true c.attempt.ensures

pub returns : goal.returns
returns c = rows_done c.loop-r.invariant c.loop-r-test.false
