-- `search::leave::leave` settles a place and tries every row from it. Assumes nothing.
use native.Mathlib.Omega.{arith}
use Rattle.network.specs.Lent.{columns_of}
use Rattle.network.proofs.RowLaws.{table_length}
use Rattle.search.specs.Questions.{row_count}
use Rattle.search.proofs.Leaving.{left}
use Rattle.search.proofs.leave.leave.Goals as goal

pub returns : goal.returns
returns c = left _ c.args.p (omega (arith, c.requires.p_bound, c.requires.roomy.narrow_enough)) c.settle.ensures c.args.question.now.plain (row_count c.args.question.now) (omega (arith, table_length (columns_of c.args.question.now.shortcuts))) c.requires.p_bound c.label_at-w.ensures c.try_rows.ensures
