-- `preparation::lent::zero_rows` zeroes the rows behind the first `made`. Assumes nothing.
use Rattle.preparation.proofs.ColumnLaws.{columns-≡}
use Rattle.preparation.proofs.LentRows.{zeroed_holds}
use Rattle.preparation.proofs.lent.zero_rows.Goals as goal

pub returns-clause-holds : goal.returns-clause-holds
returns-clause-holds c = zeroed_holds c.requires.0 c.requires.1 (columns-≡
    c.zero_behind.ensures
    c.zero_behind-2.ensures
    c.zero_behind-3.ensures
    c.zero_behind-4.ensures
    c.zero_behind-5.ensures
    c.zero_behind-6.ensures
    c.zero_behind-7.ensures)
