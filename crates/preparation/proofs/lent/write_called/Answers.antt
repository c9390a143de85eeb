-- `preparation::lent::write_called` writes one shortcut. Assumes nothing.
use Rattle.preparation.proofs.LentRows.{marked_put}
use Rattle.preparation.proofs.lent.write_called.Goals as goal

pub returns-clause-appended : goal.returns-clause-appended
returns-clause-appended c = marked_put _ _ _ _ _ _ c.requires.even c.if-not-calls.ensures c.if-limit-made.false c.requires.w_bound.3 c.row.ensures c.put_row.ensures.row
