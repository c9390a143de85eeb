-- `search::witness::try_column` tries rows whose tails stand side by side. Assumes nothing.
use mathlib.Core.Path.{sym}
use Rattle.search.proofs.WitnessLaws.{attempt_elsewhere, rides_more}
use Rattle.search.proofs.witness.try_column.Goals.{then-tails-i, else-tails-i}
use Rattle.search.proofs.witness.try_column.Goals as goal

pub loop-i-preserved : goal.loop-i-preserved
loop-i-preserved c = rides_more c.loop-i.invariant c.loop-i-test.true (elim c.if-tails-i.branch [
  | then-tails-i w ↦ rw w.wide-is (rw w.narrow-is w.attempt.ensures)
  | else-tails-i w ↦ rw w.wide-is (rw w.narrow-is (attempt_elsewhere _ _ (sym (c.requires.column _ c.loop-i-test.true)) w.if-tails-i.false))
])
