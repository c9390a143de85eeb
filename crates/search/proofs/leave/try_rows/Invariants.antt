-- `search::leave::try_rows` tries every row. Assumes nothing.
use Rattle.search.proofs.Attempting.{TryingRows}
use Rattle.search.proofs.leave.try_rows.Given as goal

abbrev pub invariant-loop-r : goal.invariant-loop-r
invariant-loop-r l = TryingRows l.question l.p l.w l.initial.wide l.initial.narrow l.wide l.narrow l.r-end l.r
