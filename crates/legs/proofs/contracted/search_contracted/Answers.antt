-- `legs::contracted::search_contracted` answers the question. Assumes nothing.
use native.Mathlib.Omega.{arith}
use Rattle.legs.proofs.RowsInPlace.{search_refused, search_stands, search_opened}
use Rattle.legs.proofs.contracted.search_contracted.Goals as goal

pub returns-then-answer-ne-ANSWERED : goal.returns-then-answer-ne-ANSWERED
returns-then-answer-ne-ANSWERED c = search_refused c.search_rows-told.ensures c.if-answer-ne-ANSWERED.true

pub open_back-requires : goal.open_back-requires
open_back-requires c = search_stands c.search_rows-told.ensures (omega arith)

pub returns : goal.returns
returns c = search_opened c.search_rows-told.ensures (omega arith) c.open_back.ensures
