-- `exports::journeys_prepare` hands the rooms on. Assumes nothing.
use Rattle.std.proofs.Common.{rules}
use Rattle.exports.proofs.RoomLaws.{prepared_at}
use Rattle.exports.proofs.journeys_prepare.Goals as goal

pub returns : goal.returns
returns c = prepared_at c.prepare.ensures.prepared (search rules) (search rules) (search rules) (search rules) (search rules) (search rules) (search rules)
