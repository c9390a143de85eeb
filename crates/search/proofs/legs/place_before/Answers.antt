-- `search::legs::place_before` tells the place before. Assumes nothing.
use Rattle.search.specs.Questions.{roads}
use Rattle.search.proofs.LegLaws.{place_read}
use Rattle.search.proofs.legs.place_before.Goals as goal

pub returns : goal.returns
returns c = place_read (roads c.args.question.now) c.args.question.now.accepted.even c.args.narrow.now c.args.p c.row_before.ensures c.row_at-row.ensures c.low_before.ensures
