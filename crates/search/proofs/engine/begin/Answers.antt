-- `search::engine::begin` lays the rooms out. Assumes nothing.
use Rattle.search.proofs.Starting.{begins}
use Rattle.search.proofs.engine.begin.Goals as goal

pub returns : goal.returns
returns c = begins c.args.question.now _ _ c.requires c.fill.ensures c.fill-2.ensures c.start_states.ensures
