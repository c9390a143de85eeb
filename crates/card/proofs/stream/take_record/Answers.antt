-- `card::stream::take_record` takes a record of each kind. Assumes nothing.
use mathlib.Core.Path.{refl}
use Rattle.card.proofs.stream.take_record.Goals as goal

pub returns-in-Node-clause-taken : goal.returns-in-Node-clause-taken
returns-in-Node-clause-taken c = rw c.in-Node.is c.take_node.ensures.taken

pub returns-in-Edge-clause-taken : goal.returns-in-Edge-clause-taken
returns-in-Edge-clause-taken c = rw c.in-Edge.is c.take_edge.ensures.taken

pub returns-in-State-clause-taken : goal.returns-in-State-clause-taken
returns-in-State-clause-taken c = rw c.in-State.is (c.take_state.ensures, refl)
