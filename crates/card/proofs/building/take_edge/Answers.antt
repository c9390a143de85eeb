-- `card::building::take_edge` stores and counts the record at hand. Assumes nothing.
use Rattle.card.specs.Lent.{lent_of}
use Rattle.card.proofs.ReadingSteps.{network_taken}
use Rattle.card.proofs.building.take_edge.Goals as goal

pub returns-clause-taken : goal.returns-clause-taken
returns-clause-taken c = network_taken (lent_of c.args.lent.now) c.count_edge.ensures c.put_edge.ensures.stored c.go_on.ensures.taken
