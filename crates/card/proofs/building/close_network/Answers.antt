-- `card::building::close_network` tests and prepares the network. Assumes nothing.
use mathlib.Core.Path.{refl}
use Rattle.card.specs.Reading.{accepted, refused}
use Rattle.card.proofs.ReadingSteps.{refusing_by}
use Rattle.card.proofs.building.close_network.Goals as goal

pub returns-then-answer-ne-ANSWERED-clause-closed : goal.returns-then-answer-ne-ANSWERED-clause-closed
returns-then-answer-ne-ANSWERED-clause-closed c =
    refused (c.prepare-answer.result)
    (record { prepared = rw c.front.ensures at c.prepare-answer.ensures.prepared; network_stands = refl; journey_stands = refl })
    c.if-answer-ne-ANSWERED.true (refusing_by _ _ c.if-answer-ne-ANSWERED.true c.tell.ensures)

pub returns-clause-closed : goal.returns-clause-closed
returns-clause-closed c =
    accepted (c.prepare-answer.result)
    (record { prepared = rw c.front.ensures at c.prepare-answer.ensures.prepared; network_stands = refl; journey_stands = refl })
    c.if-answer-ne-ANSWERED.false c.accept_network.ensures refl
