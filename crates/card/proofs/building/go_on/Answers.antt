-- `card::building::go_on` closes the network at its last record. Assumes nothing.
use Rattle.network.proofs.Scanning.{decided_true}
use Rattle.card.specs.Reading.{closes}
use Rattle.card.proofs.building.go_on.Goals as goal

pub returns-then-network_in-clause-taken : goal.returns-then-network_in-clause-taken
returns-then-network_in-clause-taken c = closes (decided_true c.network_in.ensures c.if-network_in.true) c.close_network.ensures.closed
