-- `network::transfers::first_bad_transfer` answers the lowest transfer node that is not core. Assumes nothing.
use Rattle.network.specs.Lent.{network_of}
use Rattle.network.proofs.TransferScan.{Passing}
use Rattle.network.proofs.transfers.first_bad_transfer.Given as goal

abbrev pub invariant-loop-e : goal.invariant-loop-e
invariant-loop-e l = Passing (network_of l.network) l.e l.low
