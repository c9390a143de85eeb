-- `search::moves::arrive` offers a label to the places that a row leads to. Assumes nothing.
use Prim.Native.Nat.{◌+◌, ◌*◌}
use native.Mathlib.Omega.{arith}
use Rattle.network.proofs.Scanning.{decided_true}
use Rattle.search.proofs.Arriving.{ride_arrives}
use Rattle.search.proofs.Offering.{offer_place}
use Rattle.search.proofs.moves.arrive.Goals as goal

pub returns-then-bit : goal.returns-then-bit
returns-then-bit c =
    ride_arrives c.requires.states_bound.1 (λ e. c.if-mode-eq0.false e) (decided_true c.bit.ensures c.if-bit.true)
    (offer_place (c.args.base + 2 * c.args.q) (omega (arith, c.requires.base_bound, c.requires.states_bound)) (omega (arith, c.requires.base_bound, c.requires.states_bound)) c.offer.ensures)
