-- What the inner functions of this crate promise each other. No entry point's promise rests on these words.
use Rattle.std.specs.Prelude.{◌≡◌, ◌⊎◌, List, ℕ, ◌<◌, ◌≤◌}
use Rattle.network.specs.Order.{Core}
use Rattle.network.specs.Network.{Network, edge_tail, edge_head, edge_mode}

-- r is the lower of low and v, v counting only where it is not core
pub data Lowered (ranks : List ℕ) (v low r : ℕ) : Type 0 where
  same : r ≡ low → (v < low → Core ranks v) → Lowered ranks v low r
  lower : r ≡ v → v < low → (Core ranks v → ⊥) → Lowered ranks v low r

-- r is low, or the lowest end of the edge e that is below it, if e is a link and that end is not core
pub record LinkSeen (N : Network) (e low r : ℕ) : Type 0 where
  pub falls : r ≤ low
  pub tail_seen : edge_mode N e ≡ 0 → edge_tail N e < r → Core N.node_ranks (edge_tail N e)
  pub head_seen : edge_mode N e ≡ 0 → edge_head N e < r → Core N.node_ranks (edge_head N e)
  pub by_link : (r ≡ low) ⊎ ((edge_mode N e ≡ 0) × ((edge_tail N e ≡ r) ⊎ (edge_head N e ≡ r)) × (Core N.node_ranks r → ⊥))
