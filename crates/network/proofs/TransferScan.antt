-- The pass over the edges that keeps the lowest transfer node that is not core.
use mathlib.Core.Path.{◌≡◌}
use mathlib.Core.Logic.{◌⊎◌}
use Prim.Native.Nat.{ℕ, ◌<◌, ◌≤◌}
use Rattle.network.specs.Order.{Core}
use Rattle.network.specs.Network.{Network, nodes, edge_tail, edge_head, edge_mode, TransferFine}

-- low is the lowest transfer node that is not core, as far as the first e edges tell
pub record Passing (N : Network) (e low : ℕ) : Type 0 where
  pub within : low ≤ nodes N
  pub seen : (k v : ℕ) → k < e → edge_mode N k ≡ 0 → (edge_tail N k ≡ v) ⊎ (edge_head N k ≡ v) → v < low → Core N.node_ranks v
  pub broken : low < nodes N → TransferFine N low → ⊥
