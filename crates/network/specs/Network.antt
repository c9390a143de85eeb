-- The network and its rules (01, "Network and sheet").
use Rattle.std.specs.Prelude.{◌≡◌, ◌⊎◌, List, ℕ, ◌<◌, ◌≤◌, length, get_or}
use Rattle.network.specs.Order.{Core}

-- A network as it is lent: a column for each property of a node and of an edge.
pub record Network : Type 0 where
  pub node_modes : List ℕ
  pub node_ranks : List ℕ
  pub tails : List ℕ
  pub heads : List ℕ
  pub modes : List ℕ
  pub lengths : List ℕ

-- the columns in the order in which every function takes them
abbrev pub network : (node_modes node_ranks tails heads modes lengths : List ℕ) → Network
network a b c d e f = record { node_modes = a; node_ranks = b; tails = c; heads = d; modes = e; lengths = f }

abbrev pub nodes : Network → ℕ
nodes N = length N.node_modes

abbrev pub edges : Network → ℕ
edges N = length N.tails

abbrev pub node_mode : Network → ℕ → ℕ
node_mode N v = get_or N.node_modes v 0

abbrev pub rank : Network → ℕ → ℕ
rank N v = get_or N.node_ranks v 0

abbrev pub edge_tail : Network → ℕ → ℕ
edge_tail N e = get_or N.tails e 0

abbrev pub edge_head : Network → ℕ → ℕ
edge_head N e = get_or N.heads e 0

abbrev pub edge_mode : Network → ℕ → ℕ
edge_mode N e = get_or N.modes e 0

abbrev pub edge_length : Network → ℕ → ℕ
edge_length N e = get_or N.lengths e 0

-- "1 to 512 nodes", "0 to 2,048 edges", and columns that agree in length
pub record Sized (N : Network) : Type 0 where
  pub some_node : 1 ≤ nodes N
  pub few_nodes : nodes N ≤ 512
  pub few_edges : edges N ≤ 2048
  pub ranks_even : length N.node_ranks ≡ nodes N
  pub heads_even : length N.heads ≡ edges N
  pub modes_even : length N.modes ≡ edges N
  pub lengths_even : length N.lengths ≡ edges N

-- "Each has a mode 1 to 7 and a rank 0 to 65,535."
pub record NodeFine (N : Network) (v : ℕ) : Type 0 where
  pub some_mode : 1 ≤ node_mode N v
  pub known_mode : node_mode N v ≤ 7
  pub known_rank : rank N v ≤ 65535

-- "tail, head, mode, length in seconds 1 to 65,535. Mode 0 is a link. Tail and head differ. An edge of mode 1 to 7 joins two nodes of that
-- mode; a link joins any two different nodes."
pub record EdgeFine (N : Network) (e : ℕ) : Type 0 where
  pub tail_node : edge_tail N e < nodes N
  pub head_node : edge_head N e < nodes N
  pub apart : edge_tail N e ≡ edge_head N e → ⊥
  pub known_mode : edge_mode N e ≤ 7
  pub lasts : 1 ≤ edge_length N e
  pub short : edge_length N e ≤ 65535
  pub tail_mode : (edge_mode N e ≡ 0 → ⊥) → node_mode N (edge_tail N e) ≡ edge_mode N e
  pub head_mode : (edge_mode N e ≡ 0 → ⊥) → node_mode N (edge_head N e) ≡ edge_mode N e

-- "A node with a link at either end is a transfer node"
pub record Transfer (N : Network) (v : ℕ) : Type 0 where
  pub link : ℕ
  pub there : link < edges N
  pub is_link : edge_mode N link ≡ 0
  pub touches : (edge_tail N link ≡ v) ⊎ (edge_head N link ≡ v)

-- "and must be core."
pub record TransferFine (N : Network) (v : ℕ) : Type 0 where
  pub core : Transfer N v → Core N.node_ranks v

-- a network that the check accepts
pub record Sound (N : Network) : Type 0 where
  pub sized : Sized N
  pub node_fine : (v : ℕ) → v < nodes N → NodeFine N v
  pub edge_fine : (e : ℕ) → e < edges N → EdgeFine N e
  pub transfer_fine : (v : ℕ) → v < nodes N → TransferFine N v
