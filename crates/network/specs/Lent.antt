-- What the lent columns hold.
use Rattle.std.specs.Prelude.{◌≡◌, ℕ, take}
use Rattle.network.specs.Network as of_network
use Rattle.network.specs.Rows.{Columns, columns}
use Rattle.network.specs.declared.lent.Network.{Network}
use Rattle.network.specs.declared.lent.Shortcuts.{Shortcuts}
use Rattle.network.specs.declared.lent.ShortcutRoom.{ShortcutRoom}

abbrev pub network_of : Network → of_network.Network
network_of n = of_network.network n.node_modes.now n.node_ranks.now n.tails.now n.heads.now n.modes.now n.lengths.now

abbrev pub columns_of : Shortcuts → Columns
columns_of t = columns t.tails.now t.heads.now t.modes.now t.lengths.now t.counts.now t.firsts.now t.seconds.now

abbrev pub room_columns : ShortcutRoom → Columns
room_columns t = columns t.tails.now t.heads.now t.modes.now t.lengths.now t.counts.now t.firsts.now t.seconds.now

-- the network of so many nodes and edges that is in front of the columns
abbrev pub front_network : (nodes edges : ℕ) → of_network.Network → of_network.Network
front_network n m N =
    of_network.network (take n N.node_modes) (take n N.node_ranks) (take m N.tails) (take m N.heads) (take m N.modes) (take m N.lengths)

-- the first n rows of the columns
abbrev pub front_columns : ℕ → Columns → Columns
front_columns n T =
    columns (take n T.tails) (take n T.heads) (take n T.modes) (take n T.lengths) (take n T.counts) (take n T.firsts) (take n T.seconds)

-- The room is the one that was lent, whatever is written to it: what its fields refer to is the caller's still.
pub record SameRoom (old new : ShortcutRoom) : Type 0 where
  pub same_tails : new.tails.ghost_name ≡ old.tails.ghost_name
  pub same_heads : new.heads.ghost_name ≡ old.heads.ghost_name
  pub same_modes : new.modes.ghost_name ≡ old.modes.ghost_name
  pub same_lengths : new.lengths.ghost_name ≡ old.lengths.ghost_name
  pub same_counts : new.counts.ghost_name ≡ old.counts.ghost_name
  pub same_firsts : new.firsts.ghost_name ≡ old.firsts.ghost_name
  pub same_seconds : new.seconds.ghost_name ≡ old.seconds.ghost_name
