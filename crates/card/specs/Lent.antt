-- What is lent to the reader of a stream, as its caller lends it.
use Rattle.std.specs.Prelude.{◌≡◌}
use Rattle.network.specs.Network as of_network
use Rattle.network.specs.Lent.{room_columns, SameRoom}
use Rattle.card.specs.Reading as reading
use Rattle.card.specs.declared.lent.NetworkRoom.{NetworkRoom}
use Rattle.card.specs.declared.lent.Lent.{Lent}

-- what the columns hold
abbrev pub network_in_room : NetworkRoom → of_network.Network
network_in_room n = of_network.network n.node_modes.now n.node_ranks.now n.tails.now n.heads.now n.modes.now n.lengths.now

abbrev pub lent_of : Lent → reading.Lent
lent_of l =
    reading.lent (network_in_room l.network) (room_columns l.shortcuts) l.journey.now l.wide.now l.narrow.now l.line.now

-- The rooms are those that were lent, whatever is written to them: what their fields refer to is the caller's still.
pub record SameNetworkRoom (old new : NetworkRoom) : Type 0 where
  pub same_node_modes : new.node_modes.ghost_name ≡ old.node_modes.ghost_name
  pub same_node_ranks : new.node_ranks.ghost_name ≡ old.node_ranks.ghost_name
  pub same_tails : new.tails.ghost_name ≡ old.tails.ghost_name
  pub same_heads : new.heads.ghost_name ≡ old.heads.ghost_name
  pub same_modes : new.modes.ghost_name ≡ old.modes.ghost_name
  pub same_lengths : new.lengths.ghost_name ≡ old.lengths.ghost_name

pub record SameLent (old new : Lent) : Type 0 where
  pub same_network : SameNetworkRoom old.network new.network
  pub same_shortcuts : SameRoom old.shortcuts new.shortcuts
  pub same_journey : new.journey.ghost_name ≡ old.journey.ghost_name
  pub same_wide : new.wide.ghost_name ≡ old.wide.ghost_name
  pub same_narrow : new.narrow.ghost_name ≡ old.narrow.ghost_name
  pub same_line : new.line.ghost_name ≡ old.line.ghost_name
