-- What the rooms lend to the reader of a stream.
use Rattle.network.specs.Network.{network}
use Rattle.network.specs.Rows.{columns}
use Rattle.card.specs.Reading.{Lent, lent}
use Rattle.owed.specs.declared.rooms.Rooms.{Rooms}

-- all of them, as they stand
abbrev pub lent_by : Rooms → Lent
lent_by r =
    lent
    (network r.node_modes r.node_ranks r.tails r.heads r.modes r.lengths)
    (columns r.shortcut_tails r.shortcut_heads r.shortcut_modes r.shortcut_lengths r.shortcut_counts r.shortcut_firsts r.shortcut_seconds)
    r.journey
    r.wide
    r.narrow
    r.line
