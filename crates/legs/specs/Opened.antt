-- What the opening of a row answers, and what it leaves in the lent room (01, "Contraction").
use Rattle.std.specs.Prelude.{◌≡◌, List, [], ◌++◌, ℕ, ◌<◌, ◌≤◌, length, drop}
use Rattle.network.specs.Network.{Network}
use Rattle.network.specs.Rows.{Columns, row, rows, table}
use Rattle.network.specs.Refusal.{Passed, network_order, rows_order}
use Rattle.legs.specs.Opening.{opened}

-- "if the network, the table or the row number is bad, or the room is short": row r may be opened into a room of so many numbers if none of
-- the four is so
pub record Openable (N : Network) (T : Columns) (r room : ℕ) : Type 0 where
  pub network_accepted : Passed (network_order N)
  pub table_accepted : Passed (rows_order N T)
  pub row_there : r < rows N (table T)
  pub room_enough : (row N (table T) r).count ≤ room

-- Opening row r into a room that held `room` answers n and leaves `room'`. "Opening a row writes its edge numbers in order", in front of the
-- room, or it "writes nothing".
pub data OpenedInto (N : Network) (T : Columns) (r : ℕ) (room : List ℕ) (n : ℕ) (room' : List ℕ) : Type 0 where
  opens : Openable N T r (length room) → n ≡ (row N (table T) r).count → room' ≡ opened N (table T) r ++ drop n room
      → OpenedInto N T r room n room'
  refuses : (Openable N T r (length room) → ⊥) → n ≡ 0 → room' ≡ room → OpenedInto N T r room n room'

-- "Opening hands back the filled front of the lent room", or "an empty part".
pub data HandedBack (N : Network) (T : Columns) (r room : ℕ) (part : List ℕ) : Type 0 where
  filled : Openable N T r room → part ≡ opened N (table T) r → HandedBack N T r room part
  empty : (Openable N T r room → ⊥) → part ≡ [] → HandedBack N T r room part
