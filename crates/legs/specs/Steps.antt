-- What the inner functions of this crate promise each other. No entry point's promise rests on these words.
use Rattle.std.specs.Prelude.{◌≡◌, cond, List, [], ◌∷◌, ◌++◌, ℕ, zero, suc, ◌+◌, ◌-◌, ◌<◌, ◌≤◌, ltb, length, get_or, drop}
use Rattle.network.specs.Network.{Network}
use Rattle.network.specs.Rows.{Columns}
use Rattle.network.specs.Refusal.{Passed, network_order, rows_order}

-- Opening reads of a checked table no more than how many edges there are, m, and the columns of the shortcuts' children. The legs of row r,
-- told by these; by a number above the row.
unfoldable pub legs_by : ℕ → (m : ℕ) (firsts seconds : List ℕ) → ℕ → List ℕ
legs_by zero m firsts seconds r = []
legs_by (suc n) m firsts seconds r =
    cond (ltb r m) (r ∷ []) (legs_by n m firsts seconds (get_or firsts (r - m) 0) ++ legs_by n m firsts seconds (get_or seconds (r - m) 0))

unfoldable pub legs : (m : ℕ) (firsts seconds : List ℕ) → ℕ → List ℕ
legs m firsts seconds r = legs_by (suc r) m firsts seconds r

-- each shortcut has two children, and both have lower row numbers
pub record Falling (m : ℕ) (firsts seconds : List ℕ) : Type 0 where
  pub even : length seconds ≡ length firsts
  pub first_lower : (i : ℕ) → i < length firsts → get_or firsts i 0 < m + i
  pub second_lower : (i : ℕ) → i < length firsts → get_or seconds i 0 < m + i

-- row r is there, and so is room for its legs
pub record RowFits (m : ℕ) (firsts seconds : List ℕ) (r room : ℕ) : Type 0 where
  pub falling : Falling m firsts seconds
  pub there : r < m + length firsts
  pub room_enough : length (legs m firsts seconds r) ≤ room

-- rows a and b are there, and so is room for their legs together
pub record PairFits (m : ℕ) (firsts seconds : List ℕ) (a b room : ℕ) : Type 0 where
  pub falling : Falling m firsts seconds
  pub first_there : a < m + length firsts
  pub second_there : b < m + length firsts
  pub room_enough : length (legs m firsts seconds a) + length (legs m firsts seconds b) ≤ room

-- the legs `new`, n of them, are written in front of what was `room`, and the rest stands
pub record Written (new room : List ℕ) (n : ℕ) (room' : List ℕ) : Type 0 where
  pub counted : n ≡ length new
  pub holds : room' ≡ new ++ drop n room

-- the network and the table keep all rules
pub record Accepted (N : Network) (T : Columns) : Type 0 where
  pub network_accepted : Passed (network_order N)
  pub table_accepted : Passed (rows_order N T)
