-- What the functions promise each other that open the rows of a journey in place. No entry point's promise rests on these words.
use Rattle.std.specs.Prelude.{◌≡◌, List, ◌++◌, ℕ, ◌+◌, ◌<◌, ◌≤◌, length, get_or, take, drop}
use Rattle.network.specs.declared.rows.Row.{Row}
use Rattle.network.specs.Network.{Network, Sound}
use Rattle.network.specs.Rows.{Columns, Even, row, rows, table, SoundTable}
use Rattle.legs.specs.Opening.{opened, opened_all}

-- the first numbers of the journey room, `written` of them, are rows of a sound table, and it has room for their legs, `count` in all
pub record RowsStand (N : Network) (T : Columns) (written count : ℕ) (journey : List ℕ) : Type 0 where
  pub sound : Sound N
  pub even : Even T
  pub sound_table : SoundTable N (table T)
  pub inside : written ≤ length journey
  pub there : (k : ℕ) → k < written → get_or journey k 0 < rows N (table T)
  pub counted : count ≡ length (opened_all N (table T) (take written journey))
  pub room_enough : count ≤ length journey

-- the number at i of the journey room is a row, and its legs go before `end`
pub record RowFitsBefore (N : Network) (T : Columns) (i end : ℕ) (journey : List ℕ) : Type 0 where
  pub even : Even T
  pub sound_table : SoundTable N (table T)
  pub stands : i < length journey
  pub there : get_or journey i 0 < rows N (table T)
  pub inside : end ≤ length journey
  pub room_enough : (row N (table T) (get_or journey i 0)).count ≤ end

-- the legs of row r stand from `begin` up to `end`, and the rest as it was
pub record LegsBefore (N : Network) (ss : List Row) (r end : ℕ) (journey : List ℕ) (begin : ℕ) (journey' : List ℕ) : Type 0 where
  pub begins : begin + length (opened N ss r) ≡ end
  pub holds : journey' ≡ take begin journey ++ (opened N ss r ++ drop end journey)
