-- What preparation answers: number, place, time, count, and every lent room (01, "Numbers the unit shows").
use Rattle.std.specs.Prelude.{◌≡◌, List, [], ◌∷◌, ◌++◌, ℕ, ◌-◌, ◌≤◌, length, replicate}
use Rattle.network.specs.declared.answer.Answer.{Answer}
use Rattle.network.specs.declared.rows.Row.{Row}
use Rattle.network.specs.Network.{Network, Sized}
use Rattle.network.specs.Rows.{Columns, Even, no_row, rows, table}
use Rattle.network.specs.Refusal.{Rule, Refused, Passed, sizes, entries_order}
use Rattle.network.specs.Answers.{shown}
use Rattle.search.specs.Orders.{work_rooms}
use Rattle.columns.specs.Rooms.{Untouched, Zeroed}
use Rattle.preparation.specs.Contraction.{Prepared}

-- what preparation goes through, in 01's order: 1, 11, 2, 3, 4; "preparation may be lent any number of rows"
abbrev pub prepare_order : Network → Columns → (wide narrow : ℕ) → List Rule
prepare_order N T wide narrow = sizes (Sized N × Even T) ∷ work_rooms N wide narrow ∷ entries_order N

-- the shortcuts ss go into so many lent rows; "shortcuts exceed the lent rows or 4,096 in all" where they do not
pub record Fits (N : Network) (ss : List Row) (lent : ℕ) : Type 0 where
  pub rows_lent : length ss ≤ lent
  pub few_rows : rows N ss ≤ 4096

-- the lent rows with the shortcuts ss in front: it "zeroes the rows behind them"
pub record Holds (T : Columns) (lent : ℕ) (ss : List Row) : Type 0 where
  pub even : Even T
  pub size : length T.tails ≡ lent
  pub shows : table T ≡ ss ++ replicate (lent - length ss) no_row

-- "Preparation that succeeds returns the number of shortcuts"
abbrev pub shortcuts_made : List Row → Answer
shortcuts_made ss = record { number = 0; place = 0; time = 0; count = length ss }

-- What preparation answers, lent the rows T, and leaves in them: T'.
pub data PreparedInto (N : Network) (T T' : Columns) (wide wide' narrow narrow' : List ℕ) (a : Answer) : Type 0 where
  -- "its other refusals change none"
  refuses : {number place : ℕ} → Refused (prepare_order N T (length wide) (length narrow)) number place → a ≡ shown number place → T' ≡ T
      → Untouched wide wide' narrow narrow' → PreparedInto N T T' wide wide' narrow narrow' a
  -- "9 zeroes all lent rows"
  exceeds : Passed (prepare_order N T (length wide) (length narrow))
      → ((ss : List Row) → Prepared N ss → Fits N ss (length T.tails) → ⊥) → a ≡ shown 9 0 → Holds T' (length T.tails) []
      → Zeroed wide wide' narrow narrow' → PreparedInto N T T' wide wide' narrow narrow' a
  prepares : {ss : List Row} → Passed (prepare_order N T (length wide) (length narrow)) → Prepared N ss → Fits N ss (length T.tails)
      → a ≡ shortcuts_made ss → Holds T' (length T.tails) ss → Zeroed wide wide' narrow narrow'
      → PreparedInto N T T' wide wide' narrow narrow' a
