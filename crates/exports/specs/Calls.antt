-- A sheet handed over as bytes, and what the searches answer a caller who hands one over. The other calls promise what the core promises, word for
-- word.
use Rattle.std.specs.Prelude.{◌≡◌, List, [], ◌∷◌, ℕ, ◌+◌, ◌*◌, length, get_or}
use Rattle.network.specs.declared.answer.Answer.{Answer}
use Rattle.network.specs.declared.sheet.State.{State}
use Rattle.network.specs.Network.{Network}
use Rattle.network.specs.declared.sheet.Sheet.{Sheet}
use Rattle.network.specs.Sheet.{sheet_of}
use Rattle.network.specs.Rows.{Columns}
use Rattle.network.specs.Journey.{Journey}
use Rattle.network.specs.Answers.{shown}
use Rattle.search.specs.Orders.{plain_order}
use Rattle.columns.specs.Rooms.{Untouched}
use Rattle.search.specs.Answers.{legs_of, Answered}
use Rattle.legs.specs.Answers.{Contracted}

-- state q of a sheet: three bytes, modes, next and ends, and the states behind each other
abbrev pub state_read : List ℕ → ℕ → State
state_read bytes q = record { modes = get_or bytes (3 * q) 0; next = get_or bytes (3 * q + 1) 0; ends = get_or bytes (3 * q + 2) 0 }

-- "eight state entries"
abbrev pub states_read : List ℕ → List State
states_read bytes =
    state_read bytes 0 ∷ state_read bytes 1 ∷ state_read bytes 2 ∷ state_read bytes 3 ∷ state_read bytes 4 ∷ state_read bytes 5
    ∷ state_read bytes 6 ∷ state_read bytes 7 ∷ []

abbrev pub sheet_read : List ℕ → ℕ → Sheet
sheet_read bytes states = sheet_of (states_read bytes) states

-- A sheet of another length than 24 bytes is refused by 1 before anything else, and no room is touched.
pub record SheetRefused (bytes journey journey' wide wide' narrow narrow' : List ℕ) (a : Answer) : Type 0 where
  pub not_24 : length bytes ≡ 24 → ⊥
  pub refused : a ≡ shown 1 0
  pub journey_same : journey' ≡ journey
  pub rooms_same : Untouched wide wide' narrow narrow'

-- What the plain search answers a caller whose sheet is these bytes.
pub data PlainCalled (N : Network) (bytes : List ℕ) (states from to : ℕ) (journey journey' wide wide' narrow narrow' : List ℕ) (a : Answer)
    : Type 0 where
  no_sheet : SheetRefused bytes journey journey' wide wide' narrow narrow' a
      → PlainCalled N bytes states from to journey journey' wide wide' narrow narrow' a
  -- the core's promise, with the sheet read from the bytes
  asked : length bytes ≡ 24
      → Answered (plain_order N (sheet_read bytes states) from to (length wide) (length narrow)) N [] (Journey N [] (sheet_read bytes states) from to)
      journey journey' wide wide' narrow narrow' a (legs_of a) → PlainCalled N bytes states from to journey journey' wide wide' narrow narrow' a

-- What the contracted search answers a caller whose sheet is these bytes.
pub data ContractedCalled (N : Network) (T : Columns) (bytes : List ℕ) (states from to : ℕ) (journey journey' wide wide' narrow narrow' : List ℕ)
    (a : Answer) : Type 0 where
  no_sheet : SheetRefused bytes journey journey' wide wide' narrow narrow' a
      → ContractedCalled N T bytes states from to journey journey' wide wide' narrow narrow' a
  -- the core's promise, with the sheet read from the bytes
  asked : length bytes ≡ 24 → Contracted N T (sheet_read bytes states) from to journey journey' wide wide' narrow narrow' a
      → ContractedCalled N T bytes states from to journey journey' wide wide' narrow narrow' a
