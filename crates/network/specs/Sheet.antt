-- The traveller's sheet (01, "Network and sheet").
use Rattle.std.specs.Prelude.{◌≡◌, List, ℕ, ◌<◌, ◌≤◌, ◌/◌, ◌%◌, ◌^◌, get_or}
use Rattle.network.specs.declared.sheet.State.{State}
use Rattle.network.specs.declared.sheet.Sheet.{Sheet}

-- A `Sheet` is the program's: "held as eight state entries by value"; "entries past the state count are not read"
abbrev pub sheet_of : List State → ℕ → Sheet
sheet_of entries states = record { entries = entries; states = states }

abbrev pub no_state : State
no_state = record { modes = 0; next = 0; ends = 0 }

abbrev pub entry : Sheet → ℕ → State
entry S q = get_or S.entries q no_state

-- bit i of a byte is set
abbrev pub Bit : ℕ → ℕ → Type 0
Bit byte i = byte / 2 ^ i % 2 ≡ 1

-- "bit i set: mode i may be ridden"
abbrev pub MayRide : Sheet → ℕ → ℕ → Type 0
MayRide S q mode = Bit (entry S q).modes mode

-- "bit j set: a link may lead to state j"
abbrev pub MayChange : Sheet → ℕ → ℕ → Type 0
MayChange S q j = Bit (entry S q).next j

-- "1 initial, 2 final, 3 both, 0 neither"
abbrev pub Initial : Sheet → ℕ → Type 0
Initial S q = Bit (entry S q).ends 0

abbrev pub Final : Sheet → ℕ → Type 0
Final S q = Bit (entry S q).ends 1

-- "A sheet has 1 to 8 states"
pub record Counted (S : Sheet) : Type 0 where
  pub some_state : 1 ≤ S.states
  pub few_states : S.states ≤ 8

-- "bit 0 clear"; "Bits for absent states are clear"; an ends byte is one of the four
pub record StateFine (S : Sheet) (q : ℕ) : Type 0 where
  pub no_link_bit : Bit (entry S q).modes 0 → ⊥
  pub present : (entry S q).next < 2 ^ S.states
  pub known_ends : (entry S q).ends ≤ 3

-- a sheet that the check accepts
pub record SheetSound (S : Sheet) : Type 0 where
  pub counted : Counted S
  pub state_fine : (q : ℕ) → q < S.states → StateFine S q
