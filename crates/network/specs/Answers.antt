-- What the functions of this crate answer.
use Rattle.std.specs.Prelude.{◌≡◌, Bool, true, false, cond, Option, None, Some, Result, Ok, Err, List, ℕ, ◌-◌, ◌<◌, ◌≤◌, ltb, length, get_or}
use Rattle.network.specs.declared.answer.Answer.{Answer}
use Rattle.network.specs.declared.refusal.Fault.{Fault}
use Rattle.network.specs.declared.refusal.Fault.TheVariants.{Sizes, NodeMode, Edge, Transfer, Sheet, Question, NoJourney, JourneyRoom, ShortcutSpace, Shortcut, WorkRoom, Record}
use Rattle.network.specs.declared.refusal.Refusal.{Refusal}
use Rattle.network.specs.declared.rows.Row.{Row}
use Rattle.network.specs.Network.{Network, edges}
use Rattle.network.specs.Rows.{Columns, edge_row, shortcut}
use Rattle.network.specs.Refusal.{Rule, Refused, Passed, Lowest}

-- a test's answer tells whether P holds
abbrev pub Decides : Bool → Type 0 → Type 0
Decides true P = P
Decides false P = P → ⊥

-- "Time and count are 0 with every refusal but 8"
abbrev pub shown : (number place : ℕ) → Answer
shown number place = record { number = number; place = place; time = 0; count = 0 }

-- the number that a fault shows (01, "Numbers the unit shows")
abbrev pub number_of : Fault → ℕ
number_of Sizes = 1
number_of NodeMode = 2
number_of Edge = 3
number_of Transfer = 4
number_of Sheet = 5
number_of Question = 6
number_of NoJourney = 7
number_of JourneyRoom = 8
number_of ShortcutSpace = 9
number_of Shortcut = 10
number_of WorkRoom = 11
number_of Record = 12

-- what a refusal shows
abbrev pub refused : Refusal → Answer
refused r = shown (number_of r.fault) r.place

-- what a check shows
abbrev pub verdict : Result Unit Refusal → Answer
verdict (Ok passed) = shown 0 0
verdict (Err r) = refused r

-- what a check of the rules finds: all are kept, or the first that is broken, with its number and place
abbrev pub Ruled : List Rule → Result Unit Refusal → Type 0
Ruled rules (Ok passed) = Passed rules
Ruled rules (Err r) = Refused rules (number_of r.fault) r.place

-- what a search for the lowest number from start on and below n finds, of which P does not hold
abbrev pub Found : (ℕ → Type 0) → (start n : ℕ) → Option ℕ → Type 0
Found P start n None = (i : ℕ) → start ≤ i → i < n → P i
Found P start n (Some p) = Lowest P start n p

-- what a check of the rules answers: number 0 and place 0 where all are kept, else those of the first that is broken
pub data Checked (rules : List Rule) (a : Answer) : Type 0 where
  accepts : a ≡ shown 0 0 → Passed rules → Checked rules a
  refuses : {number place : ℕ} → a ≡ shown number place → Refused rules number place → Checked rules a

-- row r as the columns hold it, whatever their lengths: an edge, then a shortcut, and 0 past a column's end
abbrev pub row_read : Network → Columns → ℕ → Row
row_read N T r = cond (ltb r (edges N)) (edge_row N r) (shortcut T (r - edges N))

-- its tail alone
abbrev pub tail_read : (tails shortcut_tails : List ℕ) → ℕ → ℕ
tail_read tails shortcut_tails r = cond (ltb r (length tails)) (get_or tails r 0) (get_or shortcut_tails (r - length tails) 0)
