-- 01's cases P1 to P12 ("Reference network"), as one table, and what it means that a case holds.
use mathlib.Core.List.{List, [], ◌∷◌}
use Prim.Native.Nat.{ℕ, ◌*◌, ◌<◌, ◌≤◌}
use lib.ListN.{length, replicate}
use Rattle.network.specs.declared.sheet.State.{State}
use Rattle.network.specs.declared.rows.Row.{Row}
use Rattle.network.specs.Network.{Network, nodes}
use Rattle.network.specs.declared.sheet.Sheet.{Sheet}
use Rattle.network.specs.Rows.{rows}
use Rattle.network.specs.Journey.{Journey, Least, None}
use Rattle.network.specs.Refusal.{Refused, Passed}
use Rattle.search.specs.Orders.{room_order, plain_order}
use Rattle.preparation.specs.Contraction.{Prepared}

-- what 01 says comes out of a question
pub data Outcome : Type 0 where
  -- number 0: the journey's time and count, and it fits the journey room
  answer : (seconds count : ℕ) → Outcome
  -- number 7
  no_journey : Outcome
  -- number 8: the time and count of the journey that did not fit
  too_short : (seconds count : ℕ) → Outcome
  -- another number, with its place
  refusal : (number place : ℕ) → Outcome

pub data Case : Type 0 where
  -- a network and a sheet, asked the way between two nodes, with a journey room of this length
  asked : Network → Sheet → (from to room : ℕ) → Outcome → Case
  -- a network, lent so many rows, and the shortcut rows that preparation must write
  shortcuts : Network → (lent : ℕ) → List Row → Case
  -- a network that preparation refuses, with number and place
  unfit : Network → (number place : ℕ) → Case

-- What comes out is right, with work rooms just large enough.
abbrev pub Comes : Network → Sheet → (from to room : ℕ) → Outcome → Type 0
Comes N S from to room (answer seconds count) =
    Passed (plain_order N S from to (16 * nodes N) (32 * nodes N))
    × Least N [] (Journey N [] S from to) (record { time = seconds; edges = count })
    × count ≤ room
Comes N S from to room no_journey =
    Passed (plain_order N S from to (16 * nodes N) (32 * nodes N)) × None (Journey N [] S from to)
Comes N S from to room (too_short seconds count) =
    Passed (plain_order N S from to (16 * nodes N) (32 * nodes N))
    × Least N [] (Journey N [] S from to) (record { time = seconds; edges = count })
    × room < count
Comes N S from to room (refusal number place) = Refused (plain_order N S from to (16 * nodes N) (32 * nodes N)) number place

abbrev pub Holds : Case → Type 0
Holds (asked N S from to room outcome) = Comes N S from to room outcome
Holds (shortcuts N lent ss) =
    Passed (room_order N (16 * nodes N) (32 * nodes N)) × Prepared N ss × length ss ≤ lent × rows N ss ≤ 4096
Holds (unfit N number place) = Refused (room_order N (16 * nodes N) (32 * nodes N)) number place

-- "Nodes 0, 1, 2, 5, 6 foot (mode 1); 3, 4 rail (mode 2). Ranks: node 1 has 0; 0 and 6 have 5; the rest are core. Edges: 0: 0-1 foot 4;
-- 1: 1-2 foot 3; 2: 2-3 link 2; 3: 3-4 rail 6; 4: 4-5 link 2; 5: 5-6 foot 5; 6: 0-2 foot 9; 7: 2-5 foot 30." With the rank of node 2 and the
-- length of edge 6 left open.
abbrev pub variant : (rank_of_2 length_of_6 : ℕ) → Network
variant rank_of_2 length_of_6 = record {
  node_modes = 1 ∷ 1 ∷ 1 ∷ 2 ∷ 2 ∷ 1 ∷ 1 ∷ [];
  node_ranks = 5 ∷ 0 ∷ rank_of_2 ∷ 65535 ∷ 65535 ∷ 65535 ∷ 5 ∷ [];
  tails = 0 ∷ 1 ∷ 2 ∷ 3 ∷ 4 ∷ 5 ∷ 0 ∷ 2 ∷ [];
  heads = 1 ∷ 2 ∷ 3 ∷ 4 ∷ 5 ∷ 6 ∷ 2 ∷ 5 ∷ [];
  modes = 1 ∷ 1 ∷ 0 ∷ 2 ∷ 0 ∷ 1 ∷ 1 ∷ 1 ∷ [];
  lengths = 4 ∷ 3 ∷ 2 ∷ 6 ∷ 2 ∷ 5 ∷ length_of_6 ∷ 30 ∷ [];
}

abbrev pub reference : Network
reference = variant 65535 9

-- "one node, no edges"
abbrev pub lone : Network
lone = record { node_modes = 1 ∷ []; node_ranks = 65535 ∷ []; tails = []; heads = []; modes = []; lengths = [] }

abbrev pub state : (modes next ends : ℕ) → State
state modes next ends = record { modes = modes; next = next; ends = ends }

-- "held as eight state entries": these, and the rest zero
abbrev pub absent : ℕ → List State
absent n = replicate n (state 0 0 0)

-- "Sheet A: state 0 (modes 2, next 2, ends 3), state 1 (4, 1, 0). Sheet F: one state (2, 0, 3). Sheet R: one state (4, 0, 3)."
abbrev pub sheet_A : Sheet
sheet_A = record { states = 2; entries = state 2 2 3 ∷ state 4 1 0 ∷ absent 6 }

abbrev pub sheet_F : Sheet
sheet_F = record { states = 1; entries = state 2 0 3 ∷ absent 7 }

abbrev pub sheet_R : Sheet
sheet_R = record { states = 1; entries = state 4 0 3 ∷ absent 7 }

-- "one state that is initial only"
abbrev pub sheet_I : Sheet
sheet_I = record { states = 1; entries = state 2 0 1 ∷ absent 7 }

-- "row 8: 0 to 2, mode 1, length 7, count 2, children 0 and 1"
abbrev pub row_8 : Row
row_8 = record { tail = 0; head = 2; mode = 1; length = 7; count = 2; first = 0; second = 1 }

abbrev pub cases : List Case
cases =
    -- P1
    asked reference sheet_A 0 6 4096 (answer 22 6)
    -- P2
    ∷ asked reference sheet_F 0 6 4096 (answer 42 4)
    -- P3
    ∷ asked reference sheet_A 0 3 4096 no_journey
    -- P4
    ∷ asked reference sheet_A 3 4 4096 no_journey
    -- P5
    ∷ asked reference sheet_A 0 0 4096 (answer 0 0)
    -- P6
    ∷ asked reference sheet_R 0 0 4096 (answer 0 0)
    -- P7
    ∷ shortcuts reference 1 (row_8 ∷ [])
    -- P8
    ∷ shortcuts (variant 65535 7) 0 []
    ∷ asked (variant 65535 7) sheet_A 0 6 4096 (answer 22 5)
    -- P9
    ∷ shortcuts (variant 65535 8) 1 (row_8 ∷ [])
    -- P10
    ∷ asked reference sheet_A 0 6 5 (too_short 22 6)
    ∷ asked reference sheet_A 0 6 6 (answer 22 6)
    -- P11
    ∷ asked (variant 9 9) sheet_A 0 6 4096 (refusal 4 2)
    ∷ unfit (variant 9 9) 4 2
    -- P12
    ∷ asked lone sheet_I 0 0 4096 no_journey
    ∷ []
