-- The text that a card stream owes (01, "Card stream"). Of shortcuts it says no more than when 9 is shown.
use Rattle.std.specs.Prelude.{◌≡◌, cond, ℕ, suc, ◌+◌, ◌<◌, ◌≤◌, ltb, length, set, replicate}
use mathlib.Core.List.{List, [], ◌∷◌, ◌++◌, Memᴰ}
use Rattle.network.specs.declared.weight.Weight.{Weight}
use Rattle.network.specs.declared.rows.Row.{Row}
use Rattle.network.specs.declared.sheet.State.{State}
use Rattle.network.specs.Network.{Network, network, nodes, edges}
use Rattle.network.specs.declared.sheet.Sheet.{Sheet}
use Rattle.network.specs.Sheet.{sheet_of, no_state, Counted}
use Rattle.network.specs.Journey.{weight, Journey, Least, None}
use Rattle.network.specs.Refusal.{Refused, Passed, network_order, sheet_order, question_order}
use Rattle.preparation.specs.Contraction.{Prepared}
use Rattle.preparation.specs.Answers.{Fits}
use Rattle.card.specs.Records.{Record, head, node, edge, sheet, state, question, end, bytes_of, Cut}
use Rattle.lines.specs.Text.{journey_line, refusal_line}

-- How far a stream has come.
pub data Stage : Type 0 where
  start : Stage
  -- the head has announced so many nodes and edges; the network is what has come of them
  building : (n m : ℕ) → Network → Stage
  -- the network is accepted, and there is no sheet yet
  ready : Network → Stage
  -- a sheet is begun, and so many of its states have come
  listing : Network → Sheet → (come : ℕ) → Stage
  asking : Network → Sheet → Stage
  ended : Stage

-- "Order: 1, all nodes, all edges, then sheets (6 with its states) and questions, the first question after a sheet; a stream may end without
-- either": the kinds of record that may come next. An unknown kind never may, and "0 end, no body, nothing after it".
abbrev pub due : Stage → List ℕ
due start = 1 ∷ []
due (building n m N) = cond (ltb (nodes N) n) 2 3 ∷ []
due (ready N) = 6 ∷ 0 ∷ []
due (listing N S come) = 4 ∷ []
due (asking N S) = 6 ∷ 5 ∷ 0 ∷ []
due ended = []

-- "1 to 512 nodes", "0 to 2,048 edges"
pub record HeadFine (n m : ℕ) : Type 0 where
  pub some_node : 1 ≤ n
  pub few_nodes : n ≤ 512
  pub few_edges : m ≤ 2048

abbrev pub no_network : Network
no_network = network [] [] [] [] [] []

abbrev pub with_node : Network → (mode rank : ℕ) → Network
with_node N mode rank = network (N.node_modes ++ mode ∷ []) (N.node_ranks ++ rank ∷ []) N.tails N.heads N.modes N.lengths

abbrev pub with_edge : Network → (tail head mode length : ℕ) → Network
with_edge N t h mode l =
    network N.node_modes N.node_ranks (N.tails ++ t ∷ []) (N.heads ++ h ∷ []) (N.modes ++ mode ∷ []) (N.lengths ++ l ∷ [])

-- a record of a network of n nodes and m edges: what has come is then N'
pub data Brings (n m : ℕ) (N : Network) : Record → Network → Type 0 where
  a_node : {mode rank : ℕ} → nodes N < n → Brings n m N (node mode rank) (with_node N mode rank)
  an_edge : {t h mode l : ℕ} → nodes N ≡ n → edges N < m → Brings n m N (edge t h mode l) (with_edge N t h mode l)

-- "its last record is in"
pub record Whole (n m : ℕ) (N : Network) : Type 0 where
  pub all_nodes : nodes N ≡ n
  pub all_edges : edges N ≡ m

-- a sheet of so many states of which none has come
abbrev pub blank : ℕ → Sheet
blank states = sheet_of (replicate 8 no_state) states

abbrev pub with_state : Sheet → (come : ℕ) → State → Sheet
with_state S come x = sheet_of (set S.entries come x) S.states

-- a stage in which a sheet may begin, or the stream end
pub data Open : Stage → Network → Type 0 where
  no_sheet : {N : Network} → Open (ready N) N
  some_sheet : {N : Network} {S : Sheet} → Open (asking N S) N

-- The line that a question owes, in the plain meaning. "A refusal is `!`, number, place"; of several journeys of the least weight any may be told.
pub data Reply (N : Network) (S : Sheet) (from to : ℕ) : List ℕ → Type 0 where
  names_no_node : {number place : ℕ} → Refused (question_order (nodes N) from to) number place → Reply N S from to (refusal_line number place)
  no_journey : Passed (question_order (nodes N) from to) → None (Journey N [] S from to) → Reply N S from to (refusal_line 7 0)
  travels : {w : Weight} {legs : List ℕ} → Passed (question_order (nodes N) from to) → Least N [] (Journey N [] S from to) w
      → Journey N [] S from to legs → weight N [] legs ≡ w → Reply N S from to (journey_line w.time w.edges legs)

-- a record with which the stream goes on: the next stage, and the line that is owed for it
pub data Follows : Stage → Record → Stage → List ℕ → Type 0 where
  announces : {n m : ℕ} → HeadFine n m → Follows start (head n m) (building n m no_network) []
  grows : {n m : ℕ} {N N' : Network} {r : Record} → Brings n m N r N' → (Whole n m N' → ⊥) → Follows (building n m N) r (building n m N') []
  -- "the network when its last record is in"; it "prepares the network as soon as it is tested", and "lends 4,096 rows for shortcuts"
  accepts : {n m : ℕ} {N N' : Network} {r : Record} {ss : List Row} → Brings n m N r N' → Whole n m N' → Passed (network_order N') → Prepared N' ss
      → Fits N' ss 4096 → Follows (building n m N) r (ready N') []
  begins_sheet : {s : Stage} {N : Network} {states : ℕ} → Open s N → Counted (blank states) → Follows s (sheet states) (listing N (blank states) 0) []
  lists : {N : Network} {S S' : Sheet} {come : ℕ} {x : State} → suc come < S.states → S' ≡ with_state S come x
      → Follows (listing N S come) (state x.modes x.next x.ends) (listing N S' (suc come)) []
  -- "a sheet at its last state"
  accepts_sheet : {N : Network} {S S' : Sheet} {come : ℕ} {x : State} → suc come ≡ S.states → S' ≡ with_state S come x → Passed (sheet_order S')
      → Follows (listing N S come) (state x.modes x.next x.ends) (asking N S') []
  -- "a line for each question"; "After 6 or 7 it goes on"
  asks : {N : Network} {S : Sheet} {from to : ℕ} {line : List ℕ} → Reply N S from to line
      → Follows (asking N S) (question from to) (asking N S) line
  ends : {s : Stage} {N : Network} → Open s N → Follows s end ended []

-- a record with which the stream is refused
pub data Refuses : Stage → Record → (number place : ℕ) → Type 0 where
  -- "Head limits (1) and a sheet's state count (5) are tested at once"
  head_limits : {n m : ℕ} → (HeadFine n m → ⊥) → Refuses start (head n m) 1 0
  bad_network : {n m number place : ℕ} {N N' : Network} {r : Record} → Brings n m N r N' → Whole n m N'
      → Refused (network_order N') number place → Refuses (building n m N) r number place
  -- "shortcuts exceed the lent rows or 4,096 in all"
  too_many : {n m : ℕ} {N N' : Network} {r : Record} → Brings n m N r N' → Whole n m N' → Passed (network_order N')
      → ((ss : List Row) → Prepared N' ss → Fits N' ss 4096 → ⊥) → Refuses (building n m N) r 9 0
  state_count : {s : Stage} {N : Network} {states : ℕ} → Open s N → (Counted (blank states) → ⊥) → Refuses s (sheet states) 5 0
  bad_sheet : {N : Network} {S S' : Sheet} {come number place : ℕ} {x : State} → suc come ≡ S.states → S' ≡ with_state S come x
      → Refused (sheet_order S') number place → Refuses (listing N S come) (state x.modes x.next x.ends) number place

-- The text that the bytes owe from a stage on, the first of them being at this offset of the stream.
pub data Text : Stage → (offset : ℕ) → (bytes text : List ℕ) → Type 0 where
  over : {offset : ℕ} → Text ended offset [] []
  -- "A stream that stops between records has place = its length."
  stops : {s : Stage} {offset : ℕ} → (s ≡ ended → ⊥) → Text s offset [] (refusal_line 12 offset)
  -- "unknown, misplaced or cut record": "its first byte's offset"
  misplaced : {s : Stage} {offset kind : ℕ} {rest : List ℕ} → (Memᴰ kind (due s) → ⊥) → Text s offset (kind ∷ rest) (refusal_line 12 offset)
  cut : {s : Stage} {offset : ℕ} {bytes : List ℕ} → Cut bytes → Text s offset bytes (refusal_line 12 offset)
  goes_on : {s s' : Stage} {offset : ℕ} {r : Record} {bytes rest line text all : List ℕ} → bytes ≡ bytes_of r ++ rest → Follows s r s' line
      → Text s' (offset + length (bytes_of r)) rest text → all ≡ line ++ text → Text s offset bytes all
  -- "any other refusal ends it, earlier lines standing"
  refuses : {s : Stage} {offset number place : ℕ} {r : Record} {bytes : List ℕ} (rest : List ℕ) → bytes ≡ bytes_of r ++ rest
      → Refuses s r number place
      → Text s offset bytes (refusal_line number place)

-- the text that a whole stream owes
abbrev pub StreamText : (bytes text : List ℕ) → Type 0
StreamText bytes text = Text start 0 bytes text
