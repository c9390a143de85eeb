-- What the reader does with a byte of a stream, for any reader and all that is lent to it.
use Rattle.std.specs.Prelude.{◌≡◌, cond, List, [], ℕ, ◌+◌, ◌%◌, ◌<◌, ◌≤◌, min, eqb, ltb, length, take, set}
use Rattle.network.specs.declared.answer.Answer.{Answer}
use Rattle.network.specs.declared.sheet.State.{State}
use Rattle.network.specs.declared.sheet.Sheet.{Sheet}
use Rattle.network.specs.Network.{Network, network}
use Rattle.network.specs.Lent.{front_network, front_columns}
use Rattle.network.specs.Sheet.{Counted}
use Rattle.network.specs.Rows.{Columns}
use Rattle.network.specs.Refusal.{Refused, Passed, sheet_order}
use Rattle.network.specs.Answers.{shown}
use Rattle.legs.specs.Answers.{Contracted}
use Rattle.preparation.specs.Answers.{PreparedInto}
use Rattle.records.specs.declared.reader.Kind.{Kind}
use Rattle.records.specs.declared.reader.Kind.TheVariants as kind
use Rattle.records.specs.declared.reader.Stage.{Stage}
use Rattle.records.specs.declared.reader.Stage.TheVariants.{NodesDue, EdgesDue, SheetDue, StatesDue, Asking, Ended, Over}
use Rattle.records.specs.declared.reader.Reader.{Reader}
use Rattle.records.specs.Reader.{code_of, holding, done, byte_at, word, Misplaced, size_of}
use Rattle.lines.specs.Text.{line_of, LineWritten}
use Rattle.card.specs.Stream.{HeadFine, blank, with_state}

-- all that is lent
pub record Lent : Type 0 where
  pub network : Network
  pub shortcuts : Columns
  pub journey : List ℕ
  pub wide : List ℕ
  pub narrow : List ℕ
  pub line : List ℕ

abbrev pub lent : Network → Columns → (journey wide narrow line : List ℕ) → Lent
lent N T journey wide narrow line = record { network = N; shortcuts = T; journey = journey; wide = wide; narrow = narrow; line = line }

-- lines -------------------------------------------------------------------------------------------------------------------------------------

-- the record at hand is done with, and the text stands in front of the line, or the line is too short for it
pub record Told (r : Reader) (stage : Stage) (text line : List ℕ) (r' : Reader) (line' : List ℕ) : Type 0 where
  pub written : ℕ
  pub writes : LineWritten text line line' written
  pub then : r' ≡ done r stage written

-- the stream is refused
abbrev pub Refusing : Reader → Answer → (line : List ℕ) → Reader → (line' : List ℕ) → Type 0
Refusing r a line r' line' = Told r Over (line_of (shown a.number a.place) []) line r' line'

-- the head ------------------------------------------------------------------------------------------------------------------------------------

-- as many nodes and edges as there may be, and as the columns have room for
pub record HeadFits (n m node_room edge_room : ℕ) : Type 0 where
  pub fine : HeadFine n m
  pub nodes_fit : n ≤ node_room
  pub edges_fit : m ≤ edge_room

abbrev pub head_nodes : Reader → ℕ
head_nodes r = word (byte_at r 1) (byte_at r 2)

abbrev pub head_edges : Reader → ℕ
head_edges r = word (byte_at r 3) (byte_at r 4)

abbrev pub announced : Reader → Reader
announced r = record (done r NodesDue 0) { nodes = head_nodes r; edges = head_edges r; entered = 0 }

pub data HeadTaken (r : Reader) (node_room edge_room : ℕ) (line : List ℕ) (r' : Reader) (line' : List ℕ) : Type 0 where
  fits : HeadFits (head_nodes r) (head_edges r) node_room edge_room → r' ≡ announced r → line' ≡ line → HeadTaken r node_room edge_room line r' line'
  too_large : (HeadFits (head_nodes r) (head_edges r) node_room edge_room → ⊥) → Refusing r (shown 1 0) line r' line'
      → HeadTaken r node_room edge_room line r' line'

-- sheets ---------------------------------------------------------------------------------------------------------------------------------------

abbrev pub sheet_begun : Reader → Reader
sheet_begun r = record (done r StatesDue 0) { entered = 0; sheet = blank (byte_at r 1) }

pub data SheetTaken (r : Reader) (line : List ℕ) (r' : Reader) (line' : List ℕ) : Type 0 where
  begins : Counted (blank (byte_at r 1)) → r' ≡ sheet_begun r → line' ≡ line → SheetTaken r line r' line'
  miscounted : (Counted (blank (byte_at r 1)) → ⊥) → Refusing r (shown 5 0) line r' line' → SheetTaken r line r' line'

-- the state at hand, and the sheet with it
abbrev pub state_at : Reader → State
state_at r = record { modes = byte_at r 1; next = byte_at r 2; ends = byte_at r 3 }

abbrev pub sheet_with : Reader → Sheet
sheet_with r = with_state r.sheet (r.entered % 8) (state_at r)

abbrev pub listed : Reader → Stage → Reader
listed r stage = record (done r stage 0) { entered = r.entered % 8 + 1; sheet = sheet_with r }

pub data StateTaken (r : Reader) (line : List ℕ) (r' : Reader) (line' : List ℕ) : Type 0 where
  more_due : r.entered % 8 + 1 < r.sheet.states → r' ≡ listed r StatesDue → line' ≡ line → StateTaken r line r' line'
  accepted : r.sheet.states ≤ r.entered % 8 + 1 → Passed (sheet_order (sheet_with r)) → r' ≡ listed r Asking → line' ≡ line
      → StateTaken r line r' line'
  refused : {number place : ℕ} → r.sheet.states ≤ r.entered % 8 + 1 → Refused (sheet_order (sheet_with r)) number place
      → Refusing r (shown number place) line r' line' → StateTaken r line r' line'

-- the network --------------------------------------------------------------------------------------------------------------------------------

-- the columns with the node or the edge at hand
abbrev pub node_stored : Reader → Network → Network
node_stored r N =
    network (set N.node_modes r.entered (byte_at r 1)) (set N.node_ranks r.entered (word (byte_at r 2) (byte_at r 3)))
    N.tails N.heads N.modes N.lengths

abbrev pub edge_stored : Reader → Network → Network
edge_stored r N =
    network N.node_modes N.node_ranks (set N.tails r.entered (word (byte_at r 1) (byte_at r 2)))
    (set N.heads r.entered (word (byte_at r 3) (byte_at r 4))) (set N.modes r.entered (byte_at r 5))
    (set N.lengths r.entered (word (byte_at r 6) (byte_at r 7)))

-- so many nodes, edges or states are in
abbrev pub entering : Reader → Stage → (entered : ℕ) → Reader
entering r stage entered = record (done r stage 0) { entered = entered }

abbrev pub one_more : Reader → ℕ
one_more r = r.entered % 65536 + 1

-- the node at hand is in; after the last node edges are due
abbrev pub node_counted : Reader → Reader
node_counted r = cond (ltb (one_more r) r.nodes) (entering r NodesDue (one_more r)) (entering r EdgesDue 0)

-- the edge at hand is in
abbrev pub edge_counted : Reader → Reader
edge_counted r = entering r EdgesDue (one_more r)

-- the last record of the network is in
pub record NetworkIn (r : Reader) : Type 0 where
  pub no_node_due : r.stage ≡ EdgesDue
  pub no_edge_due : r.edges ≤ r.entered

abbrev pub readied : Reader → (shortcuts : ℕ) → Reader
readied r shortcuts = record (done r SheetDue 0) { shortcuts = shortcuts }

-- the network that is in the columns is prepared, with this answer
pub record Prepares (r : Reader) (L L' : Lent) (a : Answer) : Type 0 where
  pub prepared : PreparedInto (front_network r.nodes r.edges L.network) L.shortcuts L'.shortcuts L.wide L'.wide L.narrow L'.narrow a
  pub network_stands : L'.network ≡ L.network
  pub journey_stands : L'.journey ≡ L.journey

-- it is tested and prepared
pub data Closed (r : Reader) (L : Lent) (r' : Reader) (L' : Lent) : Type 0 where
  accepted : (a : Answer) → Prepares r L L' a → a.number ≡ 0 → r' ≡ readied r a.count → L'.line ≡ L.line → Closed r L r' L'
  refused : (a : Answer) → Prepares r L L' a → (a.number ≡ 0 → ⊥) → Refusing r a L.line r' L'.line → Closed r L r' L'

-- The node or the edge at hand is in its place in the columns and counted: the last closes the network.
pub data NetworkTaken (r : Reader) (L : Lent) (r' : Reader) (L' : Lent) : Type 0 where
  more_due : (NetworkIn r → ⊥) → r' ≡ r → L' ≡ L → NetworkTaken r L r' L'
  closes : NetworkIn r → Closed r L r' L' → NetworkTaken r L r' L'

-- all that is lent stands as it did, but for the network
abbrev pub with_network : Lent → Network → Lent
with_network L N = lent N L.shortcuts L.journey L.wide L.narrow L.line

abbrev pub NodeTaken : Reader → Lent → Reader → Lent → Type 0
NodeTaken r L r' L' = NetworkTaken (node_counted r) (with_network L (node_stored r L.network)) r' L'

abbrev pub EdgeTaken : Reader → Lent → Reader → Lent → Type 0
EdgeTaken r L r' L' = NetworkTaken (edge_counted r) (with_network L (edge_stored r L.network)) r' L'

-- questions ------------------------------------------------------------------------------------------------------------------------------------

-- "After 6 or 7 it goes on; any other refusal ends it"
abbrev pub stage_after : (number : ℕ) → Stage
stage_after number = cond (eqb number 0) Asking (cond (eqb number 6) Asking (cond (eqb number 7) Asking Over))

-- the question at hand is answered and told
pub record Answered (r : Reader) (N : Network) (T : Columns) (journey journey' wide wide' narrow narrow' line line' : List ℕ) (r' : Reader) : Type 0 where
  pub answer : Answer
  pub answers : Contracted N T r.sheet (word (byte_at r 1) (byte_at r 2)) (word (byte_at r 3) (byte_at r 4))
      journey journey' wide wide' narrow narrow' answer
  pub tells : Told r (stage_after answer.number) (line_of answer (take answer.count journey')) line r' line'

-- about the network and the shortcuts that are in front of the columns
pub record Asked (r : Reader) (L : Lent) (r' : Reader) (L' : Lent) : Type 0 where
  pub answered : Answered r (front_network r.nodes r.edges L.network) (front_columns r.shortcuts L.shortcuts)
      L.journey L'.journey L.wide L'.wide L.narrow L'.narrow L.line L'.line r'
  pub network_stands : L'.network ≡ L.network
  pub shortcuts_stand : L'.shortcuts ≡ L.shortcuts

-- bytes --------------------------------------------------------------------------------------------------------------------------------------

abbrev pub node_room : Network → ℕ
node_room N = min (length N.node_modes) (length N.node_ranks)

abbrev pub edge_room : Network → ℕ
edge_room N = min (min (length N.tails) (length N.heads)) (min (length N.modes) (length N.lengths))

-- all that is lent stands as it did, but for the line
abbrev pub line_only : Lent → (line : List ℕ) → Lent
line_only L line = lent L.network L.shortcuts L.journey L.wide L.narrow line

-- a whole record, by its kind
abbrev pub Taken : Kind → Reader → Lent → Reader → Lent → Type 0
Taken kind.End r L r' L' = (r' ≡ done r Ended 0) × (L' ≡ L)
Taken kind.Head r L r' L' = HeadTaken r (node_room L.network) (edge_room L.network) L.line r' L'.line × (L' ≡ line_only L L'.line)
Taken kind.Node r L r' L' = NodeTaken r L r' L'
Taken kind.Edge r L r' L' = EdgeTaken r L r' L'
Taken kind.State r L r' L' = StateTaken r L.line r' L'.line × (L' ≡ line_only L L'.line)
Taken kind.Question r L r' L' = Asked r L r' L'
Taken kind.Sheet r L r' L' = SheetTaken r L.line r' L'.line × (L' ≡ line_only L L'.line)

-- a byte is held of the record at hand, whose kind its first byte tells
pub data Held (r : Reader) (L : Lent) (r' : Reader) (L' : Lent) : Type 0 where
  waits : (k : Kind) → code_of k ≡ byte_at r 0 → r.held < size_of k → r' ≡ r → L' ≡ L → Held r L r' L'
  takes : (k : Kind) → code_of k ≡ byte_at r 0 → size_of k ≤ r.held → Taken k r L r' L' → Held r L r' L'
  unknown : ((k : Kind) → code_of k ≡ byte_at r 0 → ⊥) → Refusing r (shown 12 r.offset) L.line r' L'.line → L' ≡ line_only L L'.line
      → Held r L r' L'

-- a byte
pub data Fed (r : Reader) (byte : ℕ) (L : Lent) (r' : Reader) (L' : Lent) : Type 0 where
  over : r.stage ≡ Over → r' ≡ done r Over 0 → L' ≡ L → Fed r byte L r' L'
  misplaced : (r.stage ≡ Over → ⊥) → Misplaced r byte → Refusing r (shown 12 r.offset) L.line r' L'.line → L' ≡ line_only L L'.line
      → Fed r byte L r' L'
  held : (r.stage ≡ Over → ⊥) → (Misplaced r byte → ⊥) → Held (holding r byte) L r' L' → Fed r byte L r' L'

-- the end of input
pub data Finished (r : Reader) (line : List ℕ) (r' : Reader) (line' : List ℕ) : Type 0 where
  over : r.stage ≡ Over → r' ≡ done r Over 0 → line' ≡ line → Finished r line r' line'
  ended : r.stage ≡ Ended → r' ≡ done r Ended 0 → line' ≡ line → Finished r line r' line'
  stops : (r.stage ≡ Over → ⊥) → (r.stage ≡ Ended → ⊥) → Refusing r (shown 12 r.offset) line r' line' → Finished r line r' line'
