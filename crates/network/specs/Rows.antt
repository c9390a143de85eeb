-- Rows: the edges, then the shortcuts (01, "Contraction"), and when a shortcut row is sound.
use Rattle.std.specs.Prelude.{◌≡◌, cond, List, [], ◌∷◌, ℕ, zero, suc, ◌+◌, ◌-◌, ◌<◌, ◌≤◌, ltb, length, get_or}
use Rattle.network.specs.declared.weight.Weight.{Weight}
use Rattle.network.specs.declared.rows.Row.{Row}
use Rattle.network.specs.Weight.{◌⊕◌}
use Rattle.network.specs.Order.{Core, Before}
use Rattle.network.specs.Network.{Network, edges, edge_tail, edge_head, edge_mode, edge_length}

-- what stands past the end of a table
abbrev pub no_row : Row
no_row = record { tail = 0; head = 0; mode = 0; length = 0; count = 0; first = 0; second = 0 }

-- an edge read as a row: it counts as one edge and has no children
abbrev pub edge_row : Network → ℕ → Row
edge_row N e =
    record { tail = edge_tail N e; head = edge_head N e; mode = edge_mode N e; length = edge_length N e; count = 1; first = 0; second = 0 }

-- "Row numbers: the edges, then shortcuts": row r of a network with the shortcuts ss
abbrev pub row : Network → List Row → ℕ → Row
row N ss r = cond (ltb r (edges N)) (edge_row N r) (get_or ss (r - edges N) no_row)

abbrev pub rows : Network → List Row → ℕ
rows N ss = edges N + length ss

-- what a row costs
abbrev pub cost : Row → Weight
cost x = record { time = x.length; edges = x.count }

-- Shortcuts as they are lent. "A shortcut row holds tail, head, mode, length, count, first child, second child."
pub record Columns : Type 0 where
  pub tails : List ℕ
  pub heads : List ℕ
  pub modes : List ℕ
  pub lengths : List ℕ
  pub counts : List ℕ
  pub firsts : List ℕ
  pub seconds : List ℕ

-- the columns in the order in which every function takes them
abbrev pub columns : (tails heads modes lengths counts firsts seconds : List ℕ) → Columns
columns a b c d e f g = record { tails = a; heads = b; modes = c; lengths = d; counts = e; firsts = f; seconds = g }

-- columns that agree in length
pub record Even (T : Columns) : Type 0 where
  pub heads_even : length T.heads ≡ length T.tails
  pub modes_even : length T.modes ≡ length T.tails
  pub lengths_even : length T.lengths ≡ length T.tails
  pub counts_even : length T.counts ≡ length T.tails
  pub firsts_even : length T.firsts ≡ length T.tails
  pub seconds_even : length T.seconds ≡ length T.tails

-- what the columns hold at i
abbrev pub shortcut : Columns → ℕ → Row
shortcut T i = record {
  tail = get_or T.tails i 0;
  head = get_or T.heads i 0;
  mode = get_or T.modes i 0;
  length = get_or T.lengths i 0;
  count = get_or T.counts i 0;
  first = get_or T.firsts i 0;
  second = get_or T.seconds i 0;
}

-- f 0, f 1, .. f (n - 1)
unfoldable pub listed : ℕ → (ℕ → Row) → List Row
listed zero f = []
listed (suc n) f = f zero ∷ listed n (λ i. f (suc i))

-- the shortcut rows that the columns hold
unfoldable pub table : Columns → List Row
table T = listed (length T.tails) (shortcut T)

-- "Edges and shortcuts together: at most 4,096 rows", in columns that agree in length
pub record RowsSized (N : Network) (T : Columns) : Type 0 where
  pub even : Even T
  pub few_rows : edges N + length T.tails ≤ 4096

-- A shortcut x with the children a and b.
-- "first tail, meeting node and second head fit; the tail differs from the head"
pub record EndsFit (x a b : Row) : Type 0 where
  pub starts : a.tail ≡ x.tail
  pub meets : a.head ≡ b.tail
  pub ends : b.head ≡ x.head
  pub apart : x.tail ≡ x.head → ⊥

-- "the meeting node is not core and is contracted before both ends"
pub record MeetsLow (ranks : List ℕ) (meeting : ℕ) (x : Row) : Type 0 where
  pub not_core : Core ranks meeting → ⊥
  pub before_tail : Before ranks meeting x.tail
  pub before_head : Before ranks meeting x.head

-- "all three modes agree"
pub record OneMode (x a b : Row) : Type 0 where
  pub first_mode : a.mode ≡ x.mode
  pub second_mode : b.mode ≡ x.mode

-- "sums and bounds above hold": "Its length and count are its children's sums; at most 33,488,385 and 511."
pub record AddsUp (x a b : Row) : Type 0 where
  pub sums : cost x ≡ cost a ⊕ cost b
  pub length_bound : x.length ≤ 33488385
  pub count_bound : x.count ≤ 511

pub record Joins (ranks : List ℕ) (x a b : Row) : Type 0 where
  pub ends_fit : EndsFit x a b
  pub meets_low : MeetsLow ranks a.head x
  pub one_mode : OneMode x a b
  pub adds_up : AddsUp x a b

-- "A shortcut row is sound exactly if both children have lower row numbers" and it joins them
pub record SoundRow (N : Network) (ss : List Row) (r : ℕ) : Type 0 where
  pub first_lower : (row N ss r).first < r
  pub second_lower : (row N ss r).second < r
  pub joins : Joins N.node_ranks (row N ss r) (row N ss (row N ss r).first) (row N ss (row N ss r).second)

-- a table that the check accepts
pub record SoundTable (N : Network) (ss : List Row) : Type 0 where
  pub few : rows N ss ≤ 4096
  pub each : (r : ℕ) → edges N ≤ r → r < rows N ss → SoundRow N ss r
