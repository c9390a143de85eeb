-- The witness search (01, "Contraction"): the least weights from a node over the rides that stand when v's turn to be contracted comes, and, where
-- asked for, over those that avoid v.
use Rattle.std.specs.Prelude.{◌≡◌, Bool, true, false, List, [], ◌∷◌, ℕ, ◌+◌, ◌*◌, ◌<◌, ◌≤◌, length, get_or}
use Rattle.network.specs.declared.weight.Weight.{Weight}
use Rattle.network.specs.declared.rows.Row.{Row}
use Rattle.network.specs.Weight.{zero_weight, none_yet, ◌⊕◌, Lighter}
use Rattle.network.specs.Order.{Before}
use Rattle.network.specs.Lent.{network_of, columns_of}
use Rattle.network.specs.Network.{Network, edges}
use Rattle.network.specs.Rows.{Columns, cost}
use Rattle.network.specs.Answers.{row_read}
use Rattle.columns.specs.Rooms.{Untouched}
use Rattle.search.specs.declared.witness.Turn as asked

-- What a search is asked of: the columns as they are lent, whatever they hold, the node whose turn it is, and whether paths must avoid it.
pub record Turn : Type 0 where
  pub roads : Network
  pub shortcuts : Columns
  pub node : ℕ
  pub around : Bool

abbrev pub turn_of : asked.Turn → Turn
turn_of t = record { roads = network_of t.network; shortcuts = columns_of t.shortcuts; node = t.node; around = t.around }

-- how many nodes and rows there are
abbrev pub node_count : Turn → ℕ
node_count Q = length Q.roads.node_ranks

abbrev pub row_count : Turn → ℕ
row_count Q = edges Q.roads + length Q.shortcuts.tails

-- row r, read totally
abbrev pub ridden : Turn → ℕ → Row
ridden Q r = row_read Q.roads Q.shortcuts r

-- x may be an end of a ride in v's turn: it is a node, not yet contracted, and not v where v is avoided
pub record Open (ranks : List ℕ) (v : ℕ) (around : Bool) (x : ℕ) : Type 0 where
  pub is_node : x < length ranks
  pub stands : Before ranks x v → ⊥
  pub avoided : around ≡ true → x ≡ v → ⊥

-- Row r is a ride from u to w: "The standing rows are the edges and shortcuts whose two ends are not yet contracted", "links left out".
pub record Ride (Q : Turn) (u r w : ℕ) : Type 0 where
  pub there : r < row_count Q
  pub no_link : (ridden Q r).mode ≡ 0 → ⊥
  pub leaves : (ridden Q r).tail ≡ u
  pub arrives : (ridden Q r).head ≡ w
  pub tail_open : Open Q.roads.node_ranks Q.node Q.around u
  pub head_open : Open Q.roads.node_ranks Q.node Q.around w

-- the rows of a path from u to w
pub data Path (Q : Turn) : (u w : ℕ) → List ℕ → Type 0 where
  stay : {u w : ℕ} → u ≡ w → Path Q u w []
  onward : {u x w r : ℕ} {rs : List ℕ} → Ride Q u r x → Path Q x w rs → Path Q u w (r ∷ rs)

-- the weight on arrival, of rows taken one after the other from the weight w on
abbrev pub along_rides : Turn → Weight → List ℕ → Weight
along_rides Q w [] = w
along_rides Q w (r ∷ rs) = along_rides Q (w ⊕ cost (ridden Q r)) rs

abbrev pub path_weight : Turn → List ℕ → Weight
path_weight Q rs = along_rides Q zero_weight rs

-- w is the least weight of the paths from `from` to x
pub record LeastPath (Q : Turn) (from x : ℕ) (w : Weight) : Type 0 where
  pub rows : List ℕ
  pub path : Path Q from x rows
  pub weighs : path_weight Q rows ≡ w
  pub least : (rs : List ℕ) → Path Q from x rs → Lighter (path_weight Q rs) w → ⊥

-- what is told of the node x: the least weight, or "none yet" where every path is heavier than the bound
pub data Reported (Q : Turn) (from : ℕ) (bound : Weight) (x : ℕ) (w : Weight) : Type 0 where
  within : LeastPath Q from x w → (Lighter bound w → ⊥) → Reported Q from bound x w
  beyond : ((rs : List ℕ) → Path Q from x rs → Lighter bound (path_weight Q rs)) → w ≡ none_yet → Reported Q from bound x w

-- where the rooms tell it: the time at x of the 64-bit room, the edges at 2x of the 32-bit room
abbrev pub told_at : (wide narrow : List ℕ) → ℕ → Weight
told_at wide narrow x = record { time = get_or wide x 0; edges = get_or narrow (2 * x) 0 }

-- behind the numbers of n nodes both rooms are as they were
pub record RestSame (n : ℕ) (wide narrow wide' narrow' : List ℕ) : Type 0 where
  pub wide_size : length wide' ≡ length wide
  pub narrow_size : length narrow' ≡ length narrow
  pub wide_rest : (i : ℕ) → n ≤ i → get_or wide' i 0 ≡ get_or wide i 0
  pub narrow_rest : (i : ℕ) → 2 * n ≤ i → get_or narrow' i 0 ≡ get_or narrow i 0

-- the rooms where the search was made
pub record Found (Q : Turn) (from : ℕ) (bound : Weight) (wide narrow wide' narrow' : List ℕ) : Type 0 where
  pub rest_same : RestSame (node_count Q) wide narrow wide' narrow'
  pub told : (x : ℕ) → x < node_count Q → Reported Q from bound x (told_at wide' narrow' x)
  pub zeroed : (x : ℕ) → x < node_count Q → get_or narrow' (2 * x + 1) 0 ≡ 0

-- when the search is made: at most "512 nodes" and "4,096 rows", a node to start from, and rooms of one 64-bit and two 32-bit numbers per node
pub record WitnessFits (nodes rows from wide narrow : ℕ) : Type 0 where
  pub few_nodes : nodes ≤ 512
  pub from_node : from < nodes
  pub wide_enough : nodes ≤ wide
  pub narrow_enough : 2 * nodes ≤ narrow
  pub few_rows : rows ≤ 4096

-- what the witness search answers
pub data Witnessed (Q : Turn) (from : ℕ) (bound : Weight) (wide narrow wide' narrow' : List ℕ) (answer : Bool) : Type 0 where
  unfit : (WitnessFits (node_count Q) (row_count Q) from (length wide) (length narrow) → ⊥) → answer ≡ false
      → Untouched wide wide' narrow narrow' → Witnessed Q from bound wide narrow wide' narrow' answer
  searched : WitnessFits (node_count Q) (row_count Q) from (length wide) (length narrow) → answer ≡ true
      → Found Q from bound wide narrow wide' narrow' → Witnessed Q from bound wide narrow wide' narrow' answer
