-- What the inner functions of preparation promise each other. No entry point's promise rests on these words.
use Rattle.std.specs.Prelude.{◌≡◌, cond, Option, Some, None, ℕ, zero, suc, ◌+◌, ◌*◌, ◌%◌, ◌<◌, ◌≤◌, eqb, length, get_or, set}
use mathlib.Core.List.{List, [], ◌∷◌, ◌++◌, Memᴰ}
use Rattle.network.specs.declared.weight.Weight.{Weight}
use Rattle.network.specs.declared.rows.Row.{Row}
use Rattle.network.specs.Order.{Core, Before}
use Rattle.network.specs.Network.{Network, nodes, node_mode, Sound}
use Rattle.network.specs.Lent.{front_columns}
use Rattle.network.specs.Rows.{Columns, columns, Even, row, table, SoundTable}
use Rattle.search.specs.Orders.{Roomy}
use Rattle.preparation.specs.Contraction.{Standing, LeastRow, CalledFor, Rising, Adds, Prepared}

-- whose turn it is -------------------------------------------------------------------------------------------------------------------------------

-- x is still to be contracted when `last` was contracted last, or, where no turn has been, when none was
pub record Due (ranks : List ℕ) (last : Option ℕ) (x : ℕ) : Type 0 where
  pub not_core : Core ranks x → ⊥
  pub behind : (y : ℕ) → last ≡ Some y → Before ranks y x

-- v is the first of the nodes below n that are due
pub record FirstDue (ranks : List ℕ) (last : Option ℕ) (v n : ℕ) : Type 0 where
  pub below : v < n
  pub due : Due ranks last v
  pub none_before : (x : ℕ) → x < n → Due ranks last x → Before ranks x v → ⊥

-- it is that one, or there is none
abbrev pub NextBelow : (ranks : List ℕ) → Option ℕ → (n : ℕ) → Option ℕ → Type 0
NextBelow ranks last n (Some v) = FirstDue ranks last v n
NextBelow ranks last n None = (x : ℕ) → x < n → Due ranks last x → ⊥

-- the first of the nodes that are due, or none
abbrev pub NextTurn : (ranks : List ℕ) → (last next : Option ℕ) → Type 0
NextTurn ranks last next = NextBelow ranks last (length ranks) next

-- v's turn over the rows that stood before its first shortcut: those of the columns T
pub record InTurn (N : Network) (T : Columns) (v wide narrow : ℕ) : Type 0 where
  pub sound : Sound N
  pub even : Even T
  pub sound_table : SoundTable N (table T)
  pub is_node : v < nodes N
  pub not_core : Core N.node_ranks v → ⊥
  pub roomy : Roomy N wide narrow

-- the work rooms -----------------------------------------------------------------------------------------------------------------------------------

-- The witness search tells its weights in the first n numbers of the 64-bit room and the first 2 n of the 32-bit room. Behind them stand, for
-- each node x, the least row from x to v and the least row from v to x, whether a shortcut to x is called for, and what it costs.
abbrev pub into_at : (n x : ℕ) → ℕ
into_at n x = 2 * n + x

abbrev pub out_at : (n x : ℕ) → ℕ
out_at n x = 3 * n + x

abbrev pub mark_at : (n x : ℕ) → ℕ
mark_at n x = 4 * n + x

abbrev pub sum_at : (wide narrow : List ℕ) (n x : ℕ) → Weight
sum_at wide narrow n x = record { time = get_or wide (n + x) 0; edges = get_or narrow (5 * n + x) 0 }

-- k is the least standing row from a to b, or 4,096, which is no row
pub data Slot (N : Network) (ss : List Row) (v a b k : ℕ) : Type 0 where
  nothing : k ≡ 4096 → ((r : ℕ) → Standing N ss v r → (row N ss r).tail ≡ a → (row N ss r).head ≡ b → ⊥) → Slot N ss v a b k
  least : LeastRow N ss v a b k → Slot N ss v a b k

-- the least rows into v and out of v
pub record Neighbours (N : Network) (ss : List Row) (v : ℕ) (narrow : List ℕ) : Type 0 where
  pub into : (x : ℕ) → x < nodes N → Slot N ss v x v (get_or narrow (into_at (nodes N) x) 0)
  pub out : (x : ℕ) → x < nodes N → Slot N ss v v x (get_or narrow (out_at (nodes N) x) 0)

-- the shortcut from u to w that the rooms tell of
abbrev pub row_told : (n mode u w : ℕ) (wide narrow : List ℕ) → Row
row_told n mode u w wide narrow = record {
  tail = u;
  head = w;
  mode = mode;
  length = (sum_at wide narrow n w).time % 4294967296;
  count = (sum_at wide narrow n w).edges % 65536;
  first = get_or narrow (into_at n u) 0 % 65536;
  second = get_or narrow (out_at n w) 0 % 65536;
}

-- the mark tells whether v calls for a shortcut from u to w
pub data Marked (N : Network) (ss : List Row) (v u w mark : ℕ) (x : Row) : Type 0 where
  called : mark ≡ 1 → CalledFor N ss v x → Marked N ss v u w mark x
  not_called : mark ≡ 0 → ((y : Row) → CalledFor N ss v y → y.tail ≡ u → y.head ≡ w → ⊥) → Marked N ss v u w mark x

-- the rooms as they are when all shortcuts of v's turn from u have been tested
pub record Tested (N : Network) (ss : List Row) (v u : ℕ) (wide narrow wide' narrow' : List ℕ) : Type 0 where
  pub wide_size : length wide' ≡ length wide
  pub narrow_size : length narrow' ≡ length narrow
  pub neighbours : Neighbours N ss v narrow'
  pub marks : (w : ℕ) → w < nodes N → Marked N ss v u w (get_or narrow' (mark_at (nodes N) w) 0) (row_told (nodes N) (node_mode N v) u w wide' narrow')

-- the lent rows ----------------------------------------------------------------------------------------------------------------------------------

-- with x at i
abbrev pub put_row : Columns → ℕ → Row → Columns
put_row T i x =
    columns (set T.tails i x.tail) (set T.heads i x.head) (set T.modes i x.mode) (set T.lengths i x.length)
    (set T.counts i x.count) (set T.firsts i x.first) (set T.seconds i x.second)

-- as many rows are lent as were: the columns were even, and are
pub record SameSize (T T' : Columns) : Type 0 where
  pub was_even : Even T
  pub even : Even T'
  pub size : length T'.tails ≡ length T.tails

-- the marked shortcuts from u to the nodes below k, in their order
unfoldable pub marked_rows : (n mode u : ℕ) (wide narrow : List ℕ) → ℕ → List Row
marked_rows n mode u wide narrow zero = []
marked_rows n mode u wide narrow (suc k) =
    marked_rows n mode u wide narrow k ++ cond (eqb (get_or narrow (mark_at n k) 0) 1) (row_told n mode u k wide narrow ∷ []) []

-- the rows `new` stand behind the first `at`, within the limit, and there are at' rows then
pub record Appends (T : Columns) (at limit : ℕ) (new : List Row) (T' : Columns) (at' : ℕ) : Type 0 where
  pub counted : at' ≡ at + length new
  pub within : at' ≤ limit
  pub same_size : SameSize T T'
  pub shows : table (front_columns at' T') ≡ table (front_columns at T) ++ new

-- they are too many for the limit
pub record Overruns (T : Columns) (at limit : ℕ) (new : List Row) (T' : Columns) : Type 0 where
  pub beyond : limit < at + length new
  pub same_size : SameSize T T'

-- The rows `new` go behind the first `at`, up to the limit: there are at' rows then, or they do not all fit.
abbrev pub Appended : (T : Columns) (at limit : ℕ) (new : List Row) (T' : Columns) → Option ℕ → Type 0
Appended T at limit new T' (Some at') = Appends T at limit new T' at'
Appended T at limit new T' None = Overruns T at limit new T'

-- as many shortcuts as there may be with so many edges in so many lent rows
pub record Most (edges lent most : ℕ) : Type 0 where
  pub rows_lent : most ≤ lent
  pub few_rows : edges + most ≤ 4096
  pub no_more : (k : ℕ) → k ≤ lent → edges + k ≤ 4096 → k ≤ most

-- turns ------------------------------------------------------------------------------------------------------------------------------------------

-- the shortcuts from u that v calls for
pub record AddsFrom (N : Network) (ss : List Row) (v u : ℕ) (new : List Row) : Type 0 where
  pub only : (x : Row) → Memᴰ x new → CalledFor N ss v x
  pub only_from : (x : Row) → Memᴰ x new → x.tail ≡ u
  pub all : (x : Row) → CalledFor N ss v x → x.tail ≡ u → Memᴰ x new
  pub in_order : Rising new

-- the rooms keep their lengths
pub record SameRooms (wide narrow wide' narrow' : List ℕ) : Type 0 where
  pub wide_size : length wide' ≡ length wide
  pub narrow_size : length narrow' ≡ length narrow

-- v's turn so far as it concerns u: what was appended, and the rooms
pub record TurnFrom (N : Network) (ss : List Row) (v u limit at : ℕ) (T T' : Columns) (wide narrow wide' narrow' : List ℕ) (at' : Option ℕ)
    : Type 0 where
  pub new : List Row
  pub adds : AddsFrom N ss v u new
  pub appended : Appended T at limit new T' at'
  pub same_rooms : SameRooms wide narrow wide' narrow'
  pub neighbours : Neighbours N ss v narrow'

-- v's whole turn, over the first `stood` rows of T: all shortcuts that v calls for are written, and there are `at` rows then
pub record TurnWritten (N : Network) (v stood limit : ℕ) (T T' : Columns) (at : ℕ) : Type 0 where
  pub new : List Row
  pub adds : Adds N (table (front_columns stood T)) v new
  pub appends : Appends T stood limit new T' at

-- some of the shortcuts that v calls for are too many already
pub record TurnTooMany (N : Network) (v stood limit : ℕ) (T T' : Columns) : Type 0 where
  pub new : List Row
  pub called : (x : Row) → Memᴰ x new → CalledFor N (table (front_columns stood T)) v x
  pub in_order : Rising new
  pub overruns : Overruns T stood limit new T'

abbrev pub Turned : Network → (v stood limit : ℕ) (T T' : Columns) → Option ℕ → Type 0
Turned N v stood limit T T' (Some at) = TurnWritten N v stood limit T T' at
Turned N v stood limit T T' None = TurnTooMany N v stood limit T T'

-- all turns: the first `at` rows are the shortcuts of the network, or no such rows keep to the limit
pub record AllWritten (N : Network) (limit : ℕ) (T T' : Columns) (at : ℕ) : Type 0 where
  pub prepared : Prepared N (table (front_columns at T'))
  pub within : at ≤ limit
  pub same_size : SameSize T T'

pub record AllTooMany (N : Network) (limit : ℕ) (T T' : Columns) : Type 0 where
  pub none_fits : (ss : List Row) → Prepared N ss → length ss ≤ limit → ⊥
  pub same_size : SameSize T T'

abbrev pub AllTurned : Network → (limit : ℕ) (T T' : Columns) → Option ℕ → Type 0
AllTurned N limit T T' (Some at) = AllWritten N limit T T' at
AllTurned N limit T T' None = AllTooMany N limit T T'
