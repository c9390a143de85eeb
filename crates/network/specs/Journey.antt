-- Paths that a sheet accepts, and the least of them (01, "Network and sheet"; source document 001, section 3.2).
use Rattle.std.specs.Prelude.{◌≡◌, List, [], ◌∷◌, ℕ, ◌<◌}
use Rattle.network.specs.declared.weight.Weight.{Weight}
use Rattle.network.specs.declared.rows.Row.{Row}
use Rattle.network.specs.Weight.{zero_weight, ◌⊕◌, Lighter}
use Rattle.network.specs.Network.{Network}
use Rattle.network.specs.declared.sheet.Sheet.{Sheet}
use Rattle.network.specs.Sheet.{MayRide, MayChange, Initial, Final}
use Rattle.network.specs.Rows.{row, rows, cost}

-- The row numbers of a way from node u in state q to node v in state j. "An edge of mode 1 to 7 keeps the state and needs its mode bit. A link
-- moves to any state of the next byte. These are the only moves; states are not tested against the nodes they stand on."
pub data Way (N : Network) (ss : List Row) (S : Sheet) : (u q v j : ℕ) → List ℕ → Type 0 where
  stay : {u q v j : ℕ} → u ≡ v → q ≡ j → Way N ss S u q v j []
  ride : {u q x v j r : ℕ} {rs : List ℕ} → r < rows N ss → (row N ss r).tail ≡ u → (row N ss r).head ≡ x → ((row N ss r).mode ≡ 0 → ⊥)
      → MayRide S q (row N ss r).mode → Way N ss S x q v j rs → Way N ss S u q v j (r ∷ rs)
  change : {u q x i v j r : ℕ} {rs : List ℕ} → r < rows N ss → (row N ss r).tail ≡ u → (row N ss r).head ≡ x → (row N ss r).mode ≡ 0
      → MayChange S q i → i < S.states → Way N ss S x i v j rs → Way N ss S u q v j (r ∷ rs)

-- the weight on arrival, of rows taken one after the other from the weight w on
abbrev pub along : Network → List Row → Weight → List ℕ → Weight
along N ss w [] = w
along N ss w (r ∷ rs) = along N ss (w ⊕ cost (row N ss r)) rs

-- "The weight of a path is (sum of lengths, number of edges)"
abbrev pub weight : Network → List Row → List ℕ → Weight
weight N ss rs = along N ss zero_weight rs

-- "A path starts in an initial state and ends in a final one." "The empty path, with no edges, joins a node to itself and needs a state that is
-- both initial and final": here by `stay`, whose two states are one.
pub record Journey (N : Network) (ss : List Row) (S : Sheet) (from to : ℕ) (rs : List ℕ) : Type 0 where
  pub start : ℕ
  pub end : ℕ
  pub start_state : start < S.states
  pub end_state : end < S.states
  pub initial : Initial S start
  pub final : Final S end
  pub way : Way N ss S from start to end rs

-- w is the weight of one of the paths in P, and none of them is lighter
pub record Least (N : Network) (ss : List Row) (P : List ℕ → Type 0) (w : Weight) : Type 0 where
  pub path : List ℕ
  pub allowed : P path
  pub weighs : weight N ss path ≡ w
  pub none_lighter : (rs : List ℕ) → P rs → Lighter (weight N ss rs) w → ⊥

-- "no accepted path": there is none in P
pub record None (P : List ℕ → Type 0) : Type 0 where
  pub no_path : (rs : List ℕ) → P rs → ⊥

-- a node and the state in which a path stands on it
pub record Stop : Type 0 where
  pub node : ℕ
  pub state : ℕ

-- the stops of a way, both ends included
unfoldable pub stops : {N : Network} {ss : List Row} {S : Sheet} {u q v j : ℕ} {rs : List ℕ} → Way N ss S u q v j rs → List Stop
stops (stay {u = u} {q = q} a b) = record { node = u; state = q } ∷ []
stops (ride {u = u} {q = q} l a b m c w) = record { node = u; state = q } ∷ stops w
stops (change {u = u} {q = q} l a b m c k w) = record { node = u; state = q } ∷ stops w

-- the stop is none of the list
abbrev pub Absent : Stop → List Stop → Type 0
Absent x [] = Unit {0}
Absent x (y ∷ ys) = (x ≡ y → ⊥) × Absent x ys

-- "repeats no (node, state) pair"
abbrev pub Unrepeated : List Stop → Type 0
Unrepeated [] = Unit {0}
Unrepeated (x ∷ xs) = Absent x xs × Unrepeated xs
