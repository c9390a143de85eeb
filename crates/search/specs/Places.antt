-- The graph that a search walks: places are (node, state, phase), coded as numbers.
use Rattle.std.specs.Prelude.{◌≡◌, List, ℕ, ◌+◌, ◌*◌, ◌/◌, ◌%◌, ◌<◌}
use Rattle.network.specs.declared.weight.Weight.{Weight}
use Rattle.network.specs.declared.rows.Row.{Row}
use Rattle.network.specs.Weight.{zero_weight, none_yet, ◌⊕◌}
use Rattle.network.specs.Network.{Network, nodes}
use Rattle.network.specs.declared.sheet.Sheet.{Sheet}
use Rattle.network.specs.Sheet.{MayRide, MayChange, Initial, Final}
use Rattle.network.specs.Rows.{row, rows, cost}
use Rattle.network.proofs.WeightLaws.{◌≼◌}
use Rattle.search.specs.Graph.{Graph}

-- the place of node u in state q and phase f
abbrev pub place : ℕ → ℕ → ℕ → ℕ
place u q f = 16 * u + 2 * q + f

abbrev pub node_of : ℕ → ℕ
node_of p = p / 16

abbrev pub state_of : ℕ → ℕ
state_of p = p / 2 % 8

-- 0 while no row led down, 1 from then on
abbrev pub phase_of : ℕ → ℕ
phase_of p = p % 2

-- `Down x u`: x is contracted before u. From u to x, in phase f, on to phase f': a row that leads down leads to phase 1, and from phase 1 no
-- other goes on.
pub data Phase (Down : ℕ → ℕ → Type 0) (u x f f' : ℕ) : Type 0 where
  level : (Down x u → ⊥) → f ≡ 0 → f' ≡ 0 → Phase Down u x f f'
  down : Down x u → f' ≡ 1 → Phase Down u x f f'

-- a row of this mode may be taken in state q and leads to state q'
pub data Shift (S : Sheet) (mode q q' : ℕ) : Type 0 where
  riding : (mode ≡ 0 → ⊥) → MayRide S q mode → q' ≡ q → Shift S mode q q'
  changing : mode ≡ 0 → MayChange S q q' → q' < S.states → Shift S mode q q'

-- row r leads from place p to place p'
pub record Move (N : Network) (ss : List Row) (S : Sheet) (Down : ℕ → ℕ → Type 0) (p r p' : ℕ) : Type 0 where
  pub row_in : r < rows N ss
  pub leaves : (row N ss r).tail ≡ node_of p
  pub arrives : (row N ss r).head ≡ node_of p'
  pub shift : Shift S (row N ss r).mode (state_of p) (state_of p')
  pub phase : Phase Down (row N ss r).tail (row N ss r).head (phase_of p) (phase_of p')

-- the target can be reached from x by rows that lead down
pub data Homeward (N : Network) (ss : List Row) (Down : ℕ → ℕ → Type 0) (to : ℕ) : ℕ → Type 0 where
  home : {x : ℕ} → x ≡ to → Homeward N ss Down to x
  by_row : {x y r : ℕ} → r < rows N ss → (row N ss r).tail ≡ x → (row N ss r).head ≡ y → Down y x → Homeward N ss Down to y
      → Homeward N ss Down to x

-- row r leads from place p to place p', and down only towards the target
pub record Useful (N : Network) (ss : List Row) (S : Sheet) (Down : ℕ → ℕ → Type 0) (to p r p' : ℕ) : Type 0 where
  pub move : Move N ss S Down p r p'
  pub homeward : phase_of p' ≡ 1 → Homeward N ss Down to (node_of p')

pub record StartAt (S : Sheet) (from p : ℕ) : Type 0 where
  pub here : node_of p ≡ from
  pub fresh : phase_of p ≡ 0
  pub known : state_of p < S.states
  pub initial : Initial S (state_of p)

pub record TargetAt (S : Sheet) (to p : ℕ) : Type 0 where
  pub here : node_of p ≡ to
  pub known : state_of p < S.states
  pub final : Final S (state_of p)

abbrev pub search_graph : Network → List Row → Sheet → (ℕ → ℕ → Type 0) → ℕ → ℕ → Graph
search_graph N ss S Down from to = record {
  Label = Weight;
  Le = ◌≼◌;
  none = none_yet;
  first = zero_weight;
  after = λ w r. w ⊕ cost (row N ss r);
  places = 16 * nodes N;
  Arc = Useful N ss S Down to;
  Start = StartAt S from;
  Target = TargetAt S to;
}

-- every node read as core
abbrev pub Flat : ℕ → ℕ → Type 0
Flat x y = ⊥
