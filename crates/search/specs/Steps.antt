-- What the inner functions promise each other.
use Rattle.std.specs.Prelude.{◌≡◌, Bool, true, false, Option, None, Some, List, ℕ, ◌+◌, ◌*◌, ◌<◌, length, get_or, set}
use Rattle.network.specs.declared.weight.Weight.{Weight}
use Rattle.network.specs.declared.rows.Row.{Row}
use Rattle.network.specs.declared.sheet.State.{State}
use Rattle.network.specs.Weight.{zero_weight, none_yet, ◌⊕◌, Held, Lighter}
use Rattle.network.specs.Network.{Network, nodes, Sound}
use Rattle.network.specs.declared.sheet.Sheet.{Sheet}
use Rattle.network.specs.Sheet.{SheetSound, no_state, Bit}
use Rattle.network.specs.Rows.{Columns, Even, SoundTable, row, rows, cost, table}
use Rattle.network.proofs.WeightLaws.{◌≼◌}
use Rattle.search.specs.Orders.{Roomy}
use Rattle.search.specs.Graph.{Graph, Greedy, Lightest, Nobody, Unmet, Relaxed, Settles, Begun}
use Rattle.search.specs.Places.{Homeward, Shift}
use Rattle.search.specs.Labels.{label, word, mark, row_before, place_before, Falls, asked, Hinted}
use Rattle.search.specs.declared.pick.Choice.{Choice}

-- the label that a choice so far has, or none
abbrev pub chosen : Option Choice → Weight
chosen None = none_yet
chosen (Some choice) = choice.label

-- the place p was looked at
pub data Looked (d : ℕ → Weight) (s : ℕ → ℕ) (p : ℕ) (so_far r : Option Choice) : Type 0 where
  passed_by : s p ≡ 0 → r ≡ so_far → Looked d s p so_far r
  heavier : (Lighter (d p) (chosen so_far) → ⊥) → r ≡ so_far → Looked d s p so_far r
  taken : (s p ≡ 0 → ⊥) → Lighter (d p) (chosen so_far) → r ≡ Some (record { place = p; label = d p }) → Looked d s p so_far r

-- u is a lightest of the first places that wait and have a label
pub record Foremost (places : ℕ) (d : ℕ → Weight) (s : ℕ → ℕ) (u : ℕ) : Type 0 where
  pub inside : u < places
  pub waits : s u ≡ 0 → ⊥
  pub labelled : Lighter (d u) none_yet
  pub least : (v : ℕ) → v < places → (s v ≡ 0 → ⊥) → d u ≼ d v

-- such a place is picked; none where no place that waits has a label
abbrev pub Picked : ℕ → (ℕ → Weight) → (ℕ → ℕ) → Option ℕ → Type 0
Picked places d s None = (v : ℕ) → v < places → (s v ≡ 0 → ⊥) → none_yet ≼ d v
Picked places d s (Some u) = Foremost places d s u

-- v is the place of the state j, which the next byte has; base is the place of state 0
pub record ToState (base next j v : ℕ) : Type 0 where
  pub has : Bit next j
  pub there : v ≡ base + 2 * j

-- a network and its shortcut columns, both accepted
pub record Table (N : Network) (T : Columns) : Type 0 where
  pub sound : Sound N
  pub even : Even T
  pub sound_table : SoundTable N (table T)

-- whether the row r leads down from x to a node from which the target can be reached by rows that lead down
pub data RowHome (N : Network) (ss : List Row) (Down : ℕ → ℕ → Type 0) (to x r : ℕ) (b : Bool) : Type 0 where
  leads : b ≡ true → Homeward N ss Down to x → RowHome N ss Down to x r b
  leads_not : b ≡ false → ((row N ss r).tail ≡ x → Down (row N ss r).head x → Homeward N ss Down to (row N ss r).head → ⊥)
      → RowHome N ss Down to x r b

-- v is the place of one of the first n states, which the next byte has
pub record ToStates (base next n v : ℕ) : Type 0 where
  pub state : ℕ
  pub known : state < n
  pub to_state : ToState base next state v

-- v is a place that a row of this mode leads to, from the state q to the node whose place of state 0 is base
pub record Arrives (S : Sheet) (mode q base v : ℕ) : Type 0 where
  pub state : ℕ
  pub small : state < 8
  pub shift : Shift S mode q state
  pub there : v ≡ base + 2 * state

-- the weight w can be added to any row's cost
pub record Light (N : Network) (ss : List Row) (w : Weight) : Type 0 where
  pub each : (r : ℕ) → r < rows N ss → Held (w ⊕ cost (row N ss r))

-- what a question is asked of: all that the check of it has shown, and rooms that are large enough
pub record Ready (N : Network) (T : Columns) (S : Sheet) (from to wide narrow : ℕ) : Type 0 where
  pub table_sound : Table N T
  pub sheet : SheetSound S
  pub from_in : from < nodes N
  pub to_in : to < nodes N
  pub roomy : Roomy N wide narrow

-- the rooms where the place p has been left: it is settled, and all arcs from it are tried
pub record Left (plain : Bool) (N : Network) (ss : List Row) (S : Sheet) (from to p : ℕ) (wide narrow wide' narrow' : List ℕ) : Type 0 where
  pub wide_size : length wide' ≡ length wide
  pub narrow_size : length narrow' ≡ length narrow
  pub relaxed :
      Relaxed
      (asked plain N ss S from to)
      p
      (label wide narrow p)
      (λ r v. r < rows N ss)
      (label wide narrow)
      (label wide' narrow')
      (row_before narrow)
      (row_before narrow')
      (place_before N ss narrow)
      (place_before N ss narrow')
  pub settles : Settles (asked plain N ss S from to) p (mark narrow) (mark narrow')
  pub hinted : Hinted N ss (Falls plain N.node_ranks) to narrow'

-- the rooms as a search begins
pub record Begins (plain : Bool) (N : Network) (ss : List Row) (S : Sheet) (from to : ℕ) (wide narrow wide' narrow' : List ℕ) : Type 0 where
  pub wide_size : length wide' ≡ length wide
  pub narrow_size : length narrow' ≡ length narrow
  pub begun : Begun (asked plain N ss S from to) (label wide' narrow') (mark narrow')
  pub hinted : Hinted N ss (Falls plain N.node_ranks) to narrow'

-- a search has left every place that it could reach, and none was a target
pub record Nowhere (G : Graph) (d : ℕ → G.Label) (s pr pp : ℕ → ℕ) : Type 0 where
  pub settled : ℕ
  pub greedy : Greedy G d s pr pp settled
  pub unmet : Unmet G s
  pub nobody : Nobody G d s

-- the next place that a search would leave is the first target
pub record Arrived (G : Graph) (d : ℕ → G.Label) (s pr pp : ℕ → ℕ) (u : ℕ) : Type 0 where
  pub settled : ℕ
  pub greedy : Greedy G d s pr pp settled
  pub unmet : Unmet G s
  pub lightest : Lightest G d s u
  pub target : G.Target u

-- a search has ended, at the place of a target, or nowhere
abbrev pub Ended : (G : Graph) (d : ℕ → G.Label) (s pr pp : ℕ → ℕ) → Option ℕ → Type 0
Ended G d s pr pp None = Nowhere G d s pr pp
Ended G d s pr pp (Some u) = Arrived G d s pr pp u

-- the rooms where a search has ended
pub record Ran (plain : Bool) (N : Network) (ss : List Row) (S : Sheet) (from to : ℕ) (wide narrow wide' narrow' : List ℕ) (r : Option ℕ) : Type 0 where
  pub wide_size : length wide' ≡ length wide
  pub narrow_size : length narrow' ≡ length narrow
  pub ended : Ended (asked plain N ss S from to) (label wide' narrow') (mark narrow') (row_before narrow') (place_before N ss narrow') r

-- the place of the state q at the node `from` was labelled with zero, if the state is initial, and nothing else was changed
pub data Started (sheet : List State) (from q : ℕ) (wide narrow wide' narrow' : List ℕ) : Type 0 where
  starts : Bit (get_or sheet q no_state).ends 0 → wide' ≡ set wide (16 * from + 2 * q) 0 → narrow' ≡ set narrow (2 * (16 * from + 2 * q)) 0
      → Started sheet from q wide narrow wide' narrow'
  starts_not : (Bit (get_or sheet q no_state).ends 0 → ⊥) → wide' ≡ wide → narrow' ≡ narrow → Started sheet from q wide narrow wide' narrow'

-- the places of the initial ones of the first n states at the node `from` were labelled with zero, and nothing else was changed
pub record Starting (sheet : List State) (from n : ℕ) (wide narrow wide' narrow' : List ℕ) : Type 0 where
  pub wide_size : length wide' ≡ length wide
  pub narrow_size : length narrow' ≡ length narrow
  pub hit : (q : ℕ) → q < n → Bit (get_or sheet q no_state).ends 0 → label wide' narrow' (16 * from + 2 * q) ≡ zero_weight
  pub miss : (v : ℕ) → ((q : ℕ) → q < n → Bit (get_or sheet q no_state).ends 0 → v ≡ 16 * from + 2 * q → ⊥) → label wide' narrow' v ≡ label wide narrow v
  pub words : (v : ℕ) → word narrow' v ≡ word narrow v
