-- How labels stand in the work rooms: for the place p the time at p of the 64-bit room, and of the 32-bit room the edges at 2p and a word at 2p + 1.
-- The word holds, from its lowest bit on: 1 bit, whether the place waits; 4 bits, state and phase of the place before; 12 bits, the row that led
-- here; 13 bits kept free; and 2 bits at the first place of each node, whether the target can be reached from the node by rows that lead down.
use Rattle.std.specs.Prelude.{◌≡◌, ◌⊎◌, Bool, true, false, Option, None, Some, List, ℕ, ◌+◌, ◌*◌, ◌/◌, ◌%◌, ◌<◌, ◌≤◌, length, get_or, set}
use Rattle.network.specs.declared.weight.Weight.{Weight}
use Rattle.network.specs.declared.rows.Row.{Row}
use Rattle.network.specs.Weight.{Lighter}
use Rattle.network.specs.Order.{Before}
use Rattle.network.specs.Network.{Network, nodes}
use Rattle.network.specs.declared.sheet.Sheet.{Sheet}
use Rattle.network.specs.Rows.{row}
use Rattle.network.proofs.WeightLaws.{◌≼◌}
use Rattle.search.specs.Graph.{Graph, Relaxed}
use Rattle.search.specs.Places.{Homeward, search_graph}

-- what a place is labelled with
abbrev pub label : (wide narrow : List ℕ) → ℕ → Weight
label wide narrow p = record { time = get_or wide p 0; edges = get_or narrow (2 * p) 0 }

abbrev pub word : List ℕ → ℕ → ℕ
word narrow p = get_or narrow (2 * p + 1) 0

-- 1 while the place waits, 0 once it is settled
abbrev pub mark : List ℕ → ℕ → ℕ
mark narrow p = word narrow p % 2

-- the row that led to the place
abbrev pub row_before : List ℕ → ℕ → ℕ
row_before narrow p = word narrow p / 32 % 4096

-- the place from which it led
abbrev pub place_before : Network → List Row → List ℕ → ℕ → ℕ
place_before N ss narrow p = 16 * (row N ss (row_before narrow p)).tail + word narrow p / 2 % 16

-- the word of a place that is reached anew, by row r from a place of this state and phase: it waits as it did, and the higher bits stay
abbrev pub word_by : (old r low : ℕ) → ℕ
word_by old r low = old / 131072 * 131072 + (old % 2 + (2 * low + 32 * r))

-- 1: the target can be reached from node v by rows that lead down; 0: it cannot; else it is not known yet
abbrev pub hint : List ℕ → ℕ → ℕ
hint narrow v = word narrow (16 * v) / 1073741824

-- what is known of the target from a hint
abbrev pub Says : ℕ → Option Bool → Type 0
Says h (Some true) = h ≡ 1
Says h (Some false) = h ≡ 0
Says h None = 2 ≤ h

-- the hint that says so
abbrev pub hint_of : Bool → ℕ
hint_of true = 1
hint_of false = 0

-- "x is contracted before y", or, in the plain search, where every node is read as core, never
abbrev pub Falls : Bool → List ℕ → ℕ → ℕ → Type 0
Falls true ranks x y = ⊥
Falls false ranks x y = Before ranks x y

-- the graph of a question
abbrev pub asked : Bool → Network → List Row → Sheet → (from to : ℕ) → Graph
asked plain N ss S from to = search_graph N ss S (Falls plain N.node_ranks) from to

-- the hints are true
pub record Hinted (N : Network) (ss : List Row) (Down : ℕ → ℕ → Type 0) (to : ℕ) (narrow : List ℕ) : Type 0 where
  pub truly : (v : ℕ) → v < nodes N → hint narrow v ≡ 1 → Homeward N ss Down to v
  pub falsely : (v : ℕ) → v < nodes N → hint narrow v ≡ 0 → Homeward N ss Down to v → ⊥

-- all but the hints is as it was
pub record SameLabels (n : ℕ) (narrow narrow' : List ℕ) : Type 0 where
  pub size : length narrow' ≡ length narrow
  pub edges_same : (p : ℕ) → p < 16 * n → get_or narrow' (2 * p) 0 ≡ get_or narrow (2 * p) 0
  pub word_same : (p : ℕ) → p < 16 * n → word narrow' p % 131072 ≡ word narrow p % 131072

-- The rooms where arcs that leave the place p, labelled w, have been tried: those of which `Tried row head` holds.
pub record Worked (plain : Bool) (N : Network) (ss : List Row) (S : Sheet) (from to p : ℕ) (w : Weight) (Tried : ℕ → ℕ → Type 0)
    (wide narrow wide' narrow' : List ℕ) : Type 0 where
  pub wide_size : length wide' ≡ length wide
  pub narrow_size : length narrow' ≡ length narrow
  pub relaxed :
      Relaxed
      (asked plain N ss S from to)
      p
      w
      Tried
      (label wide narrow)
      (label wide' narrow')
      (row_before narrow)
      (row_before narrow')
      (place_before N ss narrow)
      (place_before N ss narrow')
  pub marks : (v : ℕ) → v < 16 * nodes N → mark narrow' v ≡ mark narrow v
  pub hinted : Hinted N ss (Falls plain N.node_ranks) to narrow'

-- the numbers of the place p are the label w and this word
pub record Written (p : ℕ) (w : Weight) (its_word : ℕ) (wide narrow wide' narrow' : List ℕ) : Type 0 where
  pub wide_set : wide' ≡ set wide p w.time
  pub narrow_set : narrow' ≡ set (set narrow (2 * p) w.edges) (2 * p + 1) its_word

-- the label `new`, by row r from a place of this state and phase, was offered to the place p
pub data Offer (p : ℕ) (new : Weight) (r low : ℕ) (wide narrow wide' narrow' : List ℕ) : Type 0 where
  declined : (Lighter new (label wide narrow p) → ⊥) → wide' ≡ wide → narrow' ≡ narrow → Offer p new r low wide narrow wide' narrow'
  taken : Lighter new (label wide narrow p) → Written p new (word_by (word narrow p) r low) wide narrow wide' narrow'
      → Offer p new r low wide narrow wide' narrow'

-- v has the label and the word that it had
pub record SamePlace (wide narrow wide' narrow' : List ℕ) (v : ℕ) : Type 0 where
  pub label_same : label wide' narrow' v ≡ label wide narrow v
  pub word_same : word narrow' v ≡ word narrow v

-- v has the label `new`, which is lighter than the one it had, by row r from a place of this state and phase
pub record NewPlace (new : Weight) (r low : ℕ) (wide narrow wide' narrow' : List ℕ) (v : ℕ) : Type 0 where
  pub label_new : label wide' narrow' v ≡ new
  pub lighter : Lighter new (label wide narrow v)
  pub word_new : word narrow' v ≡ word_by (word narrow v) r low

-- the label `new` was offered to the places of A: each has it, or a label that is no heavier
pub record Offered (A : ℕ → Type 0) (n : ℕ) (new : Weight) (r low : ℕ) (wide narrow wide' narrow' : List ℕ) : Type 0 where
  pub wide_size : length wide' ≡ length wide
  pub narrow_size : length narrow' ≡ length narrow
  pub each : (v : ℕ) → v < n → SamePlace wide narrow wide' narrow' v ⊎ (A v × NewPlace new r low wide narrow wide' narrow' v)
  pub bound : (v : ℕ) → v < n → A v → label wide' narrow' v ≼ new
