-- What the inner functions of the witness search promise each other.
use Rattle.std.specs.Prelude.{◌≡◌, List, ℕ, ◌*◌, ◌%◌, ◌<◌, ◌≤◌}
use Rattle.network.specs.declared.weight.Weight.{Weight}
use Rattle.network.specs.Weight.{zero_weight, none_yet, ◌⊕◌, Held, Lighter}
use Rattle.network.specs.Rows.{cost}
use Rattle.network.proofs.WeightLaws.{◌≼◌}
use Rattle.search.specs.Graph.{Graph, Greedy, Lightest, Nobody, Relaxed, Settles}
use Rattle.search.specs.Labels.{label, word, mark, row_before}
use Rattle.search.specs.Witness.{Turn, node_count, row_count, ridden, Ride, RestSame}

-- the graph of the rides, from the places of Start
abbrev pub rides : Turn → (ℕ → Type 0) → Graph
rides Q Start = record {
  Label = Weight;
  Le = ◌≼◌;
  none = none_yet;
  first = zero_weight;
  after = λ w r. w ⊕ cost (ridden Q r);
  places = node_count Q;
  Arc = Ride Q;
  Start = Start;
  Target = λ p. ⊥;
}

abbrev pub rides_from : Turn → ℕ → Graph
rides_from Q from = rides Q (λ p. p ≡ from)

-- the same, where it does not matter from where
abbrev pub all_rides : Turn → Graph
all_rides Q = rides Q (λ p. ⊥)

-- the node that the row before leaves
abbrev pub node_before : Turn → List ℕ → ℕ → ℕ
node_before Q narrow p = (ridden Q (row_before narrow p)).tail

-- what the columns' number types say of every row's cost
pub record Narrow (Q : Turn) : Type 0 where
  pub short : (r : ℕ) → (ridden Q r).length ≤ 4294967295
  pub few : (r : ℕ) → (ridden Q r).count ≤ 65535

-- the weight w can be added to any row's cost
pub record Addable (Q : Turn) (w : Weight) : Type 0 where
  pub each : (r : ℕ) → Held (w ⊕ cost (ridden Q r))

-- a pass over the first n places: R tells the label and the word after from those before
pub record Passed (R : Weight → ℕ → Weight → ℕ → Type 0) (n : ℕ) (wide narrow wide' narrow' : List ℕ) : Type 0 where
  pub rest_same : RestSame n wide narrow wide' narrow'
  pub each : (x : ℕ) → x < n → R (label wide narrow x) (word narrow x) (label wide' narrow' x) (word narrow' x)

-- as a search begins: no label, and the place waits
pub record Emptied (w : Weight) (its_word : ℕ) (w' : Weight) (its_word' : ℕ) : Type 0 where
  pub no_label : w' ≡ none_yet
  pub waits : its_word' ≡ 1

-- the label that is told in the end: none where the place still waits
pub data Kept (its_mark : ℕ) (w w' : Weight) : Type 0 where
  settled : its_mark ≡ 0 → w' ≡ w → Kept its_mark w w'
  waiting : (its_mark ≡ 0 → ⊥) → w' ≡ none_yet → Kept its_mark w w'

-- as it ends: that label, and no word
pub record Closed (w : Weight) (its_word : ℕ) (w' : Weight) (its_word' : ℕ) : Type 0 where
  pub kept : Kept (its_word % 2) w w'
  pub zeroed : its_word' ≡ 0

-- sizes that the search can be made with
pub record Spacious (Q : Turn) (wide narrow : ℕ) : Type 0 where
  pub few_nodes : node_count Q ≤ 512
  pub wide_enough : node_count Q ≤ wide
  pub narrow_enough : 2 * node_count Q ≤ narrow
  pub few_rows : row_count Q ≤ 4096

-- the rooms as a search begins
pub record Opened (nodes from : ℕ) (wide narrow wide' narrow' : List ℕ) : Type 0 where
  pub rest_same : RestSame nodes wide narrow wide' narrow'
  pub at_start : label wide' narrow' from ≡ zero_weight
  pub elsewhere : (v : ℕ) → v < nodes → (v ≡ from → ⊥) → label wide' narrow' v ≡ none_yet
  pub all_wait : (v : ℕ) → v < nodes → mark narrow' v ≡ 0 → ⊥

-- the rooms where rides that leave the node u, labelled w, have been tried: those of which `Tried row head` holds
pub record Attempted (Q : Turn) (u : ℕ) (w : Weight) (Tried : ℕ → ℕ → Type 0) (wide narrow wide' narrow' : List ℕ) : Type 0 where
  pub rest_same : RestSame (node_count Q) wide narrow wide' narrow'
  pub relaxed : Relaxed (all_rides Q) u w Tried (label wide narrow) (label wide' narrow')
      (row_before narrow) (row_before narrow') (node_before Q narrow) (node_before Q narrow')
  pub marks : (v : ℕ) → v < node_count Q → mark narrow' v ≡ mark narrow v

-- the rooms where the node u has been left: it is settled, and all rides from it are tried
pub record Departed (Q : Turn) (u : ℕ) (wide narrow wide' narrow' : List ℕ) : Type 0 where
  pub rest_same : RestSame (node_count Q) wide narrow wide' narrow'
  pub relaxed : Relaxed (all_rides Q) u (label wide narrow u) (λ r v. r < row_count Q) (label wide narrow) (label wide' narrow')
      (row_before narrow) (row_before narrow') (node_before Q narrow) (node_before Q narrow')
  pub settles : Settles (all_rides Q) u (mark narrow) (mark narrow')

-- why a search was over
pub data Halted (Q : Turn) (from : ℕ) (bound : Weight) (d : ℕ → Weight) (s : ℕ → ℕ) : Type 0 where
  all_found : Nobody (rides_from Q from) d s → Halted Q from bound d s
  too_far : {u : ℕ} → Lightest (rides_from Q from) d s u → Lighter bound (d u) → Halted Q from bound d s

-- the rooms where the search is over
pub record Spread (Q : Turn) (from : ℕ) (bound : Weight) (wide narrow wide' narrow' : List ℕ) : Type 0 where
  pub rest_same : RestSame (node_count Q) wide narrow wide' narrow'
  pub settled_count : ℕ
  pub greedy :
      Greedy (rides_from Q from) (label wide' narrow') (mark narrow') (row_before narrow') (node_before Q narrow') settled_count
  pub near : (v : ℕ) → v < node_count Q → mark narrow' v ≡ 0 → label wide' narrow' v ≼ bound
  pub halted : Halted Q from bound (label wide' narrow') (mark narrow')
