-- Graphs of places over which labels are set greedily: what is asked of one, and what a search's state means. Nothing here knows of networks.
use Rattle.std.specs.Prelude.{◌≡◌, ◌⊎◌, List, [], ◌∷◌, ℕ, zero, suc, ◌+◌, ◌<◌, ◌≤◌, length}
use Rattle.network.proofs.Counting.{waiting}

-- Places are numbers below `places`; `Arc p r q` says that row r leads from place p to place q; `Le a b`: a is as light as b or lighter;
-- `none` is the label of a place that has none yet; `first` the label of a start; `after w r` the label on arrival, by row r, from a place
-- labelled w.
pub record Graph : Type 1 where
  pub Label : Type 0
  pub Le : Label → Label → Type 0
  pub none : Label
  pub first : Label
  pub after : Label → ℕ → Label
  pub places : ℕ
  pub Arc : ℕ → ℕ → ℕ → Type 0
  pub Start : ℕ → Type 0
  pub Target : ℕ → Type 0

-- the rows of a walk from place p to place q
pub data Trail (G : Graph) : (p q : ℕ) → List ℕ → Type 0 where
  halt : {p q : ℕ} → p ≡ q → Trail G p q []
  on : {p x q r : ℕ} {rs : List ℕ} → G.Arc p r x → Trail G x q rs → Trail G p q (r ∷ rs)

-- the same, each row leaving a place that is settled: one whose mark in s is 0
pub data Via (G : Graph) (s : ℕ → ℕ) : (p q : ℕ) → List ℕ → Type 0 where
  halt_via : {p q : ℕ} → p ≡ q → Via G s p q []
  on_via : {p x q r : ℕ} {rs : List ℕ} → s p ≡ 0 → G.Arc p r x → Via G s x q rs → Via G s p q (r ∷ rs)

-- the label on arrival, of rows taken one after the other from the label w on
abbrev pub after_all : (G : Graph) → G.Label → List ℕ → G.Label
after_all G w [] = w
after_all G w (r ∷ rs) = after_all G (G.after w r) rs

-- the label w is not `none`
abbrev pub Some : (G : Graph) → G.Label → Type 0
Some G w = G.Le G.none w → ⊥

-- what is asked of the labels and the arcs
pub record Laws (G : Graph) : Type 0 where
  pub le_refl : (a : G.Label) → G.Le a a
  pub le_trans : (a b c : G.Label) → G.Le a b → G.Le b c → G.Le a c
  pub le_total : (a b : G.Label) → (G.Le a b → ⊥) → G.Le b a
  pub after_mono : (a b : G.Label) (r : ℕ) → G.Le a b → G.Le (G.after a r) (G.after b r)
  pub after_more : (a : G.Label) (r : ℕ) → G.Le a (G.after a r)
  pub tail_in : (p r q : ℕ) → G.Arc p r q → p < G.places
  pub head_in : (p r q : ℕ) → G.Arc p r q → q < G.places
  pub start_in : (p : ℕ) → G.Start p → p < G.places
  -- a walk of few rows does not weigh as much as `none`
  pub fits : (p q : ℕ) (rs : List ℕ) → G.Start p → Trail G p q rs → length rs ≤ G.places + 1 → Some G (after_all G G.first rs)

-- w is the label of a walk of at most k rows from a start to v, through settled places
pub record Reached (G : Graph) (s : ℕ → ℕ) (k : ℕ) (w : G.Label) (v : ℕ) : Type 0 where
  pub from : ℕ
  pub starts : G.Start from
  pub rows : List ℕ
  pub via : Via G s from v rows
  pub weighs : after_all G G.first rows ≡ w
  pub short : length rows ≤ k

-- place v has its label by row `pr v` from place `pp v`, which is settled. `d` holds the labels; a place whose mark in `s` is 0 is settled.
pub record Parent (G : Graph) (d : ℕ → G.Label) (s pr pp : ℕ → ℕ) (v : ℕ) : Type 0 where
  pub arc : G.Arc (pp v) (pr v) v
  pub settled : s (pp v) ≡ 0
  pub label : d v ≡ G.after (d (pp v)) (pr v)

pub data Backed (G : Graph) (d : ℕ → G.Label) (s pr pp : ℕ → ℕ) (v : ℕ) : Type 0 where
  at_start : G.Start v → d v ≡ G.first → Backed G d s pr pp v
  by_parent : Parent G d s pr pp v → Backed G d s pr pp v

-- what holds at the head of a search's loop, k places being settled
pub record Greedy (G : Graph) (d : ℕ → G.Label) (s pr pp : ℕ → ℕ) (k : ℕ) : Type 0 where
  pub started : (v : ℕ) → G.Start v → G.Le (d v) G.first
  pub reached : (v : ℕ) → v < G.places → Some G (d v) → Reached G s k (d v) v
  pub backed : (v : ℕ) → v < G.places → Some G (d v) → Backed G d s pr pp v
  pub relaxed : (p r q : ℕ) → G.Arc p r q → s p ≡ 0 → G.Le (d q) (G.after (d p) r)
  pub greedy : (u v : ℕ) → u < G.places → v < G.places → s u ≡ 0 → (s v ≡ 0 → ⊥) → G.Le (d u) (d v)
  pub labelled : (u : ℕ) → u < G.places → s u ≡ 0 → Some G (d u)
  pub counted : waiting s G.places + k ≡ G.places

-- u is a lightest of the places that wait and have a label
pub record Lightest (G : Graph) (d : ℕ → G.Label) (s : ℕ → ℕ) (u : ℕ) : Type 0 where
  pub inside : u < G.places
  pub waits : s u ≡ 0 → ⊥
  pub some : Some G (d u)
  pub least : (v : ℕ) → v < G.places → (s v ≡ 0 → ⊥) → G.Le (d u) (d v)

-- no place that waits has a label
pub record Nobody (G : Graph) (d : ℕ → G.Label) (s : ℕ → ℕ) : Type 0 where
  pub each : (v : ℕ) → v < G.places → (s v ≡ 0 → ⊥) → G.Le G.none (d v)

-- no target has been settled
pub record Unmet (G : Graph) (s : ℕ → ℕ) : Type 0 where
  pub each : (t : ℕ) → t < G.places → G.Target t → s t ≡ 0 → ⊥

-- v has the label and the parent that it had
pub record Same (G : Graph) (d d' : ℕ → G.Label) (pr pr' pp pp' : ℕ → ℕ) (v : ℕ) : Type 0 where
  pub label : d' v ≡ d v
  pub by_row : pr' v ≡ pr v
  pub by_place : pp' v ≡ pp v

-- v has a lighter label, by an arc from the place u, labelled w
pub record Better (G : Graph) (u : ℕ) (w : G.Label) (d d' : ℕ → G.Label) (pr' pp' : ℕ → ℕ) (v : ℕ) : Type 0 where
  pub row : ℕ
  pub arc : G.Arc u row v
  pub label : d' v ≡ G.after w row
  pub lighter : G.Le (d v) (d' v) → ⊥
  pub by_row : pr' v ≡ row
  pub by_place : pp' v ≡ u

-- the arcs that leave u, labelled w, and of which `Tried row head` holds, have been tried: d, pr, pp before and d', pr', pp' after
pub record Relaxed (G : Graph) (u : ℕ) (w : G.Label) (Tried : ℕ → ℕ → Type 0) (d d' : ℕ → G.Label) (pr pr' pp pp' : ℕ → ℕ)
    : Type 0 where
  pub lower : (v : ℕ) → v < G.places → Same G d d' pr pr' pp pp' v ⊎ Better G u w d d' pr' pp' v
  pub bound : (r v : ℕ) → G.Arc u r v → Tried r v → G.Le (d' v) (G.after w r)

-- all arcs that leave u have been tried
pub record Whole (G : Graph) (u : ℕ) (Tried : ℕ → ℕ → Type 0) : Type 0 where
  pub each : (r v : ℕ) → G.Arc u r v → Tried r v

-- u has been settled
pub record Settles (G : Graph) (u : ℕ) (s s' : ℕ → ℕ) : Type 0 where
  pub hit : s' u ≡ 0
  pub miss : (v : ℕ) → v < G.places → (v ≡ u → ⊥) → s' v ≡ s v

-- the beginning: the starts have the label `first`, all others have none, and all wait
pub record Begun (G : Graph) (d : ℕ → G.Label) (s : ℕ → ℕ) : Type 0 where
  pub at_starts : (v : ℕ) → G.Start v → d v ≡ G.first
  pub elsewhere : (v : ℕ) → v < G.places → (G.Start v → ⊥) → d v ≡ G.none
  pub start_known : (v : ℕ) → v < G.places → Dec (G.Start v)
  pub all_wait : (v : ℕ) → v < G.places → s v ≡ 0 → ⊥

-- w is the label of a walk from a start to a target, and no such walk's label is lighter
pub record Best (G : Graph) (w : G.Label) : Type 0 where
  pub from : ℕ
  pub to : ℕ
  pub rows : List ℕ
  pub starts : G.Start from
  pub targets : G.Target to
  pub trail : Trail G from to rows
  pub weighs : after_all G G.first rows ≡ w
  pub least : (p q : ℕ) (rs : List ℕ) → G.Start p → G.Target q → Trail G p q rs → G.Le w (after_all G G.first rs)

-- rs are the rows from place v, labelled, to place `to`, by the parents
pub record Tracing (G : Graph) (d : ℕ → G.Label) (to v : ℕ) (rs : List ℕ) : Type 0 where
  pub inside : v < G.places
  pub some : Some G (d v)
  pub trail : Trail G v to rs
  pub weighs : after_all G (d v) rs ≡ d to

-- rs are the rows of a walk from a start to place `to`, of the label that it has
pub record Traced (G : Graph) (d : ℕ → G.Label) (to : ℕ) (rs : List ℕ) : Type 0 where
  pub from : ℕ
  pub starts : G.Start from
  pub trail : Trail G from to rs
  pub weighs : after_all G G.first rs ≡ d to

-- a measure of labels that each row raises
pub record Counts (G : Graph) (count : G.Label → ℕ) : Type 0 where
  pub count_first : count G.first ≡ 0
  pub count_more : (p r q : ℕ) (a : G.Label) → G.Arc p r q → count a < count (G.after a r)

-- the rows by the parents, from the place v, in front of rs; c is the measure of a place's label, and n is at least c v
unfoldable pub back : (c pr pp : ℕ → ℕ) → ℕ → ℕ → List ℕ → List ℕ
back c pr pp zero v rs = rs
back c pr pp (suc n) v rs = elim (c v) [ zero ↦ rs | suc m ↦ back c pr pp n (pp v) (pr v ∷ rs) ]
