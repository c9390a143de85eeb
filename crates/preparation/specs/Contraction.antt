-- Which shortcuts preparation writes (01, "Contraction").
use Rattle.std.specs.Prelude.{◌≡◌, ℕ, ◌<◌, ◌≤◌}
use mathlib.Core.List.{List, [], ◌∷◌, ◌++◌, Memᴰ}
use Rattle.network.specs.declared.rows.Row.{Row}
use Rattle.network.specs.Weight.{◌⊕◌, Lighter}
use Rattle.network.specs.Order.{Core, Before}
use Rattle.network.specs.Network.{Network, nodes, node_mode}
use Rattle.network.specs.Rows.{row, rows, cost}
use Rattle.network.specs.Journey.{weight}

-- "The standing rows are the edges and shortcuts whose two ends are not yet contracted": when v's turn comes, neither end is before v.
pub record Standing (N : Network) (ss : List Row) (v r : ℕ) : Type 0 where
  pub there : r < rows N ss
  pub tail_stands : Before N.node_ranks (row N ss r).tail v → ⊥
  pub head_stands : Before N.node_ranks (row N ss r).head v → ⊥

-- a way from u to w over standing rows, links left out
pub data Through (N : Network) (ss : List Row) (v : ℕ) : (u w : ℕ) → List ℕ → Type 0 where
  here : {u w : ℕ} → u ≡ w → Through N ss v u w []
  on : {u x w r : ℕ} {rs : List ℕ} → Standing N ss v r → ((row N ss r).mode ≡ 0 → ⊥) → (row N ss r).tail ≡ u → (row N ss r).head ≡ x
      → Through N ss v x w rs → Through N ss v u w (r ∷ rs)

-- the row does not touch v, and neither do the others
abbrev pub Avoids : Network → List Row → ℕ → List ℕ → Type 0
Avoids N ss v [] = Unit {0}
Avoids N ss v (r ∷ rs) = ((row N ss r).tail ≡ v → ⊥) × ((row N ss r).head ≡ v → ⊥) × Avoids N ss v rs

-- "take the least-weight row u to v and v to w (lowest row number if equal)": r is that row from a to b
pub record LeastRow (N : Network) (ss : List Row) (v a b r : ℕ) : Type 0 where
  pub stands : Standing N ss v r
  pub leaves : (row N ss r).tail ≡ a
  pub enters : (row N ss r).head ≡ b
  pub lightest : (s : ℕ) → Standing N ss v s → (row N ss s).tail ≡ a → (row N ss s).head ≡ b → Lighter (cost (row N ss s)) (cost (row N ss r)) → ⊥
  pub lowest : (s : ℕ) → Standing N ss v s → (row N ss s).tail ≡ a → (row N ss s).head ≡ b → cost (row N ss s) ≡ cost (row N ss r) → r ≤ s

-- "Add a shortcut exactly if the sum is the least weight from u to w over standing rows, links left out, and every such path that avoids v is
-- heavier." The shortcut x that contracting v calls for; its tail is u and its head w.
pub record CalledFor (N : Network) (ss : List Row) (v : ℕ) (x : Row) : Type 0 where
  pub apart : x.tail ≡ x.head → ⊥
  pub into : LeastRow N ss v x.tail v x.first
  pub out : LeastRow N ss v v x.head x.second
  pub mode_kept : x.mode ≡ node_mode N v
  pub sums : cost x ≡ cost (row N ss x.first) ⊕ cost (row N ss x.second)
  pub least : (rs : List ℕ) → Through N ss v x.tail x.head rs → Lighter (weight N ss rs) (cost x) → ⊥
  pub alone : (rs : List ℕ) → Through N ss v x.tail x.head rs → Avoids N ss v rs → Lighter (cost x) (weight N ss rs)

-- "within one v by u, then w, both rising"
pub data Earlier (x y : Row) : Type 0 where
  lower_tail : x.tail < y.tail → Earlier x y
  lower_head : x.tail ≡ y.tail → x.head < y.head → Earlier x y

pub data Rising : List Row → Type 0 where
  none : Rising []
  one : {x : Row} → Rising (x ∷ [])
  more : {x y : Row} {xs : List Row} → Earlier x y → Rising (y ∷ xs) → Rising (x ∷ y ∷ xs)

-- The shortcuts that contracting v adds to ss: those called for, all of them, in order. "This test reads the rows as they stood before v's first
-- shortcut."
pub record Adds (N : Network) (ss : List Row) (v : ℕ) (new : List Row) : Type 0 where
  pub only : (x : Row) → Memᴰ x new → CalledFor N ss v x
  pub all : (x : Row) → CalledFor N ss v x → Memᴰ x new
  pub in_order : Rising new

-- The nodes that are not core, in the order of contraction.
pub data Turns (N : Network) : List ℕ → Type 0 where
  over : Turns N []
  last : {v : ℕ} → Turns N (v ∷ [])
  then : {v w : ℕ} {vs : List ℕ} → Before N.node_ranks v w → Turns N (w ∷ vs) → Turns N (v ∷ w ∷ vs)

pub record Order (N : Network) (vs : List ℕ) : Type 0 where
  pub turns : Turns N vs
  pub contractible : (v : ℕ) → Memᴰ v vs → (v < nodes N) × (Core N.node_ranks v → ⊥)
  pub complete : (v : ℕ) → v < nodes N → (Core N.node_ranks v → ⊥) → Memᴰ v vs

-- contracting the nodes vs, one after the other, takes the shortcuts ss to ss'
pub data Contracts (N : Network) : List ℕ → List Row → List Row → Type 0 where
  done : {ss ss' : List Row} → ss ≡ ss' → Contracts N [] ss ss'
  turn : {v : ℕ} {vs : List ℕ} {ss new mid ss' : List Row} → Adds N ss v new → mid ≡ ss ++ new → Contracts N vs mid ss' → Contracts N (v ∷ vs) ss ss'

-- the shortcuts of a network: what preparation must write
pub record Prepared (N : Network) (ss : List Row) : Type 0 where
  pub order : List ℕ
  pub in_order : Order N order
  pub contracts : Contracts N order [] ss
