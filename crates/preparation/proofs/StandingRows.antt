-- Standing rows as edges of walks.
use mathlib.Core.Path.{◌≡◌, refl, sym, ◌∙◌, ap, subst, subst₂}
use mathlib.Core.List.{List, [], ◌∷◌, ◌++◌}
use Prim.Native.Nat.{ℕ, ◌<◌}
use native.Mathlib.Omega.{arith}
use Rattle.network.specs.declared.weight.Weight.{Weight}
use Rattle.network.specs.declared.rows.Row.{Row}
use Rattle.network.specs.Weight.{zero_weight, ◌⊕◌}
use Rattle.network.specs.Order.{Before}
use Rattle.network.specs.Network.{Network, Sound}
use Rattle.network.specs.Rows.{row, rows, cost}
use Rattle.network.specs.Journey.{along, weight}
use Rattle.network.proofs.WeightLaws.{◌≼◌, ≡-≼, ≼_trans, zero-≼, zero-⊕, ⊕-zero, ⊕-assoc}
use Rattle.network.proofs.RowLaws.{row_edge}
use Rattle.preparation.specs.Contraction.{Standing, Through, here, on, Avoids, Order}
use Rattle.legs.proofs.TableLaws.{row_append, rows_append, EachSound, none_sound, Fine, fine_row}
use Rattle.preparation.proofs.WeightMore.{≼-behind}
use Rattle.preparation.proofs.Walks.{Walk, stay, step}
use Rattle.preparation.proofs.PastNode.{Avoid}
use Rattle.preparation.proofs.RemainingTurns.{Gone, start_left}
use Rattle.legs.proofs.OpeningLaws.{Chain, none, edge}

-- A row from u to x, of mode m and weight a, whose two ends are not among those contracted, which G tells.
pub record Stands (N : Network) (ss : List Row) (G : ℕ → Type 0) (u x m : ℕ) (a : Weight) : Type 0 where
  pub number : ℕ
  pub there : number < rows N ss
  pub leaves : (row N ss number).tail ≡ u
  pub enters : (row N ss number).head ≡ x
  pub has_mode : (row N ss number).mode ≡ m
  pub costs : cost (row N ss number) ≡ a
  pub tail_left : G u → ⊥
  pub head_left : G x → ⊥

-- links left out
abbrev pub Rides : (ℕ → ℕ → ℕ → Weight → Type 0) → ℕ → ℕ → Weight → Type 0
Rides L u x a = (m : ℕ) × (m ≡ 0 → ⊥) × L u x m a

pub stands_fine : {N : Network} {ss : List Row} {G : ℕ → Type 0} {u x m : ℕ} {a : Weight} → Sound N → EachSound N ss → Stands N ss G u x m a
    → Fine N u x m a
stands_fine {N} {ss} {G} {u} {x} s t e =
    subst₂ (Fine N u x) e.has_mode e.costs
    (subst₂ (λ y z. Fine N y z (row N ss e.number).mode (cost (row N ss e.number))) e.leaves e.enters
    (fine_row s t e.number e.there))

-- more rows behind it, and more nodes contracted, but not its ends
pub stands_more : {N : Network} {ss : List Row} {G : ℕ → Type 0} {u x m : ℕ} {a : Weight} (new : List Row) (G' : ℕ → Type 0) → Stands N ss G u x m a
    → (G' u → ⊥) → (G' x → ⊥) → Stands N (ss ++ new) G' u x m a
stands_more {N} {ss} new G' e n k =
    let o : row N (ss ++ new) e.number ≡ row N ss e.number = row_append N ss new e.number e.there in
    record {
      number = e.number;
      there = omega (arith, e.there, rows_append N ss new);
      leaves = ap (λ y. y.tail) o ∙ e.leaves;
      enters = ap (λ y. y.head) o ∙ e.enters;
      has_mode = ap (λ y. y.mode) o ∙ e.has_mode;
      costs = ap cost o ∙ e.costs;
      tail_left = n;
      head_left = k;
    }

-- the weight of rows, from the first on
pub along_from : (N : Network) (ss : List Row) (w : Weight) (rs : List ℕ) → along N ss w rs ≡ w ⊕ weight N ss rs
along_from N ss w [] = sym (⊕-zero w)
along_from N ss w (r ∷ rs) =
    along_from N ss (w ⊕ cost (row N ss r)) rs
    ∙ ⊕-assoc w (cost (row N ss r)) (weight N ss rs)
    ∙ ap (λ z. w ⊕ z) (sym (along_from N ss (zero_weight ⊕ cost (row N ss r)) rs ∙ ap (λ z. z ⊕ weight N ss rs) (zero-⊕ (cost (row N ss r)))))

pub weight_cons : (N : Network) (ss : List Row) (r : ℕ) (rs : List ℕ) → weight N ss (r ∷ rs) ≡ cost (row N ss r) ⊕ weight N ss rs
weight_cons N ss r rs = along_from N ss (zero_weight ⊕ cost (row N ss r)) rs ∙ ap (λ z. z ⊕ weight N ss rs) (zero-⊕ (cost (row N ss r)))

-- the edges, while no node is contracted
abbrev pub Edges : Network → ℕ → ℕ → ℕ → Weight → Type 0
Edges N = Stands N [] (λ x. ⊥)

pub row_edges : {N : Network} {u x : ℕ} (e : ℕ) → e < rows N [] → (row N [] e).tail ≡ u → (row N [] e).head ≡ x
    → Edges N u x (row N [] e).mode (cost (row N [] e))
row_edges e l t h =
    record { number = e; there = l; leaves = t; enters = h; has_mode = refl; costs = refl; tail_left = λ g. g; head_left = λ g. g }

pub chain_walk : {N : Network} {m u v : ℕ} {es : List ℕ} → (m ≡ 0 → ⊥) → Chain N m u v es → Walk (Rides (Edges N)) u v (weight N [] es)
chain_walk n (none e) = stay e
chain_walk {N} {m} n (edge {u = u} {x = x} {e = e} {es = es} l t h o c) =
    let r = row_edge N [] e l in
    step (
      m,
      n,
      subst (λ y. Edges N u x y (cost (row N [] e))) (ap (λ y. y.mode) r ∙ o)
          (row_edges e (omega arith) (ap (λ y. y.tail) r ∙ t) (ap (λ y. y.head) r ∙ h)),
    )
    (chain_walk n c) (≡-≼ (sym (weight_cons N [] e es)))

-- at the start all edges stand
pub start_stands : {N : Network} {vs : List ℕ} {u x m : ℕ} {a : Weight} → Sound N → Order N vs → Edges N u x m a → Stands N [] (Gone N vs) u x m a
start_stands {N} {vs} {u} {x} s o e =
    stands_more [] (Gone N vs) e (start_left s o u (stands_fine s none_sound e).tail_node) (start_left s o x (stands_fine s none_sound e).head_node)

-- The rows that stand when v's turn comes.
module _ (N : Network) (ss : List Row) (v : ℕ) where
  abbrev pub AtTurn : ℕ → ℕ → ℕ → Weight → Type 0
  AtTurn = Stands N ss (λ x. Before N.node_ranks x v)

  pub standing_row : {u x m : ℕ} {a : Weight} (e : AtTurn u x m a) → Standing N ss v e.number
  standing_row e = record {
    there = e.there;
    tail_stands = λ b. e.tail_left (subst (λ z. Before N.node_ranks z v) e.leaves b);
    head_stands = λ b. e.head_left (subst (λ z. Before N.node_ranks z v) e.enters b);
  }

  pub row_standing : {u x : ℕ} (r : ℕ) → Standing N ss v r → (row N ss r).tail ≡ u → (row N ss r).head ≡ x
      → AtTurn u x (row N ss r).mode (cost (row N ss r))
  row_standing r s t h = record {
    number = r;
    there = s.there;
    leaves = t;
    enters = h;
    has_mode = refl;
    costs = refl;
    tail_left = λ b. s.tail_stands (subst (λ z. Before N.node_ranks z v) (sym t) b);
    head_left = λ b. s.head_stands (subst (λ z. Before N.node_ranks z v) (sym h) b);
  }

  -- a way over standing rows of weight at most c
  pub record Wayed (u w : ℕ) (c : Weight) : Type 0 where
    pub taken : List ℕ
    pub goes : Through N ss v u w taken
    pub within : weight N ss taken ≼ c

  pub walk_way : {u w : ℕ} {c : Weight} → Walk (Rides AtTurn) u w c → Wayed u w c
  walk_way {c = c} (stay e) = record { taken = []; goes = here e; within = zero-≼ c }
  walk_way {u} {w} {c} (step {x = x} {a = a} {b = b} (m, n, e) p k) = go (walk_way p)
    where
      go : Wayed x w b → Wayed u w c
      go t = record {
        taken = e.number ∷ t.taken;
        goes = on (standing_row e) (λ z. n (sym e.has_mode ∙ z)) e.leaves e.enters t.goes;
        within =
            ≼_trans (≡-≼ (weight_cons N ss e.number t.taken ∙ ap (λ z. z ⊕ weight N ss t.taken) e.costs))
            (≼-behind a t.within k);
      }

  pub way_walk : {u w : ℕ} {rs : List ℕ} → Through N ss v u w rs → Walk (Rides AtTurn) u w (weight N ss rs)
  way_walk (here e) = stay e
  way_walk (on {r = r} {rs = rs} s n t h p) =
      step ((row N ss r).mode, n, row_standing r s t h) (way_walk p) (≡-≼ (sym (weight_cons N ss r rs)))

  pub way_avoid : {u w : ℕ} {rs : List ℕ} → Through N ss v u w rs → Avoids N ss v rs → Walk (Avoid (Rides AtTurn) v) u w (weight N ss rs)
  way_avoid (here e) a = stay e
  way_avoid (on {r = r} {rs = rs} s n t h p) a =
      step (((row N ss r).mode, n, row_standing r s t h), λ e. a.0 (t ∙ e), λ e. a.1 (h ∙ e)) (way_avoid p a.2)
      (≡-≼ (sym (weight_cons N ss r rs)))
