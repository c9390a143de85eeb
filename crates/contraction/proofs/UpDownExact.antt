-- Over the rows that preparation makes, the up-down journeys have the least weight of the journeys over the edges.
use mathlib.Core.Path.{◌≡◌, refl, sym, ◌∙◌, ap, subst, subst₂}
use mathlib.Core.Logic.{◌⊎◌, inl, inr, ◌↔◌}
use mathlib.Core.List.{List, [], ◌∷◌, ◌++◌}
use Prim.Native.Nat.{ℕ, ◌<◌}
use native.Mathlib.Decide.{ℕ_discrete}
use Rattle.network.specs.declared.weight.Weight.{Weight}
use Rattle.network.specs.declared.rows.Row.{Row}
use Rattle.network.specs.Weight.{◌⊕◌, zero_weight, Lighter}
use Rattle.network.specs.Order.{Before}
use Rattle.network.specs.Network.{Network, nodes, node_mode, Sound}
use Rattle.network.specs.declared.sheet.Sheet.{Sheet}
use Rattle.network.specs.Sheet.{MayRide, MayChange}
use Rattle.network.specs.Rows.{row}
use Rattle.network.specs.Journey.{Way, stay, ride, change, weight, Journey, Least, None}
use Rattle.network.proofs.WeightLaws.{◌≼◌, ≼_refl, ≡-≼, ≼_trans, ≼-mono, ⊕-assoc, zero-≼, ≼-lighter, not_lighter-≼, ≼-antisym}
use Rattle.network.proofs.OrderLaws.{core_level}
use Rattle.search.specs.UpDown.{UpDown, UpDownJourney}
use Rattle.preparation.specs.Contraction.{Adds, Contracts, done, turn, Prepared}
use Rattle.legs.specs.Opening.{opened_all}
use Rattle.preparation.proofs.PreparedUnique.{Front, contracts_front}
use Rattle.legs.proofs.OpeningLaws.{along_append, from_way, join_way, other_way, journey_opened}
use Rattle.preparation.proofs.WeightMore.{≼-behind}
use Rattle.preparation.proofs.Walks.{Walk, weaken, from, join, single, unsnoc, map_walk}
use Rattle.preparation.proofs.RemainingTurns.{Gone, start_left, left_still}
use Rattle.preparation.proofs.StandingRows.{Stands, Rides, stands_fine, stands_more, weight_cons, Edges, row_edges, start_stands, AtTurn}
use Rattle.contraction.proofs.Deciding.{Weighing, dec_weighing}
use Rattle.preparation.proofs.OneTurn.{no_link, keep, rides_kept}
use Rattle.preparation.proofs.PreparedSound.{Stage, stage_start, stage_turn, prepared_each}

-- a row of mode m takes state q to state j
abbrev Move : Sheet → ℕ → ℕ → ℕ → Type 0
Move S q m j = ((m ≡ 0 → ⊥) × MayRide S q m × (q ≡ j)) ⊎ ((m ≡ 0) × MayChange S q j × (j < S.states))

-- a node and a state
abbrev At : Type 0
At = ℕ × ℕ

-- a row that takes one node and state to another
abbrev Go : Sheet → (ℕ → ℕ → ℕ → Weight → Type 0) → At → At → Weight → Type 0
Go S L p r a = (m : ℕ) × L p.0 r.0 m a × Move S p.1 m r.1

-- a way over the edges is a walk over them
way_walk : {N : Network} {S : Sheet} {u q v j : ℕ} {rs : List ℕ} → Way N [] S u q v j rs → Walk (Go S (Edges N)) (u, q) (v, j) (weight N [] rs)
way_walk (stay e f) = Walk.stay (λ i. (e i, f i))
way_walk {N} {S} (ride {r = r} {rs = rs} l e f n m w) =
    Walk.step ((row N [] r).mode, row_edges r l e f, inl (n, m, refl)) (way_walk w) (≡-≼ (sym (weight_cons N [] r rs)))
way_walk {N} {S} (change {r = r} {rs = rs} l e f z m k w) =
    Walk.step ((row N [] r).mode, row_edges r l e f, inr (z, m, k)) (way_walk w) (≡-≼ (sym (weight_cons N [] r rs)))

-- an up-down way of weight at most c
record Light (N : Network) (ss : List Row) (S : Sheet) (p r : At) (c : Weight) : Type 0 where
  path : List ℕ
  way : Way N ss S p.0 p.1 r.0 r.1 path
  up_down : UpDown N ss path
  weighs : weight N ss path ≼ c

-- a row in front that does not lead down
up_cons : (N : Network) (ss : List Row) (r : ℕ) (rs : List ℕ) → (Before N.node_ranks (row N ss r).head (row N ss r).tail → ⊥)
    → UpDown N ss rs → UpDown N ss (r ∷ rs)
up_cons N ss r [] n u = tt
up_cons N ss r (p ∷ rs) n u = (λ b c. n b, u)

-- a row behind that does not lead up
up_snoc : {N : Network} {ss : List Row} {S : Sheet} {u q v j : ℕ} {rs : List ℕ} (r : ℕ) → Way N ss S u q v j rs
    → (Before N.node_ranks v (row N ss r).head → ⊥) → UpDown N ss rs → UpDown N ss (rs ++ r ∷ [])
up_snoc r (stay e f) n d = tt
up_snoc {N} {ss} r (ride l t h o m (stay e f)) n d = (λ b c. n (subst (λ z. Before N.node_ranks z (row N ss r).head) (h ∙ e) c), tt)
up_snoc {N} {ss} r (change l t h z m k (stay e f)) n d = (λ b c. n (subst (λ z. Before N.node_ranks z (row N ss r).head) (h ∙ e) c), tt)
up_snoc r (ride l t h o m (ride l' t' h' o' m' w)) n d = (d.0, up_snoc r (ride l' t' h' o' m' w) n d.1)
up_snoc r (ride l t h o m (change l' t' h' z' m' k' w)) n d = (d.0, up_snoc r (change l' t' h' z' m' k' w) n d.1)
up_snoc r (change l t h z m k (ride l' t' h' o' m' w)) n d = (d.0, up_snoc r (ride l' t' h' o' m' w) n d.1)
up_snoc r (change l t h z m k (change l' t' h' z' m' k' w)) n d = (d.0, up_snoc r (change l' t' h' z' m' k' w) n d.1)

module _ {N : Network} {ss : List Row} {S : Sheet} where
  -- one row as a way
  one_row : {G : ℕ → Type 0} {p x r : At} {a : Weight} {rs : List ℕ} (e : Go S (Stands N ss G) p x a) → Way N ss S x.0 x.1 r.0 r.1 rs
      → Way N ss S p.0 p.1 r.0 r.1 (e.1.number ∷ rs)
  one_row {p = p} (m, e, inl (n, y, j)) w =
      ride e.there e.leaves e.enters (λ z. n (sym e.has_mode ∙ z)) (subst (MayRide S p.1) (sym e.has_mode) y) (from_way refl j w)
  one_row (m, e, inr (z, y, k)) w = change e.there e.leaves e.enters (e.has_mode ∙ z) y k w

  light_stay : {p r : At} {c : Weight} → p ≡ r → Light N ss S p r c
  light_stay {c = c} e = record { path = []; way = stay (ap (λ z. z.0) e) (ap (λ z. z.1) e); up_down = tt; weighs = zero-≼ c }

  light_cons : {G : ℕ → Type 0} {p x r : At} {a b c : Weight} → Go S (Stands N ss G) p x a → (Before N.node_ranks x.0 p.0 → ⊥)
      → Light N ss S x r b → a ⊕ b ≼ c → Light N ss S p r c
  light_cons {a = a} (m, e, y) n l k = record {
    path = e.number ∷ l.path;
    way = one_row (m, e, y) l.way;
    up_down = up_cons N ss e.number l.path (subst₂ (λ z w. Before N.node_ranks z w → ⊥) (sym e.enters) (sym e.leaves) n) l.up_down;
    weighs = ≼_trans (≡-≼ (weight_cons N ss e.number l.path ∙ ap (λ z. z ⊕ weight N ss l.path) e.costs)) (≼-behind a l.weighs k);
  }

  light_snoc : {G : ℕ → Type 0} {p x r : At} {a b c : Weight} → Light N ss S p x a → Go S (Stands N ss G) x r b
      → (Before N.node_ranks x.0 r.0 → ⊥) → a ⊕ b ≼ c → Light N ss S p r c
  light_snoc {x = x} {b = b} l (m, e, y) n k = record {
    path = l.path ++ e.number ∷ [];
    way = join_way l.way (one_row (m, e, y) (stay refl refl));
    up_down = up_snoc e.number l.way (subst (λ z. Before N.node_ranks x.0 z → ⊥) (sym e.enters) n) l.up_down;
    weighs =
        ≼_trans (≡-≼ (along_append N ss zero_weight l.path (e.number ∷ []) ∙ ap (λ z. weight N ss l.path ⊕ z) e.costs))
        (≼_trans (≼-mono l.weighs (≼_refl {a = b})) k);
  }

-- One turn, for walks that a sheet accepts.
module _ {N : Network} {ss new : List Row} (s : Sound N) (v : ℕ) (vs : List ℕ) (T : Stage N (v ∷ vs) ss) (A : Adds N ss v new) (S : Sheet) where
  -- the rows that stand before the turn, and those that stand after it
  abbrev Then : ℕ → ℕ → ℕ → Weight → Type 0
  Then = AtTurn N ss v

  abbrev Now : ℕ → ℕ → ℕ → Weight → Type 0
  Now = Stands N (ss ++ new) (Gone N vs)

  -- rides in a state that may ride the mode of the first node
  accept : {u y : ℕ} {c : Weight} (q : ℕ) → MayRide S q (node_mode N u) → Walk (Rides Now) u y c → Walk (Go S Now) (u, q) (y, q) c
  accept q h (Walk.stay e) = Walk.stay (λ i. (e i, q))
  accept q h (Walk.step (m, n, e) p k) =
      let t = (stands_fine s (stage_turn s v vs T A).sound e).ride n in
      Walk.step (m, e, inl (n, subst (MayRide S q) t.0 h, refl)) (accept q (subst (MayRide S q) (t.0 ∙ sym t.1) h) p) k

  -- from p, and from a node that has a ride to p = v
  abbrev Lifted : At → At → Weight → Type 0
  Lifted p r c =
      ((p.0 ≡ v → ⊥) → (Walk (Go S Now) p r c → ⊥) → ⊥)
      × (p.0 ≡ v → (x m : ℕ) (a : Weight) → (x ≡ v → ⊥) → (m ≡ 0 → ⊥) → Then x v m a → MayRide S p.1 m
      → (Walk (Go S Now) (x, p.1) r (a ⊕ c) → ⊥) → ⊥)

  lifted : {p r : At} {c : Weight} → (r.0 ≡ v → ⊥) → Walk (Go S Then) p r c → Lifted p r c
  lifted rv (Walk.stay e) = (λ n none. none (Walk.stay e), λ h. absurd (rv (sym (ap (λ z. z.0) e) ∙ h)))
  lifted {p} {r} {c} rv (Walk.step {x = y} {a = a} {b = b} (m, h, mv) w k) = (out (ℕ_discrete y.0 v) mv (lifted rv w), thru mv (lifted rv w))
    where
      out : Dec (y.0 ≡ v) → Move S p.1 m y.1 → Lifted y r b → (p.0 ≡ v → ⊥) → (Walk (Go S Now) p r c → ⊥) → ⊥
      out (no n) mv' (f, g) pv none = f n (λ q. none (Walk.step (m, keep s T.sound v vs T.remaining A p.0 y.0 m a h pv n, mv') q k))
      out (yes e) (inr (z, _, _)) (f, g) pv none = no_link s T.sound v vs T.remaining h (inr e) z
      out (yes e) (inl (n, ok, j)) (f, g) pv none =
          g e p.0 m a pv n (subst (λ z. Then p.0 z m a) e h) (subst (λ z. MayRide S z m) j ok)
          (λ q. none (weaken (from (λ i. (p.0, j i)) q) k))

      thru : Move S p.1 m y.1 → Lifted y r b → p.0 ≡ v → (x m' : ℕ) (a' : Weight) → (x ≡ v → ⊥) → (m' ≡ 0 → ⊥) → Then x v m' a'
          → MayRide S p.1 m' → (Walk (Go S Now) (x, p.1) r (a' ⊕ c) → ⊥) → ⊥
      thru (inr (z, _, _)) (f, g) e x m' a' xv n' h' ok' none = no_link s T.sound v vs T.remaining h (inl e) z
      thru (inl (n, ok, j)) (f, g) e x m' a' xv n' h' ok' none =
          rides_kept s T.sound v vs T.remaining A (a' ⊕ a) x y.0 xv yv
          (Walk.step (m', n', h') (single (m, n, subst (λ z. Then z y.0 m a) e h)) ≼_refl)
          (λ q. f yv (λ q'. none
          (join (accept p.1 (subst (MayRide S p.1) (sym ((stands_fine s T.sound h').ride n').0) ok') q)
          (from (λ i. (y.0, j i)) q') (rw ⊕-assoc (≼-mono (≼_refl {a = a'}) k)))))
        where
          yv : y.0 ≡ v → ⊥
          yv e' = (stands_fine s T.sound h).apart (e ∙ sym e')

-- a node that is left
abbrev Left : Network → List ℕ → ℕ → Type 0
Left N vs x = (x < nodes N) × (Gone N vs x → ⊥)

-- From a walk over the rows that stand to an up-down way over the last table.
module _ {N : Network} {last : List Row} (s : Sound N) (S : Sheet) where
  -- a row that stands is a row of the last table
  in_last : {ss : List Row} {G : ℕ → Type 0} {p r : At} {a : Weight} → Front ss last → Go S (Stands N ss G) p r a → Go S (Stands N last G) p r a
  in_last {ss} {G} {p} {r} {a} f (m, e, y) = (
    m,
    subst (λ l. Stands N l G p.0 r.0 m a) (sym f.behind) (stands_more f.rest G e e.tail_left e.head_left),
    y,
  )

  core_light : {ss : List Row} {p r : At} {c : Weight} → Front ss last → Walk (Go S (Stands N ss (Gone N []))) p r c → Light N last S p r c
  core_light f (Walk.stay e) = light_stay e
  core_light f (Walk.step (m, e, y) w k) =
      light_cons (in_last f (m, e, y)) (λ b. e.tail_left (λ u. e.head_left (λ x. core_level x u b))) (core_light f w) k

  module _ {ss new : List Row} (v : ℕ) (vs : List ℕ) (T : Stage N (v ∷ vs) ss) (A : Adds N ss v new) (f : Front ss last)
      (IH : (p r : At) (c : Weight) → Left N vs p.0 → Left N vs r.0 → Walk (Go S (Stands N (ss ++ new) (Gone N vs))) p r c
      → (Light N last S p r c → ⊥) → ⊥) where
    still : (x : ℕ) → Left N (v ∷ vs) x → (x ≡ v → ⊥) → Left N vs x
    still x l n = (l.0, left_still s v vs T.remaining x l.0 l.1 n)

    neither : (p r : At) (c : Weight) → Left N (v ∷ vs) p.0 → Left N (v ∷ vs) r.0 → (p.0 ≡ v → ⊥) → (r.0 ≡ v → ⊥)
        → Walk (Go S (AtTurn N ss v)) p r c → (Light N last S p r c → ⊥) → ⊥
    neither p r c lp lr pv rv w none =
        (lifted s v vs T A S rv w).0 pv (λ q. IH p r c (still p.0 lp pv) (still r.0 lr rv) q none)

    start : (p r : At) (c : Weight) → Left N (v ∷ vs) p.0 → Left N (v ∷ vs) r.0 → (r.0 ≡ v → ⊥) → Dec (p.0 ≡ v)
        → Walk (Go S (AtTurn N ss v)) p r c → (Light N last S p r c → ⊥) → ⊥
    start p r c lp lr rv (no pv) w none = neither p r c lp lr pv rv w none
    start p r c lp lr rv (yes e) (Walk.stay g) none = none (light_stay g)
    start p r c lp lr rv (yes e) (Walk.step {x = y} {b = b} (m, h, mv) w k) none =
        let d = stands_fine s T.sound h in
        neither y r b (d.head_node, h.head_left) lr (λ g. d.apart (e ∙ sym g)) rv w
        (λ l. none (light_cons (in_last f (m, h, mv)) (λ z. h.head_left (subst (Before N.node_ranks y.0) e z)) l k))

    finish : (p r : At) (c : Weight) → Left N (v ∷ vs) p.0 → Left N (v ∷ vs) r.0 → Dec (r.0 ≡ v)
        → Walk (Go S (AtTurn N ss v)) p r c → (Light N last S p r c → ⊥) → ⊥
    finish p r c lp lr (no rv) w none = start p r c lp lr rv (ℕ_discrete p.0 v) w none
    finish p r c lp lr (yes e) w none = go (unsnoc w)
      where
        go : (p ≡ r) ⊎ ((y : At) × (a : Weight) × (b : Weight) × Walk (Go S (AtTurn N ss v)) p y a × Go S (AtTurn N ss v) y r b × a ⊕ b ≼ c) → ⊥
        go (inl g) = none (light_stay g)
        go (inr (y, a, b, w', (m, h, mv), k)) =
            let d = stands_fine s T.sound h in
            start p y a lp (d.tail_node, h.tail_left) (λ g. d.apart (g ∙ sym e)) (ℕ_discrete p.0 v) w'
            (λ l. none (light_snoc l (in_last f (m, h, mv)) (λ z. h.tail_left (subst (Before N.node_ranks y.0) e z)) k))

  climb : (vs : List ℕ) (ss : List Row) → Stage N vs ss → Contracts N vs ss last → (p r : At) (c : Weight) → Left N vs p.0 → Left N vs r.0
      → Walk (Go S (Stands N ss (Gone N vs))) p r c → (Light N last S p r c → ⊥) → ⊥
  climb [] ss T (done e) p r c lp lr w none = none (core_light (contracts_front {N = N} (done e)) w)
  climb (v ∷ vs) ss T (turn {new = new} A e C) p r c lp lr w none =
      finish v vs T A (contracts_front (turn A e C))
      (climb vs (ss ++ new) (stage_turn s v vs T A) (subst (λ l. Contracts N vs l last) e C))
      p r c lp lr (ℕ_discrete r.0 v) w none

module _ {N : Network} {ss : List Row} {S : Sheet} {from to : ℕ} (s : Sound N) (P : Prepared N ss) (f : from < nodes N) (t : to < nodes N) where
  -- of each journey over the edges there is an up-down journey over the rows that is no heavier
  pub contracted_journey : {rs : List ℕ} → Journey N [] S from to rs
      → ((ps : List ℕ) → UpDownJourney N ss S from to ps → weight N ss ps ≼ weight N [] rs → ⊥) → ⊥
  contracted_journey {rs} j none =
      climb s S P.order [] (stage_start s P.in_order) P.contracts (from, j.start) (to, j.end) (weight N [] rs)
      (f, start_left s P.in_order from f) (t, start_left s P.in_order to t)
      (map_walk (λ p r a e. (e.0, start_stands s P.in_order e.1, e.2)) (way_walk j.way))
      (λ l. none l.path (record { journey = other_way j l.way; up_down = l.up_down }) l.weighs)

  -- no up-down journey is lighter than the least journey over the edges
  pub none_under : {w : Weight} → Least N [] (Journey N [] S from to) w → (rs : List ℕ) → UpDownJourney N ss S from to rs
      → Lighter (weight N ss rs) w → ⊥
  none_under {w} l rs j h =
      let o = journey_opened s (prepared_each s P) j.journey in
      l.none_lighter (opened_all N ss rs) o.journey (subst (λ z. Lighter z w) (sym o.same_weight) h)

  pub least_plain : {w : Weight} → Least N ss (UpDownJourney N ss S from to) w → Least N [] (Journey N [] S from to) w
  least_plain l =
      let o = journey_opened s (prepared_each s P) l.allowed.journey in
      record {
        path = opened_all N ss l.path;
        allowed = o.journey;
        weighs = o.same_weight ∙ l.weighs;
        none_lighter = λ rs j h. contracted_journey j (λ ps u k. l.none_lighter ps u (≼-lighter k h));
      }

  -- There is no journey over the edges exactly if there is no up-down journey over the rows.
  pub none_same : None (Journey N [] S from to) ↔ None (UpDownJourney N ss S from to)
  none_same = (
    (λ n. record { no_path = λ rs j. n.no_path (opened_all N ss rs) (journey_opened s (prepared_each s P) j.journey).journey }),
    (λ n. record { no_path = λ rs j. contracted_journey j (λ ps u k. n.no_path ps u) }),
  )

  -- The least weight of the up-down journeys over the rows is the least weight of the journeys over the edges.
  pub least_same : (w : Weight) → Least N [] (Journey N [] S from to) w ↔ Least N ss (UpDownJourney N ss S from to) w
  least_same w = ((λ l. go l (dec_weighing s (prepared_each s P) S from to w)), least_plain)
    where
      go : Least N [] (Journey N [] S from to) w → Dec (Weighing N ss S from to w) → Least N ss (UpDownJourney N ss S from to) w
      go l (yes j) = record { path = j.path; allowed = j.allowed; weighs = j.weighs; none_lighter = none_under l }
      go l (no n) =
          absurd (contracted_journey l.allowed (λ ps u k. n (record {
            path = ps;
            allowed = u;
            weighs = ≼-antisym (subst (λ z. weight N ss ps ≼ z) l.weighs k) (not_lighter-≼ (none_under l ps u));
          })))
