-- The greedy theorem: setting labels from the lightest waiting place on finds the least label of a walk from a start to a target, and of a
-- walk to any place that it has settled.
use mathlib.Core.Path.{◌≡◌, refl, sym, ap, ap₂, subst, ◌∙◌}
use mathlib.Core.Logic.{⊎_elim}
use mathlib.Core.List.{List, [], ◌∷◌, ◌++◌}
use Prim.Native.Nat.{ℕ, zero, suc, ◌+◌, ◌<◌, ◌≤◌}
use native.Mathlib.Omega.{arith}
use native.Mathlib.Decide.{ℕ_discrete}
use lib.ListN.{length}
use Rattle.network.proofs.Counting.{waiting_drop, waiting_full}
use Rattle.search.specs.Graph.{
  Graph,
  Trail,
  halt,
  on,
  Via,
  halt_via,
  on_via,
  after_all,
  Some,
  Laws,
  Reached,
  Parent,
  Backed,
  at_start,
  by_parent,
  Greedy,
  Lightest,
  Nobody,
  Unmet,
  Same,
  Better,
  Relaxed,
  Whole,
  Settles,
  Begun,
  Best,
  Tracing,
  Traced,
  Counts,
  back,
}

-- walks and their labels
pub after_all_more : (G : Graph) (w : G.Label) (rs : List ℕ) (r : ℕ) → after_all G w (rs ++ (r ∷ [])) ≡ G.after (after_all G w rs) r
after_all_more G w [] r = refl
after_all_more G w (x ∷ rs) r = after_all_more G (G.after w x) rs r

length_more : (rs : List ℕ) (r : ℕ) → length (rs ++ (r ∷ [])) ≡ length rs + 1
length_more [] r = omega arith
length_more (x ∷ rs) r = omega (arith, length_more rs r)

module _ {G : Graph} {s : ℕ → ℕ} where
  pub via_trail : {p q : ℕ} {rs : List ℕ} → Via G s p q rs → Trail G p q rs
  via_trail (halt_via e) = halt e
  via_trail (on_via z a t) = on a (via_trail t)

  pub via_more : {p q r x : ℕ} {rs : List ℕ} → Via G s p q rs → s q ≡ 0 → G.Arc q r x → Via G s p x (rs ++ (r ∷ []))
  via_more {r = r} {x} (halt_via {p = p} e) z a = on_via (ap s e ∙ z) (subst (λ (y : ℕ). G.Arc y r x) (sym e) a) (halt_via refl)
  via_more (on_via y b t) z a = on_via y b (via_more t z a)

  pub reach_more : {k : ℕ} {w w' : G.Label} {u v : ℕ} → Reached G s k w u → s u ≡ 0 → (r : ℕ) → G.Arc u r v → w' ≡ G.after w r
      → Reached G s (k + 1) w' v
  reach_more {k} {w} {w'} p z r a e = record {
    from = p.from;
    starts = p.starts;
    rows = p.rows ++ (r ∷ []);
    via = via_more p.via z a;
    weighs = after_all_more G G.first p.rows r ∙ ap (λ (x : G.Label). G.after x r) p.weighs ∙ sym e;
    short = omega (arith, length_more p.rows r, p.short);
  }

  -- the same, where more is settled
  module _ {s' : ℕ → ℕ} (laws : Laws G) (stays : (v : ℕ) → v < G.places → s v ≡ 0 → s' v ≡ 0) where
    pub via_at : {p q : ℕ} {rs : List ℕ} → Via G s p q rs → Via G s' p q rs
    via_at (halt_via e) = halt_via e
    via_at (on_via {p = p} {x = x} {r = r} z a t) = on_via (stays p (laws.tail_in p r x a) z) a (via_at t)

    pub reach_at : {k : ℕ} {w w' : G.Label} {v : ℕ} → Reached G s k w v → (k' : ℕ) → k ≤ k' → w' ≡ w → Reached G s' k' w' v
    reach_at {k} r k' l e = record {
      from = r.from;
      starts = r.starts;
      rows = r.rows;
      via = via_at r.via;
      weighs = r.weighs ∙ sym e;
      short = omega (arith, r.short);
    }

module _ {G : Graph} (laws : Laws G) where
  pub le_eq : {a b : G.Label} → a ≡ b → G.Le a b
  le_eq {a} {b} e = subst (λ (x : G.Label). G.Le a x) e (laws.le_refl a)

  pub after_all_le : (w : G.Label) (rs : List ℕ) → G.Le w (after_all G w rs)
  after_all_le w [] = laws.le_refl w
  after_all_le w (r ∷ rs) = laws.le_trans _ _ _ (laws.after_more w r) (after_all_le (G.after w r) rs)

  pub after_all_mono : (w w' : G.Label) (rs : List ℕ) → G.Le w w' → G.Le (after_all G w rs) (after_all G w' rs)
  after_all_mono w w' [] h = h
  after_all_mono w w' (r ∷ rs) h = after_all_mono (G.after w r) (G.after w' r) rs (laws.after_mono w w' r h)

  -- a walk ends at a place
  pub trail_in : {p q : ℕ} {rs : List ℕ} → Trail G p q rs → p < G.places → q < G.places
  trail_in (halt e) l = subst (λ (x : ℕ). x < G.places) e l
  trail_in (on {p = p} {x = x} {r = r} a t) l = trail_in t (laws.head_in p r x a)

  -- by trying arcs, labels only fall
  pub relaxed_falls : {u : ℕ} {w : G.Label} {T : ℕ → ℕ → Type 0} {d d' : ℕ → G.Label} {pr pr' pp pp' : ℕ → ℕ}
      → Relaxed G u w T d d' pr pr' pp pp' → (v : ℕ) → v < G.places → G.Le (d' v) (d v)
  relaxed_falls p v l = ⊎_elim (λ e. le_eq e.label) (λ b. laws.le_total _ _ b.lighter) (p.lower v l)

  -- the beginning establishes what holds at the head of the loop
  pub greedy_start : {d : ℕ → G.Label} {s pr pp : ℕ → ℕ} → Begun G d s → Greedy G d s pr pp 0
  greedy_start {d} {s} {pr} {pp} b = record {
    started = λ v h. le_eq (b.at_starts v h);
    reached = λ v l h. from_start v (is_start v l h);
    backed = λ v l h. at_start (is_start v l h) (b.at_starts v (is_start v l h));
    relaxed = λ p r q a z. absurd (b.all_wait p (laws.tail_in p r q a) z);
    greedy = λ u v l m z n. absurd (b.all_wait u l z);
    labelled = λ u l z. absurd (b.all_wait u l z);
    counted = omega (arith, waiting_full s G.places b.all_wait);
  }
    where
      is_start : (v : ℕ) → v < G.places → Some G (d v) → G.Start v
      is_start v l h = elim (b.start_known v l) [ yes a ↦ a | no n ↦ absurd (h (le_eq (sym (b.elsewhere v l n)))) ]

      from_start : (v : ℕ) → G.Start v → Reached G s 0 (d v) v
      from_start v a = record { from = v; starts = a; rows = []; via = halt_via refl; weighs = sym (b.at_starts v a); short = omega arith }

-- one turn: a lightest waiting place u is settled, and the arcs that leave it are tried
module _ {G : Graph} (laws : Laws G) {d : ℕ → G.Label} {s pr pp : ℕ → ℕ} {k : ℕ} (g : Greedy G d s pr pp k) {u : ℕ} (pick : Lightest G d s u)
    {w : G.Label} (its : w ≡ d u) {Tried : ℕ → ℕ → Type 0} (whole : Whole G u Tried)
    {d' : ℕ → G.Label} {s' pr' pp' : ℕ → ℕ} (rel : Relaxed G u w Tried d d' pr pr' pp pp') (set : Settles G u s s') where
  u_more : (r : ℕ) → G.Le (d u) (G.after w r)
  u_more r = subst (λ (x : G.Label). G.Le x (G.after w r)) its (laws.after_more w r)

  below : (v : ℕ) → v < G.places → s' v ≡ 0 → G.Le (d v) (d u)
  below v l z = go (ℕ_discrete v u)
    where
      go : Dec (v ≡ u) → G.Le (d v) (d u)
      go (yes e) = le_eq laws (ap d e)
      go (no n) = g.greedy v u l pick.inside (sym (set.miss v l n) ∙ z) pick.waits

  above : (v : ℕ) → v < G.places → (s' v ≡ 0 → ⊥) → G.Le (d u) (d v)
  above v l n = pick.least v l (λ z. n (set.miss v l (λ e. n (ap s' e ∙ set.hit)) ∙ z))

  -- the label of a settled place does not change
  fixed : (v : ℕ) → v < G.places → s' v ≡ 0 → d' v ≡ d v
  fixed v l z = ⊎_elim
      (λ e. e.label)
      (λ b. absurd (b.lighter (laws.le_trans _ _ _ (below v l z) (laws.le_trans _ _ _ (u_more b.row) (le_eq laws (sym b.label))))))
      (rel.lower v l)

  -- what was settled stays so
  stays : (v : ℕ) → v < G.places → s v ≡ 0 → s' v ≡ 0
  stays v l z = go (ℕ_discrete v u)
    where
      go : Dec (v ≡ u) → s' v ≡ 0
      go (yes e) = ap s' e ∙ set.hit
      go (no n) = set.miss v l n ∙ z

  u_reached : Reached G s' k (d u) u
  u_reached = reach_at laws stays (g.reached u pick.inside pick.some) k (omega arith) refl

  reached' : (v : ℕ) → v < G.places → Some G (d' v) → Reached G s' (k + 1) (d' v) v
  reached' v l h = ⊎_elim
      (λ e. reach_at laws stays (g.reached v l (subst (λ (x : G.Label). Some G x) e.label h)) (k + 1) (omega arith) e.label)
      (λ b. reach_more u_reached set.hit b.row b.arc (b.label ∙ ap (λ (x : G.Label). G.after x b.row) its))
      (rel.lower v l)

  relaxed' : (p r q : ℕ) → G.Arc p r q → s' p ≡ 0 → G.Le (d' q) (G.after (d' p) r)
  relaxed' p r q a z =
      subst (λ (x : G.Label). G.Le (d' q) (G.after x r)) (sym (fixed p (laws.tail_in p r q a) z)) (go (ℕ_discrete p u))
    where
      go : Dec (p ≡ u) → G.Le (d' q) (G.after (d p) r)
      go (yes e) =
          let a' : G.Arc u r q = subst (λ (x : ℕ). G.Arc x r q) e a in
          subst (λ (x : G.Label). G.Le (d' q) (G.after x r)) (its ∙ ap d (sym e)) (rel.bound r q a' (whole.each r q a'))
      go (no n) = laws.le_trans _ _ _
          (relaxed_falls laws rel q (laws.head_in p r q a))
          (g.relaxed p r q a (sym (set.miss p (laws.tail_in p r q a) n) ∙ z))

  greedy' : (a b : ℕ) → a < G.places → b < G.places → s' a ≡ 0 → (s' b ≡ 0 → ⊥) → G.Le (d' a) (d' b)
  greedy' a b l m z n = laws.le_trans _ _ _ (le_eq laws (fixed a l z)) (laws.le_trans _ _ _ (below a l z) (⊎_elim
      (λ e. laws.le_trans _ _ _ (above b m n) (le_eq laws (sym e.label)))
      (λ c. laws.le_trans _ _ _ (u_more c.row) (le_eq laws (sym c.label)))
      (rel.lower b m)))

  labelled' : (v : ℕ) → v < G.places → s' v ≡ 0 → Some G (d' v)
  labelled' v l z h = pick.some (laws.le_trans _ _ _ h (laws.le_trans _ _ _ (le_eq laws (fixed v l z)) (below v l z)))

  -- an arc to v by its new parent
  arc_at : {p r : ℕ} (v : ℕ) → pp' v ≡ p → pr' v ≡ r → G.Arc p r v → G.Arc (pp' v) (pr' v) v
  arc_at {p} v e f a = subst (λ (x : ℕ). G.Arc x (pr' v) v) (sym e) (subst (λ (x : ℕ). G.Arc p x v) (sym f) a)

  kept : (v : ℕ) → Same G d d' pr pr' pp pp' v → Parent G d s pr pp v → Parent G d' s' pr' pp' v
  kept v e p = record {
    arc = arc_at v e.by_place e.by_row p.arc;
    settled = ap s' e.by_place ∙ still;
    label = e.label ∙ p.label ∙ ap₂ G.after (sym (ap d' e.by_place ∙ fixed (pp v) inn still)) (sym e.by_row);
  }
    where
      inn : pp v < G.places
      inn = laws.tail_in (pp v) (pr v) v p.arc

      still : s' (pp v) ≡ 0
      still = stays (pp v) inn p.settled

  fresh : (v : ℕ) → Better G u w d d' pr' pp' v → Parent G d' s' pr' pp' v
  fresh v b = record {
    arc = arc_at v b.by_place b.by_row b.arc;
    settled = ap s' b.by_place ∙ set.hit;
    label = b.label ∙ ap₂ G.after (its ∙ sym (ap d' b.by_place ∙ fixed u pick.inside set.hit)) (sym b.by_row);
  }

  backed' : (v : ℕ) → v < G.places → Some G (d' v) → Backed G d' s' pr' pp' v
  backed' v l h = ⊎_elim
      (λ e. go e (g.backed v l (subst (λ (x : G.Label). Some G x) e.label h)))
      (λ b. by_parent (fresh v b))
      (rel.lower v l)
    where
      go : Same G d d' pr pr' pp pp' v → Backed G d s pr pp v → Backed G d' s' pr' pp' v
      go e (at_start a f) = at_start a (e.label ∙ f)
      go e (by_parent p) = by_parent (kept v e p)

  -- the turn keeps what holds at the head of the loop, and settles one more
  pub greedy_turn : Greedy G d' s' pr' pp' (k + 1)
  greedy_turn = record {
    started = λ v h. laws.le_trans _ _ _ (relaxed_falls laws rel v (laws.start_in v h)) (g.started v h);
    reached = reached';
    backed = backed';
    relaxed = relaxed';
    greedy = greedy';
    labelled = labelled';
    counted = omega (arith, waiting_drop s s' G.places u pick.inside pick.waits set.hit set.miss, g.counted);
  }

-- lower bounds on walks
module _ {G : Graph} (laws : Laws G) {d : ℕ → G.Label} {s pr pp : ℕ → ℕ} {k : ℕ} (g : Greedy G d s pr pp k) where
  -- what bounds the waiting labels, and that of the place where a walk ends, bounds the walk
  module _ {b : G.Label} (bound : (v : ℕ) → v < G.places → (s v ≡ 0 → ⊥) → G.Le b (d v)) where
    bounded : {p q : ℕ} {rs : List ℕ} → Trail G p q rs → p < G.places → G.Le b (d q) → (w : G.Label) → G.Le (d p) w
        → G.Le b (after_all G w rs)
    bounded (halt {p = p} {q = q} e) l m w h = laws.le_trans _ _ _ m (laws.le_trans _ _ _ (le_eq laws (ap d (sym e))) h)
    bounded (on {p = p} {x = x} {r = r} {rs = rs} a t) l m w h =
        go (ℕ_discrete (s p) 0) (λ y. bounded t (laws.head_in p r x a) m (G.after w r) y)
      where
        go : Dec (s p ≡ 0) → (G.Le (d x) (G.after w r) → G.Le b (after_all G (G.after w r) rs)) → G.Le b (after_all G (G.after w r) rs)
        go (yes z) ih = ih (laws.le_trans _ _ _ (g.relaxed p r x a z) (laws.after_mono (d p) w r h))
        go (no n) ih = laws.le_trans _ _ _ (bound p l n) (laws.le_trans _ _ _ h (after_all_le laws w (r ∷ rs)))

    pub greedy_bound : (q : ℕ) → G.Le b (d q) → (p : ℕ) (rs : List ℕ) → G.Start p → Trail G p q rs → G.Le b (after_all G G.first rs)
    greedy_bound q m p rs h t = bounded t (laws.start_in p h) m G.first (g.started p h)

  -- the label of a settled place is least of all walks to it
  pub greedy_settled : (v : ℕ) → v < G.places → s v ≡ 0 → (p : ℕ) (rs : List ℕ) → G.Start p → Trail G p v rs
      → G.Le (d v) (after_all G G.first rs)
  greedy_settled v l z = greedy_bound (λ x m n. g.greedy v x l m z n) v (laws.le_refl (d v))

  -- a walk to a place that waits is no lighter than a lightest waiting place
  pub greedy_beyond : {u : ℕ} → Lightest G d s u → (q : ℕ) → (s q ≡ 0 → ⊥) → (p : ℕ) (rs : List ℕ) → G.Start p → Trail G p q rs
      → G.Le (d u) (after_all G G.first rs)
  greedy_beyond pick q n p rs h t = greedy_bound pick.least q (pick.least q (trail_in laws t (laws.start_in p h)) n) p rs h t

  -- the end, where a lightest waiting place is a target, and none was settled before: its label is attained, and no walk from a start to a
  -- target has a lighter one
  pub greedy_stop : {u : ℕ} → Lightest G d s u → Unmet G s → G.Target u → Best G (d u)
  greedy_stop {u} pick unmet t =
      let r = g.reached u pick.inside pick.some in
      record {
        from = r.from;
        to = u;
        rows = r.rows;
        starts = r.starts;
        targets = t;
        trail = via_trail r.via;
        weighs = r.weighs;
        least = λ p q rs h m b. greedy_beyond pick q (unmet.each q (trail_in laws b (laws.start_in p h)) m) p rs h b;
      }

-- the end, where nothing waits that has a label
module _ {G : Graph} (laws : Laws G) {d : ℕ → G.Label} {s pr pp : ℕ → ℕ} {k : ℕ} (g : Greedy G d s pr pp k) (over : Nobody G d s) where
  has_settled : (v : ℕ) → v < G.places → Some G (d v) → s v ≡ 0
  has_settled v l h = elim (ℕ_discrete (s v) 0) [ yes e ↦ e | no n ↦ absurd (h (over.each v l n)) ]

  all_settled : {p q : ℕ} {rs : List ℕ} → Trail G p q rs → p < G.places → s p ≡ 0 → s q ≡ 0
  all_settled (halt e) l z = subst (λ (x : ℕ). s x ≡ 0) e z
  all_settled (on {p = p} {x = x} {r = r} a b) l z =
      let m = laws.head_in p r x a in
      let o = g.reached p l (g.labelled p l z) in
      let f = reach_more o z r a refl in
      let c : Some G (G.after (d p) r) = subst (λ (y : G.Label). Some G y) f.weighs
      (laws.fits f.from x f.rows f.starts (via_trail f.via) (omega (arith, f.short, g.counted))) in
      all_settled b m (has_settled x m (λ h. c (laws.le_trans _ _ _ h (g.relaxed p r x a z))))

  -- a walk from a start leads to settled places only: there is none to a place that waits
  pub greedy_over : {p q : ℕ} {rs : List ℕ} → G.Start p → Trail G p q rs → s q ≡ 0
  greedy_over {p} {q} {rs} h t = all_settled t (laws.start_in p h)
      (has_settled p (laws.start_in p h) (λ b. laws.fits p p [] h (halt refl) (omega arith) (laws.le_trans _ _ _ b (g.started p h))))

  -- so there is none to a target, unless one was settled before
  pub greedy_nowhere : Unmet G s → (p q : ℕ) (rs : List ℕ) → G.Start p → G.Target q → Trail G p q rs → ⊥
  greedy_nowhere unmet p q rs h m t = unmet.each q (trail_in laws t (laws.start_in p h)) m (greedy_over h t)

-- a turn at a place that is no target settles no target
pub unmet_turn : {G : Graph} {u : ℕ} {s s' : ℕ → ℕ} → Settles G u s s' → (G.Target u → ⊥) → Unmet G s → Unmet G s'
unmet_turn {G} {u} {s} {s'} set n unmet = record { each = λ t l m z. go t l m z (ℕ_discrete t u) }
  where
    go : (t : ℕ) → t < G.places → G.Target t → s' t ≡ 0 → Dec (t ≡ u) → ⊥
    go t l m z (yes e) = n (subst (λ (x : ℕ). G.Target x) e m)
    go t l m z (no f) = unmet.each t l m (sym (set.miss t l f) ∙ z)

pub unmet_start : {G : Graph} {d : ℕ → G.Label} {s : ℕ → ℕ} → Begun G d s → Unmet G s
unmet_start b = record { each = λ t l m z. b.all_wait t l z }

-- walking back by the parents
module _ {G : Graph} (laws : Laws G) {d : ℕ → G.Label} {s pr pp : ℕ → ℕ} {k : ℕ} (g : Greedy G d s pr pp k) where
  pub tracing_start : (to : ℕ) → to < G.places → Some G (d to) → Tracing G d to to []
  tracing_start to l h = record { inside = l; some = h; trail = halt refl; weighs = refl }

  pub tracing_on : {to v : ℕ} {rs : List ℕ} → Tracing G d to v rs → Parent G d s pr pp v → Tracing G d to (pp v) (pr v ∷ rs)
  tracing_on {to} {v} {rs} t p =
      let l = laws.tail_in (pp v) (pr v) v p.arc in
      record {
        inside = l;
        some = g.labelled (pp v) l p.settled;
        trail = on p.arc t.trail;
        weighs = ap (λ (x : G.Label). after_all G x rs) (sym p.label) ∙ t.weighs;
      }

  module _ {count : G.Label → ℕ} (counts : Counts G count) where
    rises : {v : ℕ} → Parent G d s pr pp v → count (d (pp v)) < count (d v)
    rises {v} p = omega (arith, counts.count_more (pp v) (pr v) v (d (pp v)) p.arc, ap count p.label)

    -- at measure 0 the walk is whole
    pub tracing_done : {to v : ℕ} {rs : List ℕ} → Tracing G d to v rs → count (d v) ≡ 0 → Traced G d to rs
    tracing_done {to} {v} {rs} t z = go (g.backed v t.inside t.some)
      where
        go : Backed G d s pr pp v → Traced G d to rs
        go (at_start a e) =
            record { from = v; starts = a; trail = t.trail; weighs = ap (λ (x : G.Label). after_all G x rs) (sym e) ∙ t.weighs }
        go (by_parent p) = absurd (omega (arith, rises p))

    -- and elsewhere there is a parent, whose measure is less
    pub tracing_parent : {to v : ℕ} {rs : List ℕ} → Tracing G d to v rs → (count (d v) ≡ 0 → ⊥)
        → Parent G d s pr pp v × (count (d (pp v)) < count (d v))
    tracing_parent {to} {v} {rs} t n = go (g.backed v t.inside t.some)
      where
        go : Backed G d s pr pp v → Parent G d s pr pp v × (count (d (pp v)) < count (d v))
        go (at_start a e) = absurd (n (ap count e ∙ counts.count_first))
        go (by_parent p) = (p, rises p)

    -- the whole walk as a list
    pub traced : (n : ℕ) {to v : ℕ} {rs : List ℕ} → Tracing G d to v rs → count (d v) ≤ n
        → Traced G d to (back (λ x. count (d x)) pr pp n v rs)
    unfolding back
    traced zero {to} {v} {rs} t l = tracing_done t (omega arith)
    traced (suc n) {to} {v} {rs} t l = go (count (d v)) refl (λ p m. traced n (tracing_on t p) m)
      where
        go : (c : ℕ) → count (d v) ≡ c
            → (Parent G d s pr pp v → count (d (pp v)) ≤ n → Traced G d to (back (λ x. count (d x)) pr pp n (pp v) (pr v ∷ rs)))
            → Traced G d to (elim c [ zero ↦ rs | suc m ↦ back (λ x. count (d x)) pr pp n (pp v) (pr v ∷ rs) ])
        go zero e ih = tracing_done t e
        go (suc m) e ih = let q = tracing_parent t (λ z. omega arith) in ih q.0 (omega (arith, q.1))
