-- The rides as a graph of the greedy theorem: its laws, how large labels grow, one turn of the loop, and what the rooms tell in the end.
use mathlib.Core.Path.{◌≡◌, refl, sym, ap, subst, ◌∙◌}
use mathlib.Core.Logic.{inl, inr, ⊎_elim}
use mathlib.Core.Bool.{Bool, cond}
use mathlib.Core.List.{List, [], ◌∷◌}
use Prim.Native.Nat.{ℕ, ◌+◌, ◌-◌, ◌*◌, ◌<◌, ◌≤◌}
use native.Mathlib.Omega.{arith}
use native.Mathlib.Decide.{dec_lt, ℕ_discrete}
use lib.ListN.{length, get_or}
use borrow.Author.Tests.{lt-ltb, le-ltb}
use Rattle.network.specs.declared.weight.Weight.{Weight}
use Rattle.network.specs.declared.rows.Row.{Row}
use Rattle.network.specs.Weight.{zero_weight, ◌⊕◌, Lighter, Held}
use Rattle.network.specs.Network.{edges}
use Rattle.network.specs.Rows.{cost, edge_row, shortcut}
use Rattle.network.proofs.WeightLaws.{◌≼◌, ≼_refl, ≼_trans, ≼-mono, ≼-less, ≡-≼, ≼-time, ≼-not_lighter, not-≼-lighter, not_lighter-≼, lighter-≼, lighter-≼-trans, ⊕-time, ⊕-edges}
use Rattle.network.proofs.Counting.{waiting, waiting_drop}
use Rattle.search.specs.Graph.{Trail, halt, on, after_all, Laws, Reached, Relaxed, Greedy, Lightest}
use Rattle.search.specs.Labels.{label, mark, row_before}
use Rattle.search.specs.Steps.{Foremost}
use Rattle.search.specs.Witness.{Turn, node_count, row_count, ridden, Path, stay, onward, along_rides, path_weight, LeastPath, Reported, within, beyond, RestSame, Found, WitnessFits}
use Rattle.search.specs.WitnessSteps.{
  rides_from,
  all_rides,
  node_before,
  Narrow,
  Addable,
  Passed,
  Kept,
  settled,
  waiting as still_waiting,
  Closed,
  Opened,
  Departed,
  Halted,
  all_found,
  too_far,
  Spread,
}
use Rattle.search.proofs.Greedy.{greedy_start, greedy_turn, greedy_settled, greedy_beyond, greedy_over, relaxed_falls, via_trail}
use Rattle.search.proofs.WitnessLaws.{rest_refl, rest_trans}

-- what the number types of the columns say
pub narrow : (Q : Turn) → ((i : ℕ) → get_or Q.roads.lengths i 0 ≤ 65535) → ((i : ℕ) → get_or Q.shortcuts.lengths i 0 ≤ 4294967295)
    → ((i : ℕ) → get_or Q.shortcuts.counts i 0 ≤ 65535) → Narrow Q
narrow Q a b c = record {
  short = λ r. go (λ x. x.length ≤ 4294967295) r (omega (arith, a r)) (b (r - edges Q.roads));
  few = λ r. go (λ x. x.count ≤ 65535) r (omega arith) (c (r - edges Q.roads));
}
  where
    go : (P : Row → Type 0) (r : ℕ) → P (edge_row Q.roads r) → P (shortcut Q.shortcuts (r - edges Q.roads)) → P (ridden Q r)
    go P r e s = elim (dec_lt r (edges Q.roads)) [
      | yes l ↦ subst P (sym (ap (λ (b : Bool). cond b (edge_row Q.roads r) (shortcut Q.shortcuts (r - edges Q.roads))) (lt-ltb r (edges Q.roads) l))) e
      | no l ↦ subst P (sym (ap (λ (b : Bool). cond b (edge_row Q.roads r) (shortcut Q.shortcuts (r - edges Q.roads))) (le-ltb r (edges Q.roads) (omega arith)))) s
    ]

-- paths are the walks of the graph, and weigh the same
module _ {Q : Turn} where
  path_trail : {from u w : ℕ} {rs : List ℕ} → Path Q u w rs → Trail (rides_from Q from) u w rs
  path_trail (stay e) = halt e
  path_trail (onward a p) = on a (path_trail p)

  trail_path : {from u w : ℕ} {rs : List ℕ} → Trail (rides_from Q from) u w rs → Path Q u w rs
  trail_path (halt e) = stay e
  trail_path (on a t) = onward a (trail_path t)

after_along : (Q : Turn) (from : ℕ) (w : Weight) (rs : List ℕ) → after_all (rides_from Q from) w rs ≡ along_rides Q w rs
after_along Q from w [] = refl
after_along Q from w (r ∷ rs) = after_along Q from (w ⊕ cost (ridden Q r)) rs

-- how weights grow
record Grown (n : ℕ) (w w' : Weight) : Type 0 where
  time_bound : w'.time ≤ w.time + n * 4294967295
  edges_bound : w'.edges ≤ w.edges + n * 65535

along_grown : {Q : Turn} → Narrow Q → (from : ℕ) (w : Weight) (rs : List ℕ) → Grown (length rs) w (after_all (rides_from Q from) w rs)
along_grown t from w [] = record { time_bound = omega arith; edges_bound = omega arith }
along_grown {Q} t from w (r ∷ rs) =
    let x = cost (ridden Q r) in
    let g = along_grown t from (w ⊕ x) rs in
    record {
      time_bound = omega (arith, g.time_bound, ⊕-time w x, t.short r);
      edges_bound = omega (arith, g.edges_bound, ⊕-edges w x, t.few r);
    }

rides_laws : {Q : Turn} {from : ℕ} → Narrow Q → from < node_count Q → node_count Q ≤ 512 → Laws (rides_from Q from)
rides_laws {Q} {from} t inside few = record {
  le_refl = λ a. ≼_refl;
  le_trans = λ a b c. ≼_trans;
  le_total = λ a b n. lighter-≼ (not-≼-lighter n);
  after_mono = λ a b r h. ≼-mono h ≼_refl;
  after_more = λ a r. ≼-less a (cost (ridden Q r));
  tail_in = λ p r q a. a.tail_open.is_node;
  head_in = λ p r q a. a.head_open.is_node;
  start_in = λ p s. subst (λ (x : ℕ). x < node_count Q) (sym s) inside;
  fits = λ p q rs s a l h. omega (arith, ≼-time h, (along_grown t from zero_weight rs).time_bound, l, few);
}

-- rides tried in the graph of all rides are tried in the one from a node
relaxed_from : {Q : Turn} (from : ℕ) {u : ℕ} {w : Weight} {T : ℕ → ℕ → Type 0} {d d' : ℕ → Weight} {pr pr' pp pp' : ℕ → ℕ}
    → Relaxed (all_rides Q) u w T d d' pr pr' pp pp' → Relaxed (rides_from Q from) u w T d d' pr pr' pp pp'
relaxed_from from p = record {
  lower = λ v l. ⊎_elim
      (λ e. inl record { label = e.label; by_row = e.by_row; by_place = e.by_place })
      (λ b. inr record {
        row = b.row;
        arc = b.arc;
        label = b.label;
        lighter = b.lighter;
        by_row = b.by_row;
        by_place = b.by_place;
      })
      (p.lower v l);
  bound = p.bound;
}

-- what holds at the head of the loop
pub record Spreading (Q : Turn) (from : ℕ) (bound : Weight) (wide₀ narrow₀ wide narrow : List ℕ) : Type 0 where
  pub rest_same : RestSame (node_count Q) wide₀ narrow₀ wide narrow
  pub settled_count : ℕ
  pub greedy : Greedy (rides_from Q from) (label wide narrow) (mark narrow) (row_before narrow) (node_before Q narrow) settled_count
  pub near : (v : ℕ) → v < node_count Q → mark narrow v ≡ 0 → label wide narrow v ≼ bound

-- how many nodes wait
abbrev pub left_over : Turn → List ℕ → ℕ
left_over Q narrow = waiting (mark narrow) (node_count Q)

pub spreading_start : {Q : Turn} {from wl nl : ℕ} (bound : Weight) {wide narrow wide' narrow' : List ℕ}
    → WitnessFits (node_count Q) (row_count Q) from wl nl → Narrow Q → Opened (node_count Q) from wide narrow wide' narrow'
    → Spreading Q from bound wide' narrow' wide' narrow'
spreading_start {from = from} bound {wide' = wide'} {narrow' = narrow'} fits t o = record {
  rest_same = rest_refl;
  settled_count = 0;
  greedy = greedy_start (rides_laws t fits.from_node fits.few_nodes) (record {
    at_starts = λ v e. ap (label wide' narrow') e ∙ o.at_start;
    elsewhere = o.elsewhere;
    start_known = λ v l. ℕ_discrete v from;
    all_wait = o.all_wait;
  });
  near = λ v l z. absurd (o.all_wait v l z);
}

module _ {Q : Turn} {from wl nl : ℕ} {bound : Weight} {wide₀ narrow₀ wide narrow : List ℕ}
    (fits : WitnessFits (node_count Q) (row_count Q) from wl nl) (t : Narrow Q) (s : Spreading Q from bound wide₀ narrow₀ wide narrow) where
  laws : Laws (rides_from Q from)
  laws = rides_laws t fits.from_node fits.few_nodes

  ended : {wide₁ narrow₁ : List ℕ} → RestSame (node_count Q) wide₁ narrow₁ wide₀ narrow₀ → Halted Q from bound (label wide narrow) (mark narrow)
      → Spread Q from bound wide₁ narrow₁ wide narrow
  ended r h = record {
    rest_same = rest_trans r s.rest_same;
    settled_count = s.settled_count;
    greedy = s.greedy;
    near = s.near;
    halted = h;
  }

  -- the node u is picked
  module _ {u : ℕ} (picked : Foremost (node_count Q) (label wide narrow) (mark narrow) u) where
    lightest : Lightest (rides_from Q from) (label wide narrow) (mark narrow) u
    lightest = record { inside = picked.inside; waits = picked.waits; some = λ k. ≼-not_lighter k picked.labelled; least = picked.least }

    pub turn_over : {wide₁ narrow₁ : List ℕ} → RestSame (node_count Q) wide₁ narrow₁ wide₀ narrow₀ → {w : Weight} → w ≡ label wide narrow u
        → Lighter bound w → Spread Q from bound wide₁ narrow₁ wide narrow
    turn_over r e h = ended r (too_far lightest (subst (Lighter bound) e h))

    -- a label fits with any row's cost behind it
    pub turn_addable : Addable Q (label wide narrow u)
    turn_addable = record { each = λ r. held r }
      where
        reach : Reached (rides_from Q from) (mark narrow) s.settled_count (label wide narrow u) u
        reach = s.greedy.reached u picked.inside lightest.some

        small : Grown (length reach.rows) zero_weight (label wide narrow u)
        small = subst (Grown (length reach.rows) zero_weight) reach.weighs (along_grown t from zero_weight reach.rows)

        held : (r : ℕ) → Held (label wide narrow u ⊕ cost (ridden Q r))
        held r = record {
          time_held = omega (arith, small.time_bound, reach.short, s.greedy.counted, fits.few_nodes, ⊕-time (label wide narrow u) (cost (ridden Q r)), t.short r);
          edges_held = omega (arith, small.edges_bound, reach.short, s.greedy.counted, fits.few_nodes, ⊕-edges (label wide narrow u) (cost (ridden Q r)), t.few r);
        }

    module _ {wide' narrow' : List ℕ} (l : Departed Q u wide narrow wide' narrow') where
      near' : (Lighter bound (label wide narrow u) → ⊥) → (v : ℕ) → v < node_count Q → Dec (v ≡ u) → mark narrow' v ≡ 0 → label wide' narrow' v ≼ bound
      near' h v m (yes z) _ = ≼_trans (relaxed_falls laws (relaxed_from from l.relaxed) v m)
          (≼_trans (≡-≼ (ap (label wide narrow) z)) (not_lighter-≼ h))
      near' h v m (no n) k = ≼_trans (relaxed_falls laws (relaxed_from from l.relaxed) v m)
          (s.near v m (sym (l.settles.miss v m n) ∙ k))

      pub turn_again : {w : Weight} → w ≡ label wide narrow u → (Lighter bound w → ⊥) → Spreading Q from bound wide₀ narrow₀ wide' narrow'
      turn_again e h = record {
        rest_same = rest_trans s.rest_same l.rest_same;
        settled_count = s.settled_count + 1;
        greedy = greedy_turn laws s.greedy lightest refl (record { each = λ r v a. a.there })
            (relaxed_from from l.relaxed) (record { hit = l.settles.hit; miss = l.settles.miss });
        near = λ v m k. near' (λ i. h (subst (Lighter bound) (sym e) i)) v m (ℕ_discrete v u) k;
      }

      pub turn_less : left_over Q narrow' < left_over Q narrow
      turn_less = omega (
        arith,
        waiting_drop (mark narrow) (mark narrow') (node_count Q) u picked.inside picked.waits l.settles.hit l.settles.miss,
      )

-- the end: what is kept in the rooms is what is told
module _ {Q : Turn} {from wl nl : ℕ} {bound : Weight} {wide₀ narrow₀ wide narrow wide' narrow' : List ℕ}
    (fits : WitnessFits (node_count Q) (row_count Q) from wl nl) (t : Narrow Q) (s : Spread Q from bound wide₀ narrow₀ wide narrow)
    (c : Passed Closed (node_count Q) wide narrow wide' narrow') where
  end_laws : Laws (rides_from Q from)
  end_laws = rides_laws t fits.from_node fits.few_nodes

  -- a settled node has the least weight
  least_path : (x : ℕ) → x < node_count Q → mark narrow x ≡ 0 → LeastPath Q from x (label wide narrow x)
  least_path x l z =
      let r = s.greedy.reached x l (s.greedy.labelled x l z) in
      record {
        rows = r.rows;
        path = subst (λ (y : ℕ). Path Q y x r.rows) r.starts (trail_path (via_trail r.via));
        weighs = sym (after_along Q from zero_weight r.rows) ∙ r.weighs;
        least = λ rs p h. ≼-not_lighter (greedy_settled end_laws s.greedy x l z from rs refl (path_trail p))
            (subst (λ (y : Weight). Lighter y (label wide narrow x)) (sym (after_along Q from zero_weight rs)) h);
      }

  -- to a node that waits every path is heavier than the bound
  too_long : (x : ℕ) → (mark narrow x ≡ 0 → ⊥) → Halted Q from bound (label wide narrow) (mark narrow) → (rs : List ℕ) → Path Q from x rs
      → Lighter bound (path_weight Q rs)
  too_long x n (all_found f) rs p = absurd (n (greedy_over end_laws s.greedy f refl (path_trail p)))
  too_long x n (too_far k h) rs p =
      subst (λ (y : Weight). Lighter bound y) (after_along Q from zero_weight rs)
      (lighter-≼-trans h (greedy_beyond end_laws s.greedy k x n from rs refl (path_trail p)))

  report : (x : ℕ) → x < node_count Q → {w : Weight} → Kept (mark narrow x) (label wide narrow x) w → Reported Q from bound x w
  report x l (settled z e) = subst (λ (y : Weight). Reported Q from bound x y) (sym e)
      (within (least_path x l z) (λ h. ≼-not_lighter (s.near x l z) h))
  report x l (still_waiting n e) = beyond (too_long x n s.halted) e

  pub found : Found Q from bound wide₀ narrow₀ wide' narrow'
  found = record {
    rest_same = rest_trans s.rest_same c.rest_same;
    told = λ x l. report x l (c.each x l).kept;
    zeroed = λ x l. (c.each x l).zeroed;
  }
