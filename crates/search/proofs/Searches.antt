-- The graph of places has the laws of the greedy theorem, its walks from a start to a target are the journeys, and its labels are small.
use mathlib.Core.Path.{◌≡◌, refl, sym, subst, ◌∙◌}
use mathlib.Core.List.{List, [], ◌∷◌}
use Prim.Native.Nat.{ℕ, ◌+◌, ◌*◌, ◌<◌, ◌≤◌}
use native.Mathlib.Omega.{arith}
use lib.ListN.{length}
use Rattle.network.specs.declared.weight.Weight.{Weight}
use Rattle.network.specs.declared.rows.Row.{Row}
use Rattle.network.specs.Weight.{zero_weight, none_yet, ◌⊕◌, Lighter, Held}
use Rattle.network.specs.Order.{Before}
use Rattle.network.specs.Network.{Network, nodes, Sound}
use Rattle.network.specs.declared.sheet.Sheet.{Sheet}
use Rattle.network.specs.Sheet.{Initial, Final, Counted}
use Rattle.network.specs.Rows.{row, rows, cost, SoundTable}
use Rattle.network.specs.Journey.{along, Journey, stops, Least, None}
use Rattle.network.proofs.WeightLaws.{≼_refl, ≼_trans, ≼-mono, ≼-less, ≼-time, ≼-cancel_r, ≼-not_lighter, not-≼-lighter, lighter-≼, ⊕-time, ⊕-edges}
use Rattle.network.proofs.RowLaws.{row_fine, no_table}
use Rattle.network.proofs.Pigeonhole.{AllBelow}
use Rattle.search.specs.UpDown.{UpDownJourney}
use Rattle.search.specs.Graph.{Trail, after_all, Laws, Greedy, Best, Counts}
use Rattle.search.proofs.Greedy.{via_trail}
use Rattle.search.proofs.Simple.{Keyed, Costly, Visit, visit_trail}
use Rattle.search.specs.Places.{place, node_of, state_of, phase_of, Phase, level, down, Shift, Move, StartAt, TargetAt, search_graph, Flat}
use Rattle.search.proofs.Places.{
  key_of,
  codes,
  Downward,
  before_downward,
  flat_downward,
  UpDownBy,
  up_down_by,
  flat_up_down,
  trail_rows,
  after_all_along,
  way_visit,
  trail_way,
  trail_up_down,
}

-- How weights grow along rows.
-- Every row takes at most t seconds, and counts for 1 to c edges.
pub record Within (N : Network) (ss : List Row) (t c : ℕ) : Type 0 where
  pub short : (r : ℕ) → r < rows N ss → (row N ss r).length ≤ t
  pub some : (r : ℕ) → r < rows N ss → 1 ≤ (row N ss r).count
  pub few : (r : ℕ) → r < rows N ss → (row N ss r).count ≤ c

pub rows_within : {N : Network} {ss : List Row} → Sound N → SoundTable N ss → Within N ss 33488385 511
rows_within sound table = record {
  short = λ r l. (row_fine sound table r l).short;
  some = λ r l. (row_fine sound table r l).some;
  few = λ r l. (row_fine sound table r l).few;
}

-- n such rows lead from the weight w to the weight w'
pub record Grown (t c n : ℕ) (w w' : Weight) : Type 0 where
  pub time_bound : w'.time ≤ w.time + n * t
  pub edges_bound : w'.edges ≤ w.edges + n * c
  pub edges_more : w.edges + n ≤ w'.edges

module _ {N : Network} {ss : List Row} {t c : ℕ} (within : Within N ss t c) where
  pub along_grown : (rs : List ℕ) → AllBelow (rows N ss) rs → (w : Weight) → Grown t c (length rs) w (along N ss w rs)
  along_grown [] h w = record { time_bound = omega arith; edges_bound = omega arith; edges_more = omega arith }
  along_grown (r ∷ rs) h w =
      let x = cost (row N ss r) in
      let g = along_grown rs h.1 (w ⊕ x) in
      record {
        time_bound = omega (arith, g.time_bound, ⊕-time w x, within.short r h.0);
        edges_bound = omega (arith, g.edges_bound, ⊕-edges w x, within.few r h.0);
        edges_more = omega (arith, g.edges_more, ⊕-edges w x, within.some r h.0);
      }

  -- so does a walk
  pub trail_grown : {S : Sheet} {Down : ℕ → ℕ → Type 0} {from to p q : ℕ} {rs : List ℕ} → Trail (search_graph N ss S Down from to) p q rs
      → Grown t c (length rs) zero_weight (after_all (search_graph N ss S Down from to) zero_weight rs)
  trail_grown {S} {Down} {from} {to} {rs = rs} a =
      subst (Grown t c (length rs) zero_weight) (sym (after_all_along N ss S Down from to zero_weight rs))
      (along_grown rs (trail_rows a) zero_weight)

-- the number of edges, which each row raises
abbrev pub legs : Weight → ℕ
legs w = w.edges

module _ {N : Network} {ss : List Row} {S : Sheet} {Down : ℕ → ℕ → Type 0} {from to : ℕ} (sound : Sound N) (table : SoundTable N ss) where
  pub search_laws : from < nodes N → Laws (search_graph N ss S Down from to)
  search_laws inside = record {
    le_refl = λ a. ≼_refl;
    le_trans = λ a b c. ≼_trans;
    le_total = λ a b n. lighter-≼ (not-≼-lighter n);
    after_mono = λ a b r h. ≼-mono h ≼_refl;
    after_more = λ a r. ≼-less a (cost (row N ss r));
    tail_in = λ p r q a. let h = (row_fine sound table r a.move.row_in).tail_in in omega (arith, h, a.move.leaves);
    head_in = λ p r q a. let h = (row_fine sound table r a.move.row_in).head_in in omega (arith, h, a.move.arrives);
    start_in = λ p s. omega (arith, inside, s.here);
    fits = λ p q rs s t l h.
        omega (arith, ≼-time h, (trail_grown (rows_within sound table) t).time_bound, l, sound.sized.few_nodes);
  }

  pub search_costly : Costly (search_graph N ss S Down from to)
  search_costly = record {
    not_free = λ p r q a m h. omega (arith, ≼-time h, ⊕-time a (cost (row N ss r)), (row_fine sound table r m.move.row_in).lasts);
    after_cancel = λ a b r. ≼-cancel_r (cost (row N ss r)) a b;
  }

  pub search_counts : Counts (search_graph N ss S Down from to) legs
  search_counts = record {
    count_first = refl;
    count_more = λ p r q a m. omega (arith, ⊕-edges a (cost (row N ss r)), (row_fine sound table r m.move.row_in).some);
  }

-- how large a label is while the search runs, k places being settled
pub record LabelSmall (k : ℕ) (w : Weight) : Type 0 where
  pub few : k ≤ 8192
  pub time_small : w.time ≤ k * 33488385
  pub edges_small : w.edges ≤ k * 511

pub label_small : {N : Network} {ss : List Row} {S : Sheet} {Down : ℕ → ℕ → Type 0} {from to : ℕ} → Sound N → SoundTable N ss
    → {d : ℕ → Weight} {s pr pp : ℕ → ℕ} {k v : ℕ} → Greedy (search_graph N ss S Down from to) d s pr pp k
    → v < 16 * nodes N → Lighter (d v) none_yet → LabelSmall k (d v)
label_small sound table {d} {k = k} {v = v} g l h =
    let r = g.reached v l (λ a. ≼-not_lighter a h) in
    let b = subst (Grown 33488385 511 (length r.rows) zero_weight) r.weighs (trail_grown (rows_within sound table) (via_trail r.via)) in
    record {
      few = omega (arith, g.counted, sound.sized.few_nodes);
      time_small = omega (arith, b.time_bound, r.short);
      edges_small = omega (arith, b.edges_bound, r.short);
    }

-- the label on arrival fits its number types, and is there too
module _ {N : Network} {ss : List Row} (sound : Sound N) (table : SoundTable N ss) {k : ℕ} {w : Weight} (b : LabelSmall k w) where
  pub after_held : (r : ℕ) → r < rows N ss → Held (w ⊕ cost (row N ss r))
  after_held r l = record {
    time_held = omega (arith, b.few, b.time_small, ⊕-time w (cost (row N ss r)), (row_fine sound table r l).short);
    edges_held = omega (arith, b.few, b.edges_small, ⊕-edges w (cost (row N ss r)), (row_fine sound table r l).few);
  }

-- a walk from a start to a target
pub record Walk (N : Network) (ss : List Row) (S : Sheet) (Down : ℕ → ℕ → Type 0) (from to : ℕ) (rs : List ℕ) : Type 0 where
  pub p : ℕ
  pub q : ℕ
  pub starts : StartAt S from p
  pub targets : TargetAt S to q
  pub trail : Trail (search_graph N ss S Down from to) p q rs

-- the walks are those of P: the same rows
pub record Walks (N : Network) (ss : List Row) (S : Sheet) (Down : ℕ → ℕ → Type 0) (from to : ℕ) (P : List ℕ → Type 0) : Type 0 where
  pub from_walk : (rs : List ℕ) → Walk N ss S Down from to rs → P rs
  pub to_walk : (rs : List ℕ) → P rs → Walk N ss S Down from to rs

-- a journey that does not go up after it went down
pub record JourneyBy (N : Network) (ss : List Row) (S : Sheet) (Down : ℕ → ℕ → Type 0) (from to : ℕ) (rs : List ℕ) : Type 0 where
  pub journey : Journey N ss S from to rs
  pub up_down : UpDownBy Down N ss rs

module _ {N : Network} {ss : List Row} {S : Sheet} {Down : ℕ → ℕ → Type 0} {from to : ℕ} (downward : Downward N Down) where
  pub walk_journey : {rs : List ℕ} → Walk N ss S Down from to rs → JourneyBy N ss S Down from to rs
  walk_journey w = record {
    journey = record {
      start = state_of w.p;
      end = state_of w.q;
      start_state = w.starts.known;
      end_state = w.targets.known;
      initial = w.starts.initial;
      final = w.targets.final;
      way = trail_way w.trail from (state_of w.p) to (state_of w.q) w.starts.here refl w.targets.here refl;
    };
    up_down = (trail_up_down downward w.trail).0;
  }

  -- the walk of a journey goes through the places whose keys are the codes of its stops
  pub journey_walk : {rs : List ℕ} → Sound N → SoundTable N ss → Counted S → (j : JourneyBy N ss S Down from to rs)
      → (w : Walk N ss S Down from to rs) × Visit (search_graph N ss S Down from to) key_of w.p w.q rs (codes (stops j.journey.way))
  journey_walk {rs} sound table sheet j =
      let a : j.journey.start < 8 = omega (arith, j.journey.start_state, sheet.few_states) in
      let b : j.journey.end < 8 = omega (arith, j.journey.end_state, sheet.few_states) in
      let o = way_visit {from = from} sound table downward sheet j.journey.way a j.up_down in
      let e : state_of (place from j.journey.start 0) ≡ j.journey.start = omega arith in
      let l : o.end < 2 = o.small in
      let f : state_of (place to j.journey.end o.end) ≡ j.journey.end = omega arith in (
        record {
          p = place from j.journey.start 0;
          q = place to j.journey.end o.end;
          starts = record {
            here = omega arith;
            fresh = omega arith;
            known = subst (λ (x : ℕ). x < S.states) (sym e) j.journey.start_state;
            initial = subst (λ (x : ℕ). Initial S x) (sym e) j.journey.initial;
          };
          targets = record {
            here = omega arith;
            known = subst (λ (x : ℕ). x < S.states) (sym f) j.journey.end_state;
            final = subst (λ (x : ℕ). Final S x) (sym f) j.journey.final;
          };
          trail = visit_trail o.visit;
        },
        o.visit,
      )

-- at the order of contraction they are the up-down journeys
pub up_down_walks : {N : Network} {ss : List Row} {S : Sheet} {from to : ℕ} → Sound N → SoundTable N ss → Counted S
    → Walks N ss S (Before N.node_ranks) from to (UpDownJourney N ss S from to)
up_down_walks {N} {ss} sound table sheet = record {
  from_walk = λ rs w.
      let j = walk_journey (before_downward sound) w in
      record { journey = j.journey; up_down = subst (λ (X : Type 0). X) (sym (up_down_by N ss rs)) j.up_down };
  to_walk = λ rs j. (journey_walk (before_downward sound) sound table sheet
      (record { journey = j.journey; up_down = subst (λ (X : Type 0). X) (up_down_by N ss rs) j.up_down })).0;
}

-- and with every node read as core, all journeys over edges
pub plain_walks : {N : Network} {S : Sheet} {from to : ℕ} → Sound N → Counted S → Walks N [] S Flat from to (Journey N [] S from to)
plain_walks {N} sound sheet = record {
  from_walk = λ rs w. (walk_journey flat_downward w).journey;
  to_walk = λ rs j. (journey_walk flat_downward sound (no_table sound) sheet (record { journey = j; up_down = flat_up_down N [] rs })).0;
}

-- what is best among the walks is least among those of P
module _ {N : Network} {ss : List Row} {S : Sheet} {Down : ℕ → ℕ → Type 0} {from to : ℕ} {P : List ℕ → Type 0}
    (walks : Walks N ss S Down from to P) where
  pub best_least : {w : Weight} → Best (search_graph N ss S Down from to) w → Least N ss P w
  best_least {w} b = record {
    path = b.rows;
    allowed = walks.from_walk b.rows (record { p = b.from; q = b.to; starts = b.starts; targets = b.targets; trail = b.trail });
    weighs = sym (after_all_along N ss S Down from to zero_weight b.rows) ∙ b.weighs;
    none_lighter = λ rs j h.
        let k = walks.to_walk rs j in
        ≼-not_lighter (b.least k.p k.q rs k.starts k.targets k.trail)
        (subst (λ (x : Weight). Lighter x w) (sym (after_all_along N ss S Down from to zero_weight rs)) h);
  }

  pub nowhere_none : ((p q : ℕ) (rs : List ℕ) → StartAt S from p → TargetAt S to q → Trail (search_graph N ss S Down from to) p q rs → ⊥)
      → None P
  nowhere_none n = record { no_path = λ rs j. let k = walks.to_walk rs j in n k.p k.q rs k.starts k.targets k.trail }

-- No (node, state) pair need be met twice: a place of phase 0 can do all that the one of phase 1 can.
phase_turn : {Down : ℕ → ℕ → Type 0} {u x : ℕ} (p q : ℕ) → Phase Down u x (phase_of p) (phase_of q) → phase_of p ≤ phase_of q
phase_turn p q (level n a b) = omega arith
phase_turn p q (down d b) = omega arith

phase_lower : {Down : ℕ → ℕ → Type 0} {u x f f' : ℕ} (g : ℕ) → g ≤ f → Phase Down u x f f' → Phase Down u x g f'
phase_lower g l (level n a b) = level n (omega arith) b
phase_lower g l (down d b) = down d b

module _ (p p' : ℕ) (same : key_of p ≡ key_of p') where
  same_node : node_of p ≡ node_of p'
  same_node = omega (arith, same)

  same_state : state_of p ≡ state_of p'
  same_state = omega (arith, same)

  move_lower : {N : Network} {ss : List Row} {S : Sheet} {Down : ℕ → ℕ → Type 0} (r q : ℕ) → phase_of p ≤ phase_of p'
      → Move N ss S Down p' r q → Move N ss S Down p r q
  move_lower {N} {ss} {S} r q l m = record {
    row_in = m.row_in;
    leaves = m.leaves ∙ sym same_node;
    arrives = m.arrives;
    shift = subst (λ (x : ℕ). Shift S (row N ss r).mode x (state_of q)) (sym same_state) m.shift;
    phase = phase_lower (phase_of p) l m.phase;
  }

pub search_keyed : {N : Network} {ss : List Row} {S : Sheet} {Down : ℕ → ℕ → Type 0} {from to : ℕ}
    → Keyed (search_graph N ss S Down from to) (8 * nodes N) key_of phase_of
search_keyed {S = S} = record {
  key_in = λ p l. omega arith;
  turn_on = λ p r q a. phase_turn p q a.move.phase;
  same_arc = λ p p' r q e l a. record { move = move_lower p p' e r q l a.move; homeward = a.homeward };
  same_target = λ p p' e l t. record {
    here = same_node p p' e ∙ t.here;
    known = subst (λ (x : ℕ). x < S.states) (sym (same_state p p' e)) t.known;
    final = subst (λ (x : ℕ). Final S x) (sym (same_state p p' e)) t.final;
  };
}
