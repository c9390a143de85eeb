-- 01: "The best path repeats no (node, state) pair, so an answer has at most 4,095 edges and 268,365,825 seconds."
use mathlib.Core.Path.{◌≡◌, refl, sym, ap, subst}
use mathlib.Core.Logic.{◌⊎◌, inl, inr, ⊎_elim}
use mathlib.Core.List.{List, [], ◌∷◌}
use Prim.Native.Nat.{ℕ, ◌+◌, ◌*◌, ◌<◌, ◌≤◌}
use native.Mathlib.Omega.{arith}
use native.Mathlib.Decide.{dec_lt, ℕ_discrete}
use lib.ListN.{length}
use Rattle.network.specs.declared.weight.Weight.{Weight}
use Rattle.network.specs.declared.rows.Row.{Row}
use Rattle.network.specs.Weight.{zero_weight, ◌⊕◌, Lighter}
use Rattle.network.specs.Network.{Network, nodes, edges, Sound}
use Rattle.network.specs.declared.sheet.Sheet.{Sheet}
use Rattle.network.specs.Sheet.{Counted, SheetSound}
use Rattle.network.specs.Rows.{row, rows, cost, SoundTable}
use Rattle.network.specs.Journey.{Way, stay, ride, change, along, weight, Journey, Least, Stop, stops, Absent, Unrepeated}
use Rattle.network.proofs.WeightLaws.{
  ◌≼◌,
  ≼_refl,
  ≼_trans,
  ≼-mono,
  ≼-less,
  lighter_mono_r,
  lighter_more,
  lighter-≼-trans,
  ⊕-time,
  ⊕-edges,
}
use Rattle.network.proofs.RowLaws.{row_edge, row_fine, no_table}
use Rattle.network.proofs.Pigeonhole.{AllBelow, Distinct, no_more, and, pigeonhole}
use Rattle.network.proofs.Pigeonhole

-- the weight along rows, from one weight or another
module _ (N : Network) (ss : List Row) where
  pub along_mono : (rs : List ℕ) {a b : Weight} → a ≼ b → along N ss a rs ≼ along N ss b rs
  along_mono [] h = h
  along_mono (r ∷ rs) h = along_mono rs (≼-mono h ≼_refl)

  pub along_lighter : (rs : List ℕ) {a b : Weight} → Lighter a b → Lighter (along N ss a rs) (along N ss b rs)
  along_lighter [] h = h
  along_lighter (r ∷ rs) {a} {b} h = along_lighter rs (lighter_mono_r (cost (row N ss r)) a b h)

stop_known : (x y : Stop) → Dec (x ≡ y)
stop_known x y = go (ℕ_discrete x.node y.node) (ℕ_discrete x.state y.state)
  where
    go : Dec (x.node ≡ y.node) → Dec (x.state ≡ y.state) → Dec (x ≡ y)
    go (yes e) (yes f) = yes (λ i. record { node = e i; state = f i })
    go (yes e) (no n) = no (λ g. n (ap (λ z. z.state) g))
    go (no n) d = no (λ g. n (ap (λ z. z.node) g))

-- a stop as one number, and what keeps two apart
code : Stop → ℕ
code x = 8 * x.node + x.state

codes : List Stop → List ℕ
codes [] = []
codes (x ∷ xs) = code x ∷ codes xs

InStates : List Stop → Type 0
InStates [] = Unit {0}
InStates (x ∷ xs) = (x.state < 8) × InStates xs

codes_absent : (x : Stop) (xs : List Stop) → x.state < 8 → InStates xs → Absent x xs → Pigeonhole.Absent (code x) (codes xs)
unfolding code codes InStates
codes_absent x [] l k a = tt
codes_absent x (y ∷ ys) l k a = (
  λ e.
      let n : x.node ≡ y.node = omega arith in
      let s : x.state ≡ y.state = omega arith in
      a.0 (λ i. record { node = n i; state = s i }),
  codes_absent x ys l k.1 a.1,
)

codes_distinct : (xs : List Stop) → InStates xs → Unrepeated xs → Distinct (codes xs)
unfolding codes InStates
codes_distinct [] k d = no_more
codes_distinct (x ∷ xs) k d = and (codes_absent x xs k.0 k.1 d.0) (codes_distinct xs k.1 d.1)

-- the part of a way, whose rows were rs, that begins at the stop x
record Part (N : Network) (ss : List Row) (S : Sheet) (x : Stop) (v j : ℕ) (rs : List ℕ) : Type 0 where
  path : List ℕ
  way : Way N ss S x.node x.state v j path
  no_heavier : (w : Weight) → along N ss w path ≼ along N ss w rs

-- a way between the same stops that is lighter than the rows rs
record Better (N : Network) (ss : List Row) (S : Sheet) (u q v j : ℕ) (rs : List ℕ) : Type 0 where
  path : List ℕ
  way : Way N ss S u q v j path
  lighter : (w : Weight) → Lighter (along N ss w path) (along N ss w rs)

module _ {N : Network} {ss : List Row} {S : Sheet} where
  from_here : {x : Stop} {u q v j : ℕ} {rs : List ℕ} → x ≡ record { node = u; state = q } → Way N ss S u q v j rs → Part N ss S x v j rs
  from_here {x} {v = v} {j = j} {rs = rs} e w = record {
    path = rs;
    way = subst (λ (y : Stop). Way N ss S y.node y.state v j rs) (sym e) w;
    no_heavier = λ _. ≼_refl;
  }

  from_later : {x : Stop} {v j : ℕ} (r : ℕ) {rs : List ℕ} → Part N ss S x v j rs → Part N ss S x v j (r ∷ rs)
  from_later r p = record {
    path = p.path;
    way = p.way;
    no_heavier = λ w. ≼_trans (along_mono N ss p.path (≼-less w (cost (row N ss r)))) (p.no_heavier (w ⊕ cost (row N ss r)));
  }

  -- a stop is on a way, which can then be begun there, or it is not
  find : {u q v j : ℕ} {rs : List ℕ} (w : Way N ss S u q v j rs) (x : Stop) → Absent x (stops w) ⊎ Part N ss S x v j rs
  unfolding stops
  find (stay {u = u} {q = q} a b) x =
      elim (stop_known x (record { node = u; state = q })) [ yes e ↦ inr (from_here e (stay a b)) | no n ↦ inl (n, tt) ]
  find (ride {u = u} {q = q} {r = r} l a b m c w) x = elim (stop_known x (record { node = u; state = q })) [
    | yes e ↦ inr (from_here e (ride l a b m c w))
    | no n ↦ ⊎_elim (λ k. inl (n, k)) (λ p. inr (from_later r p)) (find w x)
  ]
  find (change {u = u} {q = q} {r = r} l a b m c k w) x = elim (stop_known x (record { node = u; state = q })) [
    | yes e ↦ inr (from_here e (change l a b m c k w))
    | no n ↦ ⊎_elim (λ k. inl (n, k)) (λ p. inr (from_later r p)) (find w x)
  ]

  module _ (sound : Sound N) (table : SoundTable N ss) where
    -- a way that comes back to where it began is lighter without the round
    without_round : {u q v j : ℕ} (r : ℕ) {rs : List ℕ} → r < rows N ss → Part N ss S (record { node = u; state = q }) v j rs → Better N ss S u q v j (r ∷ rs)
    without_round r l p = record {
      path = p.path;
      way = p.way;
      lighter = λ w. lighter-≼-trans
          (along_lighter N ss p.path (lighter_more w (cost (row N ss r)) (row_fine sound table r l).lasts))
          (p.no_heavier (w ⊕ cost (row N ss r)));
    }

    -- a way repeats no stop, or there is a lighter one
    unrepeated_or_better : {u q v j : ℕ} {rs : List ℕ} (w : Way N ss S u q v j rs) → Unrepeated (stops w) ⊎ Better N ss S u q v j rs
    unfolding stops
    unrepeated_or_better (stay a b) = inl (tt, tt)
    unrepeated_or_better (ride {u = u} {q = q} {r = r} l a b m c w) = ⊎_elim
        (λ d. ⊎_elim (λ k. inl (k, d)) (λ p. inr (without_round r l p)) (find w (record { node = u; state = q })))
        (λ o. inr (record { path = r ∷ o.path; way = ride l a b m c o.way; lighter = λ z. o.lighter (z ⊕ cost (row N ss r)) }))
        (unrepeated_or_better w)
    unrepeated_or_better (change {u = u} {q = q} {r = r} l a b m c k w) = ⊎_elim
        (λ d. ⊎_elim (λ k. inl (k, d)) (λ p. inr (without_round r l p)) (find w (record { node = u; state = q })))
        (λ o. inr (record { path = r ∷ o.path; way = change l a b m c k o.way; lighter = λ z. o.lighter (z ⊕ cost (row N ss r)) }))
        (unrepeated_or_better w)

    -- "The best path repeats no (node, state) pair"
    pub least_unrepeated : {from to : ℕ} {w : Weight} {rs : List ℕ} → Least N ss (Journey N ss S from to) w
        → (j : Journey N ss S from to rs) → weight N ss rs ≡ w → Unrepeated (stops j.way)
    least_unrepeated {w = w} b j e = ⊎_elim
        (λ d. d)
        (λ o. absurd (b.none_lighter o.path
        (record {
          start = j.start;
          end = j.end;
          start_state = j.start_state;
          end_state = j.end_state;
          initial = j.initial;
          final = j.final;
          way = o.way;
        })
        (subst (λ z. Lighter (weight N ss o.path) z) e (o.lighter zero_weight))))
        (unrepeated_or_better j.way)

    codes_length : {u q v j : ℕ} {rs : List ℕ} (w : Way N ss S u q v j rs) → length (codes (stops w)) ≡ length rs + 1
    unfolding stops codes
    codes_length (stay a b) = omega arith
    codes_length (ride l a b m c w) = omega (arith, codes_length w)
    codes_length (change l a b m c k w) = omega (arith, codes_length w)

    module _ (sheet : Counted S) where
      in_states : {u q v j : ℕ} {rs : List ℕ} (w : Way N ss S u q v j rs) → q < 8 → InStates (stops w)
      unfolding stops InStates
      in_states (stay a b) q8 = (q8, tt)
      in_states (ride l a b m c w) q8 = (q8, in_states w q8)
      in_states (change l a b m c k w) q8 = (q8, in_states w (omega (arith, sheet.few_states)))

      codes_below : {u q v j : ℕ} {rs : List ℕ} (w : Way N ss S u q v j rs) → q < 8 → u < nodes N → AllBelow (8 * nodes N) (codes (stops w))
      unfolding stops codes code
      codes_below (stay a b) q8 l = (omega arith, tt)
      codes_below (ride {r = r} h a b m c w) q8 l = (omega arith, codes_below w q8 (subst (λ z. z < nodes N) b (row_fine sound table r h).head_in))
      codes_below (change {r = r} h a b m c k w) q8 l =
          (omega arith, codes_below w (omega (arith, sheet.few_states)) (subst (λ z. z < nodes N) b (row_fine sound table r h).head_in))

      -- a way that repeats no stop has fewer rows than there are stops
      pub unrepeated_short : {u q v j : ℕ} {rs : List ℕ} (w : Way N ss S u q v j rs) → q < 8 → u < nodes N → Unrepeated (stops w) → length rs < 8 * nodes N
      unrepeated_short w q8 l d =
          omega (arith, codes_length w, pigeonhole (8 * nodes N) (codes (stops w)) (codes_below w q8 l) (codes_distinct (stops w) (in_states w q8) d))

-- a way from beyond the nodes goes nowhere
beyond_short : {N : Network} {ss : List Row} {S : Sheet} {u q v j : ℕ} {rs : List ℕ} → Sound N → SoundTable N ss → nodes N ≤ u
    → Way N ss S u q v j rs → length rs ≡ 0
beyond_short sound table h (stay a b) = refl
beyond_short sound table h (ride {r = r} l a b m c w) = absurd (omega (arith, (row_fine sound table r l).tail_in))
beyond_short sound table h (change {r = r} l a b m c k w) = absurd (omega (arith, (row_fine sound table r l).tail_in))

-- what the edges of a way add up to
module _ {N : Network} (sound : Sound N) where
  edge_cost : (r : ℕ) → r < rows N [] → ((row N [] r).length ≤ 65535) × ((row N [] r).count ≡ 1)
  edge_cost r l =
      let m : r < edges N = omega arith in (
        subst (λ (x : Row). x.length ≤ 65535) (sym (row_edge N [] r m)) (sound.edge_fine r m).short,
        ap (λ (x : Row). x.count) (row_edge N [] r m),
      )

  pub way_adds : {S : Sheet} {u q v j : ℕ} {rs : List ℕ} → Way N [] S u q v j rs → (w : Weight)
      → ((along N [] w rs).time ≤ w.time + length rs * 65535) × ((along N [] w rs).edges ≡ w.edges + length rs)
  way_adds (stay a b) w = (omega arith, omega arith)
  way_adds (ride {r = r} {rs = rs} l a b m c t) w =
      let h = way_adds t (w ⊕ cost (row N [] r)) in
      let e = edge_cost r l in
      (omega (arith, h.0, ⊕-time w (cost (row N [] r)), e.0), omega (arith, h.1, ⊕-edges w (cost (row N [] r)), e.1))
  way_adds (change {r = r} {rs = rs} l a b m c k t) w =
      let h = way_adds t (w ⊕ cost (row N [] r)) in
      let e = edge_cost r l in
      (omega (arith, h.0, ⊕-time w (cost (row N [] r)), e.0), omega (arith, h.1, ⊕-edges w (cost (row N [] r)), e.1))

-- what 01 says of a best path over the edges
pub record BestBounds (N : Network) (S : Sheet) (from to : ℕ) (w : Weight) : Type 0 where
  pub no_repeat : (rs : List ℕ) (j : Journey N [] S from to rs) → weight N [] rs ≡ w → Unrepeated (stops j.way)
  pub few_rows : (rs : List ℕ) → Journey N [] S from to rs → weight N [] rs ≡ w → length rs ≤ 4095
  pub few_edges : w.edges ≤ 4095
  pub few_seconds : w.time ≤ 268365825

pub best_bounds : {N : Network} {S : Sheet} {from to : ℕ} {w : Weight} → Sound N → SheetSound S → Least N [] (Journey N [] S from to) w
    → BestBounds N S from to w
best_bounds {N} {S} {from} {to} {w} sound sheet b = record {
  no_repeat = none;
  few_rows = few;
  few_edges = omega (arith, adds.1, ap (λ z. z.edges) b.weighs, few b.path b.allowed b.weighs);
  few_seconds = omega (arith, adds.0, ap (λ z. z.time) b.weighs, few b.path b.allowed b.weighs);
}
  where
    none : (rs : List ℕ) (j : Journey N [] S from to rs) → weight N [] rs ≡ w → Unrepeated (stops j.way)
    none rs j e = least_unrepeated sound (no_table sound) b j e

    short : (rs : List ℕ) (j : Journey N [] S from to rs) → Unrepeated (stops j.way) → Dec (from < nodes N) → length rs ≤ 4095
    short rs j d (yes l) =
        omega (
          arith,
          unrepeated_short sound (no_table sound) sheet.counted j.way (omega (arith, j.start_state, sheet.counted.few_states)) l d,
          sound.sized.few_nodes,
        )
    short rs j d (no n) = omega (arith, beyond_short sound (no_table sound) (omega arith) j.way)

    few : (rs : List ℕ) → Journey N [] S from to rs → weight N [] rs ≡ w → length rs ≤ 4095
    few rs j e = short rs j (none rs j e) (dec_lt from (nodes N))

    adds : ((weight N [] b.path).time ≤ 0 + length b.path * 65535) × ((weight N [] b.path).edges ≡ 0 + length b.path)
    adds = way_adds sound b.allowed.way zero_weight
