-- What a row opens to: over sound rows the edges join its tail to its head, keep its mode and sum to its cost; so a way over rows opens to a way over
-- edges of the same weight.
use mathlib.Core.Path.{◌≡◌, refl, sym, ◌∙◌, ap, ap₂, subst, subst₂}
use mathlib.Core.Bool.{Bool, cond}
use mathlib.Core.List.{List, [], ◌∷◌, ◌++◌}
use Prim.Native.Nat.{ℕ, zero, suc, ◌+◌, ◌<◌, ◌≤◌}
use native.Mathlib.Omega.{arith}
use native.Mathlib.Decide.{dec_lt}
use lib.ListN.{length, length-append}
use borrow.Author.Tests.{lt-ltb, le-ltb}
use Rattle.network.specs.declared.weight.Weight.{Weight}
use Rattle.network.specs.declared.rows.Row.{Row}
use Rattle.network.specs.Weight.{zero_weight, ◌⊕◌}
use Rattle.network.specs.Network.{Network, edges, edge_tail, edge_head, edge_mode, Sound}
use Rattle.network.specs.declared.sheet.Sheet.{Sheet}
use Rattle.network.specs.Sheet.{MayRide}
use Rattle.network.specs.Rows.{edge_row, row, rows, cost, Joins, SoundRow, SoundTable}
use Rattle.network.specs.Journey.{Way, stay, ride, change, along, weight, Journey}
use Rattle.network.proofs.WeightLaws.{⊕-assoc, ⊕-edges}
use Rattle.network.proofs.RowLaws.{row_edge}
use Rattle.network.proofs.Pigeonhole.{AllBelow}
use Rattle.legs.specs.Opening.{opened_by, opened, opened_all}
use Rattle.legs.proofs.TableLaws.{EachSound, each_sound, link_edge}

-- ways
pub along_append : (N : Network) (ss : List Row) (w : Weight) (rs ps : List ℕ) → along N ss w (rs ++ ps) ≡ along N ss (along N ss w rs) ps
along_append N ss w [] ps = refl
along_append N ss w (r ∷ rs) ps = along_append N ss (w ⊕ cost (row N ss r)) rs ps

module _ {N : Network} {ss : List Row} {S : Sheet} where
  pub from_way : {u u' q q' v j : ℕ} {rs : List ℕ} → u ≡ u' → q ≡ q' → Way N ss S u' q' v j rs → Way N ss S u q v j rs
  from_way {v = v} {j = j} {rs = rs} e f p = rw (e, f) p

  pub join_way : {u q x i v j : ℕ} {rs ps : List ℕ} → Way N ss S u q x i rs → Way N ss S x i v j ps → Way N ss S u q v j (rs ++ ps)
  join_way (stay e f) p = from_way e f p
  join_way (ride l t h n m w) p = ride l t h n m (join_way w p)
  join_way (change l t h z m k w) p = change l t h z m k (join_way w p)

-- the same start, end and states by another way
pub other_way : {N : Network} {ss ss' : List Row} {S : Sheet} {from to : ℕ} {rs ps : List ℕ} (j : Journey N ss S from to rs)
    → Way N ss' S from j.start to j.end ps → Journey N ss' S from to ps
other_way j w = record {
  start = j.start;
  end = j.end;
  start_state = j.start_state;
  end_state = j.end_state;
  initial = j.initial;
  final = j.final;
  way = w;
}

-- edges of the mode m, one behind the other, from u to v
pub data Chain (N : Network) (m : ℕ) : (u v : ℕ) → List ℕ → Type 0 where
  none : {u v : ℕ} → u ≡ v → Chain N m u v []
  edge : {u x v e : ℕ} {es : List ℕ} → e < edges N → edge_tail N e ≡ u → edge_head N e ≡ x → edge_mode N e ≡ m → Chain N m x v es
      → Chain N m u v (e ∷ es)

chain_from : {N : Network} {m u u' v v' : ℕ} {es : List ℕ} → u ≡ u' → v ≡ v' → Chain N m u v es → Chain N m u' v' es
chain_from {N} {m} {es = es} e f c = subst₂ (λ y z. Chain N m y z es) e f c

chain_join : {N : Network} {m u x v : ℕ} {es fs : List ℕ} → Chain N m u x es → Chain N m x v fs → Chain N m u v (es ++ fs)
chain_join (none e) d = chain_from (sym e) refl d
chain_join (edge l t h o c) d = edge l t h o (chain_join c d)

-- a chain of rides is a way in one state
pub chain_way : {N : Network} {S : Sheet} {m u v q : ℕ} {es : List ℕ} → (m ≡ 0 → ⊥) → MayRide S q m → Chain N m u v es → Way N [] S u q v q es
chain_way n y (none e) = stay e refl
chain_way {N} {S} {m} {q = q} n y (edge {e = e} l t h o c) =
    let r : row N [] e ≡ edge_row N e = row_edge N [] e l in
    ride {r = e} (omega arith) (ap (λ x. x.tail) r ∙ t) (ap (λ x. x.head) r ∙ h)
    (λ z. n (sym o ∙ sym (ap (λ x. x.mode) r) ∙ z)) (subst (MayRide S q) (sym (ap (λ x. x.mode) r ∙ o)) y) (chain_way n y c)

-- what the numbered step of opening does
pub by_edge : (n : ℕ) (N : Network) (ss : List Row) (r : ℕ) → r < edges N → opened_by (suc n) N ss r ≡ r ∷ []
unfolding opened_by
by_edge n N ss r h =
    ap (λ (b : Bool). cond b (r ∷ []) (opened_by n N ss (row N ss r).first ++ opened_by n N ss (row N ss r).second)) (lt-ltb r (edges N) h)

pub by_pair : (n : ℕ) (N : Network) (ss : List Row) (r : ℕ) → edges N ≤ r
    → opened_by (suc n) N ss r ≡ opened_by n N ss (row N ss r).first ++ opened_by n N ss (row N ss r).second
unfolding opened_by
by_pair n N ss r h =
    ap (λ (b : Bool). cond b (r ∷ []) (opened_by n N ss (row N ss r).first ++ opened_by n N ss (row N ss r).second)) (le-ltb r (edges N) h)

-- an edge opens to itself
pub opened_edge : (N : Network) (ss : List Row) (r : ℕ) → r < edges N → opened N ss r ≡ r ∷ []
unfolding opened
opened_edge N ss r h = by_edge r N ss r h

-- row r is opened to the edges es
pub record Opened (N : Network) (ss : List Row) (r : ℕ) (es : List ℕ) : Type 0 where
  pub chain : Chain N (row N ss r).mode (row N ss r).tail (row N ss r).head es
  pub weighs : (w : Weight) → along N [] w es ≡ w ⊕ cost (row N ss r)
  pub as_many : length es ≡ (row N ss r).count

edge_opened : (N : Network) (ss : List Row) (r : ℕ) → r < edges N → Opened N ss r (r ∷ [])
edge_opened N ss r l =
    let e : row N ss r ≡ edge_row N r = row_edge N ss r l in
    record {
      chain = edge l (sym (ap (λ x. x.tail) e)) (sym (ap (λ x. x.head) e)) (sym (ap (λ x. x.mode) e)) (none refl);
      weighs = λ w. ap (λ x. w ⊕ cost x) (row_edge N [] r l ∙ sym e);
      as_many = sym (ap (λ x. x.count) e);
    }

pair_opened : {N : Network} {ss : List Row} {r : ℕ} {es fs : List ℕ} → SoundRow N ss r → Opened N ss (row N ss r).first es
    → Opened N ss (row N ss r).second fs → Opened N ss r (es ++ fs)
pair_opened {N} {ss} {r} {es} {fs} s f g = record {
  chain = chain_join (part j.ends_fit.starts refl j.one_mode.first_mode f.chain)
      (part (sym j.ends_fit.meets) j.ends_fit.ends j.one_mode.second_mode g.chain);
  weighs = λ w. along_append N [] w es fs
      ∙ ap (λ y. along N [] y fs) (f.weighs w)
      ∙ g.weighs (w ⊕ cost a)
      ∙ ⊕-assoc w (cost a) (cost b)
      ∙ ap (λ y. w ⊕ y) (sym j.adds_up.sums);
  as_many = omega (arith, length-append es fs, f.as_many, g.as_many, ap (λ y. y.edges) j.adds_up.sums, ⊕-edges (cost a) (cost b));
}
  where
    a : Row
    a = row N ss (row N ss r).first

    b : Row
    b = row N ss (row N ss r).second

    j : Joins N.node_ranks (row N ss r) (row N ss (row N ss r).first) (row N ss (row N ss r).second)
    j = s.joins

    part : {u v u' v' m m' : ℕ} {ps : List ℕ} → u ≡ u' → v ≡ v' → m ≡ m' → Chain N m u v ps → Chain N m' u' v' ps
    part {u' = u'} {v' = v'} {ps = ps} d e o c = subst (λ y. Chain N y u' v' ps) o (chain_from d e c)

-- over sound rows
module _ {N : Network} {ss : List Row} (t : EachSound N ss) where
  -- how much above the row the number is does not matter
  fuel : (n m r : ℕ) → r < n → r < m → r < rows N ss → opened_by n N ss r ≡ opened_by m N ss r
  fuel zero m r h k l = absurd (omega arith)
  fuel (suc n) zero r h k l = absurd (omega arith)
  fuel (suc n) (suc m) r h k l = go (dec_lt r (edges N)) (λ c d. fuel n m c (omega arith) (omega arith) (omega arith))
    where
      go : Dec (r < edges N) → ((c : ℕ) → c < r → opened_by n N ss c ≡ opened_by m N ss c) → opened_by (suc n) N ss r ≡ opened_by (suc m) N ss r
      go (yes e) ih = by_edge n N ss r e ∙ sym (by_edge m N ss r e)
      go (no e) ih =
          let s : SoundRow N ss r = t.each r (omega arith) l in
          by_pair n N ss r (omega arith) ∙ ap₂ ◌++◌ (ih _ s.first_lower) (ih _ s.second_lower) ∙ sym (by_pair m N ss r (omega arith))

  -- "an opened shortcut opens its two children"
  opened_children : (r : ℕ) → edges N ≤ r → r < rows N ss → opened N ss r ≡ opened N ss (row N ss r).first ++ opened N ss (row N ss r).second
  unfolding opened
  opened_children r h l =
      let s : SoundRow N ss r = t.each r h l in
      by_pair r N ss r h
      ∙ ap₂ ◌++◌
      (fuel r (suc (row N ss r).first) _ s.first_lower (omega arith) (omega (arith, s.first_lower)))
      (fuel r (suc (row N ss r).second) _ s.second_lower (omega arith) (omega (arith, s.second_lower)))

  opened_upto : (n r : ℕ) → r < n → r < rows N ss → Opened N ss r (opened N ss r)
  opened_upto zero r h l = absurd (omega arith)
  opened_upto (suc n) r h l = go (dec_lt r (edges N)) (λ c d. opened_upto n c (omega arith) (omega arith))
    where
      go : Dec (r < edges N) → ((c : ℕ) → c < r → Opened N ss c (opened N ss c)) → Opened N ss r (opened N ss r)
      go (yes e) ih = subst (Opened N ss r) (sym (opened_edge N ss r e)) (edge_opened N ss r e)
      go (no e) ih =
          let s : SoundRow N ss r = t.each r (omega arith) l in
          subst (Opened N ss r) (sym (opened_children r (omega arith) l)) (pair_opened s (ih _ s.first_lower) (ih _ s.second_lower))

  pub opened_as : (r : ℕ) → r < rows N ss → Opened N ss r (opened N ss r)
  opened_as r l = opened_upto (suc r) r (omega arith) l

pub opened_row : {N : Network} {ss : List Row} → SoundTable N ss → (r : ℕ) → r < rows N ss → Opened N ss r (opened N ss r)
opened_row t = opened_as (each_sound t)

pub opened_length : {N : Network} {ss : List Row} → SoundTable N ss → (r : ℕ) → r < rows N ss → length (opened N ss r) ≡ (row N ss r).count
opened_length t r l = (opened_row t r l).as_many

pub way_rows : {N : Network} {ss : List Row} {S : Sheet} {u q v j : ℕ} {rs : List ℕ} → Way N ss S u q v j rs → AllBelow (rows N ss) rs
way_rows (stay e f) = tt
way_rows (ride l t h n m p) = (l, way_rows p)
way_rows (change l t h z m k p) = (l, way_rows p)

module _ {N : Network} {ss : List Row} (t : EachSound N ss) where
  all_weigh : (w : Weight) (rs : List ℕ) → AllBelow (rows N ss) rs → along N [] w (opened_all N ss rs) ≡ along N ss w rs
  all_weigh w [] a = refl
  all_weigh w (r ∷ rs) a =
      along_append N [] w (opened N ss r) (opened_all N ss rs)
      ∙ ap (λ y. along N [] y (opened_all N ss rs)) ((opened_as t r a.0).weighs w)
      ∙ all_weigh (w ⊕ cost (row N ss r)) rs a.1

  all_count : (w : Weight) (rs : List ℕ) → AllBelow (rows N ss) rs → (along N ss w rs).edges ≡ w.edges + length (opened_all N ss rs)
  all_count w [] a = omega arith
  all_count w (r ∷ rs) a = omega (
    arith,
    all_count (w ⊕ cost (row N ss r)) rs a.1,
    ⊕-edges w (cost (row N ss r)),
    (opened_as t r a.0).as_many,
    length-append (opened N ss r) (opened_all N ss rs),
  )

  module _ (s : Sound N) (S : Sheet) where
    way_opens : {u q v j : ℕ} {rs : List ℕ} → Way N ss S u q v j rs → Way N [] S u q v j (opened_all N ss rs)
    way_opens (stay e f) = stay e f
    way_opens (ride {q = q} {r = r} l e f n m p) =
        join_way (from_way (sym e) refl (chain_way n m (opened_as t r l).chain)) (from_way f refl (way_opens p))
    way_opens (change {u = u} {q = q} {v = v} {j = j} {r = r} {rs = rs} l e f z m k p) =
        let l' : r < edges N = link_edge s t r l z in
        let o : row N [] r ≡ row N ss r = row_edge N [] r l' ∙ sym (row_edge N ss r l') in
        subst (λ es. Way N [] S u q v j (es ++ opened_all N ss rs)) (sym (opened_edge N ss r l'))
        (change (omega arith) (ap (λ x. x.tail) o ∙ e) (ap (λ x. x.head) o ∙ f) (ap (λ x. x.mode) o ∙ z) m k (way_opens p))

-- The edges of a way over rows, one row after the other, are a way between the same nodes and states, of the same weight, and as many as it says.
pub record Opens (N : Network) (ss : List Row) (S : Sheet) (u q v j : ℕ) (rs : List ℕ) : Type 0 where
  pub way : Way N [] S u q v j (opened_all N ss rs)
  pub same_weight : weight N [] (opened_all N ss rs) ≡ weight N ss rs
  pub as_many : length (opened_all N ss rs) ≡ (weight N ss rs).edges

pub way_opened : {N : Network} {ss : List Row} {S : Sheet} {u q v j : ℕ} {rs : List ℕ} → Sound N → EachSound N ss → Way N ss S u q v j rs
    → Opens N ss S u q v j rs
way_opened {S = S} {rs = rs} s t p = record {
  way = way_opens t s S p;
  same_weight = all_weigh t zero_weight rs (way_rows p);
  as_many = omega (arith, all_count t zero_weight rs (way_rows p));
}

-- a journey over rows opens to a journey over edges
pub record OpensJourney (N : Network) (ss : List Row) (S : Sheet) (from to : ℕ) (rs : List ℕ) : Type 0 where
  pub journey : Journey N [] S from to (opened_all N ss rs)
  pub same_weight : weight N [] (opened_all N ss rs) ≡ weight N ss rs
  pub as_many : length (opened_all N ss rs) ≡ (weight N ss rs).edges

pub journey_opened : {N : Network} {ss : List Row} {S : Sheet} {from to : ℕ} {rs : List ℕ} → Sound N → EachSound N ss → Journey N ss S from to rs
    → OpensJourney N ss S from to rs
journey_opened s t j =
    let o = way_opened s t j.way in
    record {
      journey = other_way j o.way;
      same_weight = o.same_weight;
      as_many = o.as_many;
    }

pub opened_journey : {N : Network} {ss : List Row} {S : Sheet} {from to : ℕ} {rs : List ℕ} → Sound N → SoundTable N ss → Journey N ss S from to rs
    → OpensJourney N ss S from to rs
opened_journey s t j = journey_opened s (each_sound t) j
