-- Bounds: "The best path repeats no (node, state) pair, so an answer has at most 4,095 edges and 268,365,825 seconds. (Over damaged but sound
-- rows: 4,095 rows, so 2,092,545 edges and 137,134,936,575 seconds.)"
use mathlib.Core.Path.{◌≡◌, ap, subst, subst₂, ◌∙◌}
use mathlib.Core.Logic.{⊎_elim}
use mathlib.Core.List.{List, [], ◌∷◌}
use Prim.Native.Nat.{ℕ, ◌*◌, ◌<◌, ◌≤◌}
use native.Mathlib.Nat.{mul-le-mul_right}
use native.Mathlib.Omega.{arith}
use native.Mathlib.Decide.{dec_lt}
use lib.ListN.{length}
use Rattle.network.specs.declared.answer.Answer.{Answer}
use Rattle.network.specs.declared.weight.Weight.{Weight}
use Rattle.network.specs.declared.rows.Row.{Row}
use Rattle.network.specs.Weight.{zero_weight, Lighter}
use Rattle.network.specs.Network.{Network, nodes, Sound}
use Rattle.network.specs.declared.sheet.Sheet.{Sheet}
use Rattle.network.specs.Sheet.{Counted}
use Rattle.network.specs.Rows.{Columns, SoundTable, table}
use Rattle.network.specs.Journey.{Way, stay, ride, change, weight, Journey, Least, Stop, stops, Absent, Unrepeated}
use Rattle.network.specs.Answers.{shown}
use Rattle.network.proofs.WeightLaws.{not-≼-lighter}
use Rattle.network.proofs.RowLaws.{row_fine}
use Rattle.network.proofs.Pigeonhole.{Distinct, and}
use Rattle.network.proofs.Pigeonhole
use Rattle.search.specs.UpDown.{UpDownJourney}
use Rattle.search.specs.Graph.{after_all}
use Rattle.search.specs.Places.{search_graph}
use Rattle.search.specs.Orders.{rows_order}
use Rattle.search.specs.Answers.{told, Sought, no_journey, no_room, found, Answered, refuses, searches}
use Rattle.search.proofs.Simple.{simple_or_lightened, visit_short}
use Rattle.search.proofs.Places.{code, codes, Downward, before_downward, after_all_along, trail_rows}
use Rattle.search.proofs.Searches.{
  Within,
  rows_within,
  Grown,
  along_grown,
  Walks,
  walk_journey,
  journey_walk,
  up_down_walks,
  search_laws,
  search_costly,
  search_keyed,
}
use Rattle.search.proofs.LegLaws.{rows_ready}

-- stops of different codes are different
absent_code : (x : Stop) (xs : List Stop) → Pigeonhole.Absent (code x) (codes xs) → Absent x xs
absent_code x [] h = tt
absent_code x (y ∷ ys) h = (λ e. h.0 (ap code e), absent_code x ys h.1)

distinct_codes : (xs : List Stop) → Distinct (codes xs) → Unrepeated xs
distinct_codes [] d = tt
distinct_codes (x ∷ xs) (and h d) = (absent_code x xs h, distinct_codes xs d)

-- a way from beyond the nodes goes nowhere
stuck : {N : Network} {ss : List Row} {S : Sheet} {u q v j : ℕ} {rs : List ℕ} → Sound N → SoundTable N ss → nodes N ≤ u
    → (w : Way N ss S u q v j rs) → Unrepeated (stops w) × (length rs ≤ 4095)
unfolding stops
stuck sound table h (stay a b) = ((tt, tt), omega arith)
stuck sound table h (ride {r = r} l a b m c w) = absurd (omega (arith, (row_fine sound table r l).tail_in))
stuck sound table h (change {r = r} l a b m c k w) = absurd (omega (arith, (row_fine sound table r l).tail_in))

-- what is said of the least paths among those of P, whose weight is w
pub record LeastBounds (N : Network) (ss : List Row) (S : Sheet) (from to : ℕ) (P : List ℕ → Type 0) (seconds edges : ℕ) (w : Weight)
    : Type 0 where
  pub few_seconds : w.time ≤ seconds
  pub few_edges : w.edges ≤ edges
  pub each_unrepeated : (rs : List ℕ) → P rs → weight N ss rs ≡ w → (j : Journey N ss S from to rs) → Unrepeated (stops j.way)
  pub each_few : (rs : List ℕ) → P rs → weight N ss rs ≡ w → length rs ≤ 4095

module _ {N : Network} {ss : List Row} {S : Sheet} {Down : ℕ → ℕ → Type 0} {from to : ℕ} {P : List ℕ → Type 0} (sound : Sound N)
    (table : SoundTable N ss) (sheet : Counted S) (downward : Downward N Down) (walks : Walks N ss S Down from to P) where
  -- a least one repeats no stop, through whatever states it goes: without the repetition it would be lighter
  least_unrepeated : {w : Weight} → Least N ss P w → (rs : List ℕ) → P rs → weight N ss rs ≡ w → (j : Journey N ss S from to rs)
      → Unrepeated (stops j.way) × (length rs ≤ 4095)
  least_unrepeated {w} b rs p e j = go (dec_lt from (nodes N))
    where
      along_graph : (rs : List ℕ) → after_all (search_graph N ss S Down from to) zero_weight rs ≡ weight N ss rs
      along_graph rs = after_all_along N ss S Down from to zero_weight rs

      go : Dec (from < nodes N) → Unrepeated (stops j.way) × (length rs ≤ 4095)
      go (yes l) =
          let laws = search_laws sound table l in
          let k = journey_walk downward sound table sheet (record { journey = j; up_down = (walk_journey downward (walks.to_walk rs p)).up_down }) in
          ⊎_elim
          (λ d. (
            distinct_codes (stops j.way) d,
            omega (arith, visit_short laws search_keyed k.1 (laws.start_in k.0.p k.0.starts) d, sound.sized.few_nodes),
          ))
          (λ o. absurd (b.none_lighter o.rows
          (walks.from_walk o.rows
          (record { p = k.0.p; q = o.to; starts = k.0.starts; targets = o.targets; trail = o.trail }))
          (subst₂ Lighter (along_graph o.rows) (along_graph rs ∙ e) (not-≼-lighter (o.lighter zero_weight)))))
          (simple_or_lightened laws search_keyed (search_costly sound table) k.1 k.0.targets)
      go (no n) = stuck sound table (omega arith) j.way

  -- so its weight is bounded by what rows cost
  pub least_bounds : {t c : ℕ} → Within N ss t c → (seconds edges : ℕ) → 4095 * t ≤ seconds → 4095 * c ≤ edges → {w : Weight} → Least N ss P w
      → LeastBounds N ss S from to P seconds edges w
  least_bounds {t} {c} within seconds edges m n {w} b = record {
    few_seconds = omega (arith, grown.time_bound, mul-le-mul_right t few, m);
    few_edges = omega (arith, grown.edges_bound, mul-le-mul_right c few, n);
    each_unrepeated = λ rs p e j. (least_unrepeated b rs p e j).0;
    each_few = each;
  }
    where
      each : (rs : List ℕ) → P rs → weight N ss rs ≡ w → length rs ≤ 4095
      each rs p e = (least_unrepeated b rs p e (walk_journey downward (walks.to_walk rs p)).journey).1

      few : length b.path ≤ 4095
      few = each b.path b.allowed b.weighs

      grown : Grown t c (length b.path) zero_weight w
      grown = subst (Grown t c (length b.path) zero_weight) b.weighs
          (along_grown within b.path (trail_rows (walks.to_walk b.path b.allowed).trail) zero_weight)

-- "4,095 rows, so 2,092,545 edges and 137,134,936,575 seconds"
pub up_down_bounds : {N : Network} {ss : List Row} {S : Sheet} {from to : ℕ} {w : Weight} → Sound N → SoundTable N ss → Counted S
    → Least N ss (UpDownJourney N ss S from to) w → LeastBounds N ss S from to (UpDownJourney N ss S from to) 137134936575 2092545 w
up_down_bounds sound table sheet =
    least_bounds sound table sheet (before_downward sound) (up_down_walks sound table sheet) (rows_within sound table) 137134936575 2092545
    (omega arith) (omega arith)

-- the same of what `search_rows` answers and writes, as it promises it
pub record FewWritten (a : Answer) (written : ℕ) : Type 0 where
  pub few_rows : written ≤ 4095
  pub few_edges : a.count ≤ 2092545
  pub few_seconds : a.time ≤ 137134936575

nothing_written : {a : Answer} {number place written : ℕ} → a ≡ shown number place → written ≡ 0 → FewWritten a written
nothing_written e w = record {
  few_rows = omega arith;
  few_edges = omega (arith, ap (λ (x : Answer). x.count) e);
  few_seconds = omega (arith, ap (λ (x : Answer). x.time) e);
}

module _ {N : Network} {ss : List Row} {S : Sheet} {from to : ℕ} where
  told_few : {a : Answer} {number written : ℕ} {w : Weight} → a ≡ told number w → written ≤ 4095
      → LeastBounds N ss S from to (UpDownJourney N ss S from to) 137134936575 2092545 w → FewWritten a written
  told_few e l b = record {
    few_rows = l;
    few_edges = omega (arith, ap (λ (x : Answer). x.count) e, b.few_edges);
    few_seconds = omega (arith, ap (λ (x : Answer). x.time) e, b.few_seconds);
  }

  sought_few : {journey journey' : List ℕ} {a : Answer} {written : ℕ} → Sound N → SoundTable N ss → Counted S
      → Sought N ss (UpDownJourney N ss S from to) journey journey' a written → FewWritten a written
  sought_few sound table sheet (no_journey n e w j) = nothing_written e w
  sought_few sound table sheet (no_room l h e w j) = told_few e (omega arith) (up_down_bounds sound table sheet l)
  sought_few sound table sheet (found {legs = legs} l h e p s w j) =
      let b = up_down_bounds sound table sheet l in told_few e (omega (arith, w, b.each_few legs p s)) b

pub few_rows_written : {N : Network} {T : Columns} {S : Sheet} {from to : ℕ} {journey journey' wide wide' narrow narrow' : List ℕ} {a : Answer}
    {written : ℕ}
    → Answered (rows_order N T S from to (length wide) (length narrow)) N (table T) (UpDownJourney N (table T) S from to) journey journey'
    wide wide' narrow narrow' a written
    → FewWritten a written
few_rows_written (refuses r e w j u) = nothing_written e w
few_rows_written {N} {T} {S} {from} {to} {wide = wide} {narrow = narrow} (searches q s z) =
    let r = rows_ready {N = N} {T = T} {S = S} {from = from} {to = to} {w = length wide} {n = length narrow} q in
    sought_few r.table_sound.sound r.table_sound.sound_table r.sheet.counted s
