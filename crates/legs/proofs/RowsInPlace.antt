-- The rows of a journey are opened in place, from the last to the first: the first i rows still stand in front when the legs of those behind them
-- are written, since no row has fewer edges than one. So the search over rows becomes the contracted search.
use mathlib.Core.Path.{◌≡◌, refl, sym, ap, ap₂, subst, ◌∙◌}
use mathlib.Core.List.{List, [], ◌∷◌, ◌++◌, append_assoc, append-nil}
use Prim.Native.Nat.{ℕ, zero, suc, ◌+◌, ◌-◌, ◌<◌, ◌≤◌}
use native.Mathlib.Omega.{arith}
use lib.ListN.{length, get_or, take, drop, length-append, length-take, length-drop, take-append-drop, drop_of_length-le, get_or-append}
use lib.Seq.{length-take-le, take_all, take-suc, drop-cons, take-append-le, take-append_seam, drop-append-add, get_or-take}
use lib.Seq.{take-take, drop-drop, drop_at}
use Rattle.network.specs.declared.answer.Answer.{Answer}
use Rattle.network.specs.declared.weight.Weight.{Weight}
use Rattle.network.specs.declared.rows.Row.{Row}
use Rattle.network.specs.Network.{Network, edges, Sound}
use Rattle.network.specs.declared.sheet.Sheet.{Sheet}
use Rattle.network.specs.Rows.{Columns, rows, table, SoundTable}
use Rattle.network.specs.Journey.{weight, Journey, Least}
use Rattle.network.specs.Refusal.{Refused, Passed}
use Rattle.network.specs.Answers.{row_read}
use Rattle.network.proofs.RowLaws.{read_row, row_fine}
use Rattle.network.proofs.Pigeonhole.{AllBelow}
use Rattle.search.specs.UpDown.{UpDownJourney}
use Rattle.search.specs.Orders.{rows_order}
use Rattle.columns.specs.Rooms.{Zeroed}
use Rattle.search.specs.Answers.{told, no_journey, no_room, found, Answered, refuses, searches}
use Rattle.search.specs.Steps.{Table}
use Rattle.search.proofs.RefusalLaws.{refused_avoids}
use Rattle.search.proofs.LegLaws.{rows_ready}
use Rattle.legs.specs.Opening.{opened, opened_all}
use Rattle.legs.specs.Steps.{legs, RowFits, Written}
use Rattle.legs.specs.Answers.{Contracted}
use Rattle.legs.specs.Answers
use Rattle.legs.specs.InPlace.{RowsStand, RowFitsBefore, LegsBefore}
use Rattle.legs.proofs.OpeningLaws.{opened_length, way_rows, OpensJourney, opened_journey}
use Rattle.legs.proofs.Openings.{row_fits, opened_written}

-- one row -----------------------------------------------------------------------------------------------------------------------------------------

-- the row x is the one at i, and its legs are written from `begin` on
module _ {N : Network} {T : Columns} {i end : ℕ} {journey : List ℕ} (f : RowFitsBefore N T i end journey) {x : Row}
    (ex : x ≡ row_read N T (get_or journey i 0)) where
  abbrev r : ℕ
  r = get_or journey i 0

  legs_counted : length (opened N (table T) r) ≡ x.count
  legs_counted = opened_length f.sound_table r f.there ∙ sym (ap (λ (y : Row). y.count) (ex ∙ read_row f.even N r))

  pub count_inside : x.count ≤ end
  count_inside = omega (arith, f.room_enough, ap (λ (y : Row). y.count) (ex ∙ read_row f.even N r))

  module _ {begin k : ℕ} (eb : begin ≡ end - x.count) (ek : k ≡ length journey - begin) where
    pub row_fits_behind : RowFits (edges N) T.firsts T.seconds r (length (take k (drop begin journey)))
    row_fits_behind = row_fits f.even N r f.sound_table f.there (omega (
      arith,
      f.inside,
      count_inside,
      ap (λ (y : Row). y.count) (ex ∙ read_row f.even N r),
      length-take k (drop begin journey),
      length-drop begin journey,
    ))

    pub legs_before : {n : ℕ} {part : List ℕ} → Written (legs (edges N) T.firsts T.seconds r) (take k (drop begin journey)) n part
        → LegsBefore N (table T) r end journey begin (take begin journey ++ (part ++ drop k (drop begin journey)))
    legs_before {n} {part} w = record { begins = ends; holds = whole }
      where
        o : Written (opened N (table T) r) (take k (drop begin journey)) n part
        o = opened_written f.even N r w

        ends : begin + length (opened N (table T) r) ≡ end
        ends = omega (arith, legs_counted, count_inside, eb)

        all : length (drop begin journey) ≤ k
        all = omega (arith, ek, length-drop begin journey)

        at : begin + n ≡ end
        at = omega (arith, ends, o.counted)

        whole : take begin journey ++ (part ++ drop k (drop begin journey)) ≡ take begin journey ++ (opened N (table T) r ++ drop end journey)
        whole =
            rw (o.holds, take_all k (drop begin journey) all, drop_of_length-le (drop begin journey) all, append-nil, drop-drop n begin journey, at)
            refl

-- all rows ----------------------------------------------------------------------------------------------------------------------------------------

opened_append : (N : Network) (ss : List Row) (xs ys : List ℕ) → opened_all N ss (xs ++ ys) ≡ opened_all N ss xs ++ opened_all N ss ys
opened_append N ss [] ys = refl
opened_append N ss (x ∷ xs) ys =
    ap (λ (l : List ℕ). opened N ss x ++ l) (opened_append N ss xs ys) ∙ sym (append_assoc (opened N ss x) (opened_all N ss xs) (opened_all N ss ys))

-- each row has a leg at least
opened_more : {N : Network} {ss : List Row} → Sound N → SoundTable N ss → (rs : List ℕ) → ((k : ℕ) → k < length rs → get_or rs k 0 < rows N ss)
    → length rs ≤ length (opened_all N ss rs)
opened_more s t [] f = omega arith
opened_more {N} {ss} s t (r ∷ rs) f =
    let l : r < rows N ss = f zero (omega arith) in
    omega (
      arith,
      opened_more s t rs (λ k h. f (suc k) (omega arith)),
      length-append (opened N ss r) (opened_all N ss rs),
      opened_length t r l,
      (row_fine s t r l).some,
    )

-- the first i rows are left to open; the legs of those behind them stand from `end` on
pub record LeftToOpen (N : Network) (ss : List Row) (written count : ℕ) (journey₀ journey : List ℕ) (i end : ℕ) : Type 0 where
  pub within : i ≤ written
  pub size : length journey ≡ length journey₀
  pub ends : end ≡ length (opened_all N ss (take i journey₀))
  pub front : take i journey ≡ take i journey₀
  pub behind : drop end journey ≡ opened_all N ss (drop i (take written journey₀)) ++ drop count journey₀

module _ {N : Network} {T : Columns} {written count : ℕ} {journey₀ : List ℕ} (s : RowsStand N T written count journey₀) where
  -- a turn: the row at j is opened, from `begin` on
  module _ {journey : List ℕ} {j end : ℕ} (o : LeftToOpen N (table T) written count journey₀ journey (suc j) end) where
    here : get_or journey j 0 ≡ get_or journey₀ j 0
    here =
        sym (get_or-take (suc j) journey j 0 (omega arith)) ∙ ap (λ (l : List ℕ). get_or l j 0) o.front ∙ get_or-take (suc j) journey₀ j 0 (omega arith)

    stands₀ : j < length journey₀
    stands₀ = omega (arith, o.within, s.inside)

    there : get_or journey j 0 < rows N (table T)
    there = subst (λ (r : ℕ). r < rows N (table T)) (sym here) (s.there j (omega (arith, o.within)))

    -- the legs up to row j, and those of row j
    upto : length (opened_all N (table T) (take (suc j) journey₀))
        ≡ length (opened_all N (table T) (take j journey₀)) + length (opened N (table T) (get_or journey j 0))
    upto =
        ap (λ (l : List ℕ). length (opened_all N (table T) l)) (take-suc journey₀ j 0 stands₀)
        ∙ ap length (opened_append N (table T) (take j journey₀) (get_or journey₀ j 0 ∷ []))
        ∙ length-append (opened_all N (table T) (take j journey₀)) (opened N (table T) (get_or journey₀ j 0) ++ [])
        ∙ ap (λ (l : List ℕ). length (opened_all N (table T) (take j journey₀)) + length l) (append-nil (opened N (table T) (get_or journey₀ j 0)))
        ∙ ap (λ (r : ℕ). length (opened_all N (table T) (take j journey₀)) + length (opened N (table T) r)) (sym here)

    -- the legs from row j on
    onward : opened_all N (table T) (drop j (take written journey₀))
        ≡ opened N (table T) (get_or journey j 0) ++ opened_all N (table T) (drop (suc j) (take written journey₀))
    onward =
        ap (opened_all N (table T))
        (drop-cons (take written journey₀) j 0 (omega (arith, o.within, s.inside, length-take written journey₀)))
        ∙ ap (λ (r : ℕ). opened N (table T) r ++ opened_all N (table T) (drop (suc j) (take written journey₀)))
        (get_or-take written journey₀ j 0 (omega (arith, o.within)) ∙ sym here)

    end_inside : end ≤ length journey
    end_inside = omega (
      arith,
      o.ends,
      o.size,
      s.counted,
      s.room_enough,
      ap (λ (l : List ℕ). length (opened_all N (table T) l)) (sym (take-append-drop (suc j) (take written journey₀))),
      ap (λ (l : List ℕ). length (opened_all N (table T) (l ++ drop (suc j) (take written journey₀))))
          (take-take (suc j) written journey₀ o.within),
      ap length (opened_append N (table T) (take (suc j) journey₀) (drop (suc j) (take written journey₀))),
      length-append (opened_all N (table T) (take (suc j) journey₀)) (opened_all N (table T) (drop (suc j) (take written journey₀))),
    )

    fits_at : RowFitsBefore N T j end journey
    fits_at = record {
      even = s.even;
      sound_table = s.sound_table;
      stands = omega (arith, stands₀, o.size);
      there = there;
      inside = end_inside;
      room_enough = omega (arith, upto, o.ends, opened_length s.sound_table (get_or journey j 0) there);
    }

    turn_at : {begin : ℕ} {journey' : List ℕ} → LegsBefore N (table T) (get_or journey j 0) end journey begin journey'
        → LeftToOpen N (table T) written count journey₀ journey' j begin
    turn_at {begin} {journey'} l = record {
      within = omega (arith, o.within);
      size = ap length l.holds ∙ omega (
        arith,
        end_inside,
        l.begins,
        o.size,
        length-append (take begin journey) (x ++ drop end journey),
        length-append x (drop end journey),
        length-drop end journey,
        long,
      );
      ends = ends;
      front = ap (take j) l.holds
          ∙ take-append-le j (take begin journey) (x ++ drop end journey) (omega (arith, reach, long))
          ∙ take-take j begin journey reach
          ∙ sym (take-take j (suc j) journey (omega arith))
          ∙ ap (take j) o.front
          ∙ take-take j (suc j) journey₀ (omega arith);
      behind = ap (drop begin) l.holds
          ∙ drop_at (take begin journey) (x ++ drop end journey) begin long
          ∙ ap (λ (y : List ℕ). x ++ y) o.behind
          ∙ sym (append_assoc x (opened_all N (table T) (drop (suc j) (take written journey₀))) (drop count journey₀))
          ∙ ap (λ (y : List ℕ). y ++ drop count journey₀) (sym onward);
    }
      where
        x : List ℕ
        x = opened N (table T) (get_or journey j 0)

        ends : begin ≡ length (opened_all N (table T) (take j journey₀))
        ends = omega (arith, l.begins, o.ends, upto)

        long : length (take begin journey) ≡ begin
        long = length-take-le begin journey (omega (arith, l.begins, end_inside))

        reach : j ≤ begin
        reach = omega (
          arith,
          ends,
          length-take-le j journey₀ (omega (arith, stands₀)),
          opened_more s.sound s.sound_table (take j journey₀) (λ k h. subst (λ (r : ℕ). r < rows N (table T))
              (sym (get_or-take j journey₀ k 0 (omega (arith, h, length-take j journey₀))))
              (s.there k (omega (arith, h, length-take j journey₀, o.within)))),
        )

  pub open_fits : {journey : List ℕ} (i : ℕ) {end : ℕ} → LeftToOpen N (table T) written count journey₀ journey i end → 0 < i
      → RowFitsBefore N T (i - 1) end journey
  open_fits zero o l = absurd (omega arith)
  open_fits {journey} (suc j) {end} o l =
      let z : suc j - 1 ≡ j = omega arith in subst (λ (k : ℕ). RowFitsBefore N T k end journey) (sym z) (fits_at o)

  pub open_turn : {journey : List ℕ} (i : ℕ) {end begin : ℕ} {journey' : List ℕ} → LeftToOpen N (table T) written count journey₀ journey i end
      → 0 < i → LegsBefore N (table T) (get_or journey (i - 1) 0) end journey begin journey'
      → LeftToOpen N (table T) written count journey₀ journey' (i - 1) begin
  open_turn zero o l b = absurd (omega arith)
  open_turn {journey} (suc j) {end} {begin} {journey'} o l b =
      let z : suc j - 1 ≡ j = omega arith in
      subst (λ (k : ℕ). LeftToOpen N (table T) written count journey₀ journey' k begin) (sym z)
      (turn_at o (subst (λ (k : ℕ). LegsBefore N (table T) (get_or journey k 0) end journey begin journey') z b))

-- the search over rows, and its rows opened -------------------------------------------------------------------------------------------------------

below_at : (n : ℕ) (rs : List ℕ) → AllBelow n rs → (k : ℕ) → k < length rs → get_or rs k 0 < n
below_at n [] a k l = absurd (omega arith)
below_at n (r ∷ rs) a zero l = a.0
below_at n (r ∷ rs) a (suc k) l = below_at n rs a.1 k (omega arith)

-- a journey has no more rows than edges
pub rows_fewer : {N : Network} {ss : List Row} {S : Sheet} {from to : ℕ} {rs : List ℕ} → Sound N → SoundTable N ss → Journey N ss S from to rs
    → length rs ≤ (weight N ss rs).edges
rows_fewer {N} {ss} {rs = rs} s t j =
    omega (arith, opened_more s t rs (below_at (rows N ss) rs (way_rows j.way)), (opened_journey s t j).as_many)

-- behind what was written to the front, the room is as it was
behind_front : (xs ys : List ℕ) (m : ℕ) → length xs ≤ m → drop m (xs ++ drop (length xs) ys) ≡ drop m ys
behind_front xs ys m l =
    let z : length xs + (m - length xs) ≡ m = omega arith in
    subst (λ (k : ℕ). drop k (xs ++ drop (length xs) ys) ≡ drop k ys) z
    (drop-append-add xs (drop (length xs) ys) (m - length xs) ∙ drop-drop (m - length xs) (length xs) ys)

-- no refusal has the number 0
pub refused_not_zero : (N : Network) (T : Columns) (S : Sheet) (from to wide narrow n p : ℕ) → Refused (rows_order N T S from to wide narrow) n p
    → n ≡ 0 → ⊥
refused_not_zero N T S from to wide narrow n p = refused_avoids (rows_order N T S from to wide narrow) 0 n p (
  (λ d. omega arith),
  (
    (λ d. omega arith),
    ((λ d. omega arith), ((λ d. omega arith), ((λ d. omega arith), ((λ d. omega arith), ((λ d. omega arith), ((λ d. omega arith), tt)))))),
  ),
)

-- where every rule is kept, the network and the rows are accepted
pub rows_accepted : (N : Network) (T : Columns) (S : Sheet) (from to wide narrow : ℕ) → Passed (rows_order N T S from to wide narrow) → Table N T
rows_accepted N T S from to wide narrow q =
    (rows_ready {N = N} {T = T} {S = S} {from = from} {to = to} {w = wide} {n = narrow} q).table_sound

-- the search over rows found the rows rs of weight w
record FoundRows (N : Network) (T : Columns) (S : Sheet) (from to : ℕ) (journey journey' wide wide' narrow narrow' : List ℕ) (a : Answer)
    (written : ℕ) : Type 0 where
  w : Weight
  rs : List ℕ
  passed : Passed (rows_order N T S from to (length wide) (length narrow))
  least : Least N (table T) (UpDownJourney N (table T) S from to) w
  fits : w.edges ≤ length journey
  tells : a ≡ told 0 w
  path : UpDownJourney N (table T) S from to rs
  weighs : weight N (table T) rs ≡ w
  as_written : written ≡ length rs
  holds : journey' ≡ rs ++ drop (length rs) journey
  zeroed : Zeroed wide wide' narrow narrow'

-- what the search over rows promises
abbrev Searched : Network → Columns → Sheet → (from to : ℕ) (journey journey' wide wide' narrow narrow' : List ℕ) → Answer → ℕ → Type 0
Searched N T S from to journey journey' wide wide' narrow narrow' a written =
    Answered (rows_order N T S from to (length wide) (length narrow)) N (table T) (UpDownJourney N (table T) S from to) journey journey' wide wide'
    narrow narrow' a written

module _ {N : Network} {T : Columns} {S : Sheet} {from to : ℕ} {journey journey' wide wide' narrow narrow' : List ℕ} {a : Answer} {written : ℕ} where
  module _ (f : FoundRows N T S from to journey journey' wide wide' narrow narrow' a written) where
    accepted : Table N T
    accepted = rows_accepted N T S from to (length wide) (length narrow) f.passed

    abbrev legs_found : List ℕ
    legs_found = opened_all N (table T) f.rs

    opens : OpensJourney N (table T) S from to f.rs
    opens = opened_journey accepted.sound accepted.sound_table f.path.journey

    front_rows : take written journey' ≡ f.rs
    front_rows = ap₂ take f.as_written f.holds ∙ take-append_seam f.rs (drop (length f.rs) journey)

    as_many : length legs_found ≡ f.w.edges
    as_many = opens.as_many ∙ ap (λ (x : Weight). x.edges) f.weighs

    counted : a.count ≡ length legs_found
    counted = ap (λ (x : Answer). x.count) f.tells ∙ sym as_many

    below : (k : ℕ) → k < length f.rs → get_or f.rs k 0 < rows N (table T)
    below = below_at (rows N (table T)) f.rs (way_rows f.path.journey.way)

    fewer : length f.rs ≤ length legs_found
    fewer = omega (arith, rows_fewer accepted.sound accepted.sound_table f.path.journey, opens.as_many)

    same_size : length journey' ≡ length journey
    same_size = ap length f.holds ∙ omega (
      arith,
      fewer,
      as_many,
      f.fits,
      length-append f.rs (drop (length f.rs) journey),
      length-drop (length f.rs) journey,
    )

    found_stand : RowsStand N T written a.count journey'
    found_stand = record {
      sound = accepted.sound;
      even = accepted.even;
      sound_table = accepted.sound_table;
      inside = omega (arith, same_size, fewer, as_many, f.fits, f.as_written);
      there = λ k l.
          let h : k < length f.rs = omega (arith, l, f.as_written) in
          subst (λ (r : ℕ). r < rows N (table T))
          (sym (ap (λ (j : List ℕ). get_or j k 0) f.holds ∙ get_or-append f.rs (drop (length f.rs) journey) 0 k h)) (below k h);
      counted = counted ∙ ap (λ (l : List ℕ). length (opened_all N (table T) l)) (sym front_rows);
      room_enough = omega (arith, same_size, as_many, counted, f.fits);
    }

    found_opened : {journey'' : List ℕ} → journey'' ≡ opened_all N (table T) (take written journey') ++ drop a.count journey'
        → Contracted N T S from to journey journey'' wide wide' narrow narrow' a
    found_opened {journey''} e = Answers.searches f.passed
        (Answers.found f.least f.fits f.tells opens.journey (opens.same_weight ∙ f.weighs) as_many stand) f.zeroed
      where
        rest : drop a.count journey' ≡ drop (length legs_found) journey
        rest =
            ap (drop a.count) f.holds ∙ behind_front f.rs journey a.count (omega (arith, fewer, counted))
            ∙ ap (λ (k : ℕ). drop k journey) counted

        stand : journey'' ≡ legs_found ++ drop (length legs_found) journey
        stand = e ∙ ap₂ (λ (x y : List ℕ). opened_all N (table T) x ++ y) front_rows rest

  pub search_refused : Searched N T S from to journey journey' wide wide' narrow narrow' a written → (a.number ≡ 0 → ⊥)
      → Contracted N T S from to journey journey' wide wide' narrow narrow' a
  search_refused (refuses r e k j u) n = Answers.refuses r e j u
  search_refused (searches q (no_journey m e k j) z) n = Answers.searches q (Answers.no_journey m e j) z
  search_refused (searches q (no_room l h e k j) z) n = Answers.searches q (Answers.no_room l h e j) z
  search_refused (searches q (found l h e p s k j) z) n = absurd (n (ap (λ (x : Answer). x.number) e))

  found_rows : Searched N T S from to journey journey' wide wide' narrow narrow' a written → a.number ≡ 0
      → FoundRows N T S from to journey journey' wide wide' narrow narrow' a written
  found_rows (refuses {number = m} {place = p} r e k j u) z =
      absurd (refused_not_zero N T S from to (length wide) (length narrow) m p r (sym (ap (λ (x : Answer). x.number) e) ∙ z))
  found_rows (searches q (no_journey m e k j) y) z = absurd (omega (arith, ap (λ (x : Answer). x.number) e))
  found_rows (searches q (no_room l h e k j) y) z = absurd (omega (arith, ap (λ (x : Answer). x.number) e))
  found_rows (searches q (found {w = v} {legs = ls} l h e p s k j) y) z = record {
    w = v;
    rs = ls;
    passed = q;
    least = l;
    fits = h;
    tells = e;
    path = p;
    weighs = s;
    as_written = k;
    holds = j;
    zeroed = y;
  }

  pub search_stands : Searched N T S from to journey journey' wide wide' narrow narrow' a written → a.number ≡ 0
      → RowsStand N T written a.count journey'
  search_stands s z = found_stand (found_rows s z)

  pub search_opened : {journey'' : List ℕ} → Searched N T S from to journey journey' wide wide' narrow narrow' a written → a.number ≡ 0
      → journey'' ≡ opened_all N (table T) (take written journey') ++ drop a.count journey'
      → Contracted N T S from to journey journey'' wide wide' narrow narrow' a
  search_opened s z e = found_opened (found_rows s z) e
