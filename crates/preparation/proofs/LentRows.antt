-- What the functions that write the lent rows rest on: rows that are appended one after the other, and rows that are zeroed.
use mathlib.Core.Path.{◌≡◌, refl, sym, ap, subst, ◌∙◌}
use mathlib.Core.List.{List, [], ◌∷◌, ◌++◌, append-nil, append_assoc}
use Prim.Native.Nat.{ℕ, zero, suc, ◌+◌, ◌-◌, ◌<◌, ◌≤◌, min}
use native.Mathlib.Omega.{arith}
use native.Mathlib.Decide.{dec_lt}
use lib.ListN.{length, get_or, take, replicate, length-append, length-replicate, length-take, length-set, get_or-append, get_or-replicate}
use lib.Seq.{length-take-le, take-take, take-append-le, get_or-append_right, ext_get_or}
use Rattle.network.specs.declared.rows.Row.{Row}
use Rattle.network.specs.Rows.{Columns, Even, no_row, shortcut, table}
use Rattle.network.proofs.RowLaws.{row-≡, table_length, table_at}
use Rattle.preparation.specs.Answers.{Holds}
use Rattle.network.specs.Lent.{front_columns}
use Rattle.preparation.specs.Preparing.{put_row, SameSize, row_told, mark_at, marked_rows, Appends, Overruns}
use Rattle.preparation.specs.Writing.{marked_row, zeroes_behind, zeroed_behind}
use Rattle.preparation.proofs.ColumnLaws.{front_even, table_front, put_even, front_more, columns_same}
use Rattle.preparation.proofs.MarkedRows.{row_marked}

-- as many rows ------------------------------------------------------------------------------------------------------------------------------------

pub same_size : {T : Columns} → Even T → SameSize T T
same_size v = record { was_even = v; even = v; size = refl }

pub size_trans : {T U W : Columns} → SameSize T U → SameSize U W → SameSize T W
size_trans a b = record { was_even = a.was_even; even = b.even; size = b.size ∙ a.size }

pub size_put : {T : Columns} → Even T → (i : ℕ) (x : Row) → SameSize T (put_row T i x)
size_put {T} v i x = record { was_even = v; even = put_even v i x; size = length-set T.tails i x.tail }

-- rows that are appended ---------------------------------------------------------------------------------------------------------------------------

pub appended_none : {T : Columns} {at limit : ℕ} → Even T → at ≤ limit → Appends T at limit [] T at
appended_none {T} {at} v l =
    record { counted = omega arith; within = l; same_size = same_size v; shows = sym (append-nil (table (front_columns at T))) }

appended_one : {T U : Columns} {at limit : ℕ} (x : Row) → Even T → at < limit → limit ≤ length T.tails → U ≡ put_row T at x
    → Appends T at limit (x ∷ []) U (at + 1)
appended_one {T} {U} {at} {limit} x v l m e =
    subst (λ (W : Columns). Appends T at limit (x ∷ []) W (at + 1)) (sym e)
    (record { counted = omega arith; within = omega arith; same_size = size_put v at x; shows = front_more v at x (omega arith) })

pub appended_more : {T U W : Columns} {at limit k j : ℕ} {new further : List Row} → Appends T at limit new U k → Appends U k limit further W j
    → Appends T at limit (new ++ further) W j
appended_more {T} {at = at} {new = new} {further = further} a b = record {
  counted = omega (arith, a.counted, b.counted, length-append new further);
  within = b.within;
  same_size = size_trans a.same_size b.same_size;
  shows = b.shows ∙ ap (λ (ss : List Row). ss ++ further) a.shows ∙ append_assoc (table (front_columns at T)) new further;
}

pub overrun_more : {T U W : Columns} {at limit k : ℕ} {new further : List Row} → Appends T at limit new U k → Overruns U k limit further W
    → Overruns T at limit (new ++ further) W
overrun_more {new = new} {further = further} a b =
    record { beyond = omega (arith, a.counted, b.beyond, length-append new further); same_size = size_trans a.same_size b.same_size }

-- the rows that stood before are as they were
pub front_stays : {T U : Columns} {at limit k : ℕ} {new : List Row} (stood : ℕ) → Even T → at ≤ length T.tails → stood ≤ at
    → Appends T at limit new U k → front_columns stood U ≡ front_columns stood T
front_stays {T} {U} {at} {k = k} {new = new} stood v h l a =
    columns_same (front_even stood a.same_size.even) (front_even stood v)
    (length-take stood U.tails ∙ ap (min stood) a.same_size.size ∙ sym (length-take stood T.tails))
    (table_front stood a.same_size.even ∙ sym (take-take stood k (table U) (omega (arith, a.counted)))
    ∙ ap (take stood) (sym (table_front k a.same_size.even) ∙ a.shows)
    ∙ take-append-le stood (table (front_columns at T)) new (omega (arith, table_length (front_columns at T), length-take-le at T.tails h))
    ∙ ap (take stood) (table_front at v) ∙ take-take stood at (table T) l ∙ sym (table_front stood v))

-- what is too much already is so with what would follow
overrun_all : {T U : Columns} {at limit : ℕ} {new all : List Row} → Overruns T at limit new U → length new ≤ length all → Overruns T at limit all U
overrun_all a m = record { beyond = omega (arith, a.beyond); same_size = a.same_size }

-- one shortcut, which is marked
pub marked_put : (n mode u w : ℕ) (wide narrow : List ℕ) {T U : Columns} {at limit : ℕ} {x : Row} → Even T → get_or narrow (mark_at n w) 0 ≡ 1
    → at < limit → limit ≤ length T.tails → x ≡ row_told n mode u w wide narrow → U ≡ put_row T at x
    → Appends T at limit (marked_row n mode u w wide narrow) U (at + 1)
marked_put n mode u w wide narrow {T} {U} {at} {limit} v e l m t p =
    subst (λ (new : List Row). Appends T at limit new U (at + 1)) (sym (row_marked n mode u w wide narrow e))
    (appended_one (row_told n mode u w wide narrow) v l m (p ∙ ap (put_row T at) t))

-- the shortcuts to the nodes below w are appended
pub record Writing (n mode u : ℕ) (wide narrow : List ℕ) (T : Columns) (at limit : ℕ) (U : Columns) (k w : ℕ) : Type 0 where
  pub appends : Appends T at limit (marked_rows n mode u wide narrow w) U k
  pub below : w ≤ n

marked_fewer : (n mode u : ℕ) (wide narrow : List ℕ) (w m : ℕ) → w ≤ m
    → length (marked_rows n mode u wide narrow w) ≤ length (marked_rows n mode u wide narrow m)
unfolding marked_rows
marked_fewer n mode u wide narrow w zero l =
    let e : w ≡ zero = omega arith in
    subst (λ (k : ℕ). length (marked_rows n mode u wide narrow k) ≤ length (marked_rows n mode u wide narrow zero)) (sym e) (omega arith)
marked_fewer n mode u wide narrow w (suc m) l = go (dec_lt w (suc m)) (λ h. marked_fewer n mode u wide narrow w m h)
  where
    go : Dec (w < suc m) → (w ≤ m → length (marked_rows n mode u wide narrow w) ≤ length (marked_rows n mode u wide narrow m))
        → length (marked_rows n mode u wide narrow w) ≤ length (marked_rows n mode u wide narrow m ++ marked_row n mode u m wide narrow)
    go (yes h) ih =
        omega (arith, ih (omega arith), length-append (marked_rows n mode u wide narrow m) (marked_row n mode u m wide narrow))
    go (no h) ih =
        let e : suc m ≡ w = omega arith in
        subst (λ (k : ℕ). length (marked_rows n mode u wide narrow k) ≤ length (marked_rows n mode u wide narrow (suc m))) e (omega arith)

marked_next : (n mode u : ℕ) (wide narrow : List ℕ) (w : ℕ)
    → marked_rows n mode u wide narrow (w + 1) ≡ marked_rows n mode u wide narrow w ++ marked_row n mode u w wide narrow
unfolding marked_rows
marked_next n mode u wide narrow w = let e : w + 1 ≡ suc w = omega arith in ap (marked_rows n mode u wide narrow) e

pub writing_start : {n mode u : ℕ} {wide narrow : List ℕ} {T : Columns} {at limit : ℕ} → Even T → at ≤ limit
    → Writing n mode u wide narrow T at limit T at 0
unfolding marked_rows
writing_start v l = record { appends = appended_none v l; below = omega arith }

module _ {n mode u : ℕ} {wide narrow : List ℕ} {T : Columns} {at limit : ℕ} {U : Columns} {k w : ℕ}
    (a : Writing n mode u wide narrow T at limit U k w) where
  module _ {W : Columns} (l : w < n) where
    pub writing_more : {j : ℕ} → Appends U k limit (marked_row n mode u w wide narrow) W j → Writing n mode u wide narrow T at limit W j (w + 1)
    writing_more {j} b = record {
      appends = subst (λ (new : List Row). Appends T at limit new W j) (sym (marked_next n mode u wide narrow w)) (appended_more a.appends b);
      below = omega arith;
    }

    pub writing_over : Overruns U k limit (marked_row n mode u w wide narrow) W → Overruns T at limit (marked_rows n mode u wide narrow n) W
    writing_over b =
        overrun_all
        (subst (λ (new : List Row). Overruns T at limit new W) (sym (marked_next n mode u wide narrow w)) (overrun_more a.appends b))
        (marked_fewer n mode u wide narrow (w + 1) n (omega arith))

-- rows that are zeroed -----------------------------------------------------------------------------------------------------------------------------

zeroes_length : (n : ℕ) (l : List ℕ) → n ≤ length l → length (zeroes_behind n l) ≡ length l
zeroes_length n l h =
    omega (arith, length-append (take n l) (replicate (length l - n) 0), length-take-le n l h, length-replicate {A = ℕ} (length l - n) 0)

zeroes_front : (n : ℕ) (l : List ℕ) → n ≤ length l → (i : ℕ) → i < n → get_or (zeroes_behind n l) i 0 ≡ get_or (take n l) i 0
zeroes_front n l h i b = get_or-append (take n l) (replicate (length l - n) 0) 0 i (omega (arith, length-take-le n l h))

zeroes_back : (n : ℕ) (l : List ℕ) → n ≤ length l → (i : ℕ) → n ≤ i → i < length l → get_or (zeroes_behind n l) i 0 ≡ 0
zeroes_back n l h i a b =
    get_or-append_right (take n l) (replicate (length l - n) 0) i 0 (omega (arith, length-take-le n l h))
    ∙ get_or-replicate (length l - n) (i - length (take n l)) 0 0 (omega (arith, length-take-le n l h))

module _ {T : Columns} {n : ℕ} (v : Even T) (h : n ≤ length T.tails) where
  zeroed_even : Even (zeroed_behind n T)
  zeroed_even = record {
    heads_even = cut T.heads v.heads_even;
    modes_even = cut T.modes v.modes_even;
    lengths_even = cut T.lengths v.lengths_even;
    counts_even = cut T.counts v.counts_even;
    firsts_even = cut T.firsts v.firsts_even;
    seconds_even = cut T.seconds v.seconds_even;
  }
    where
      cut : (l : List ℕ) → length l ≡ length T.tails → length (zeroes_behind n l) ≡ length (zeroes_behind n T.tails)
      cut l e = zeroes_length n l (omega (arith, e, h)) ∙ e ∙ sym (zeroes_length n T.tails h)

  zeroed_front : (i : ℕ) → i < n → shortcut (zeroed_behind n T) i ≡ shortcut (front_columns n T) i
  zeroed_front i b = row-≡
      (zeroes_front n T.tails h i b)
      (zeroes_front n T.heads (omega (arith, h, v.heads_even)) i b)
      (zeroes_front n T.modes (omega (arith, h, v.modes_even)) i b)
      (zeroes_front n T.lengths (omega (arith, h, v.lengths_even)) i b)
      (zeroes_front n T.counts (omega (arith, h, v.counts_even)) i b)
      (zeroes_front n T.firsts (omega (arith, h, v.firsts_even)) i b)
      (zeroes_front n T.seconds (omega (arith, h, v.seconds_even)) i b)

  zeroed_back : (i : ℕ) → n ≤ i → i < length T.tails → shortcut (zeroed_behind n T) i ≡ no_row
  zeroed_back i a b = row-≡
      (zeroes_back n T.tails h i a b)
      (zeroes_back n T.heads (omega (arith, h, v.heads_even)) i a (omega (arith, b, v.heads_even)))
      (zeroes_back n T.modes (omega (arith, h, v.modes_even)) i a (omega (arith, b, v.modes_even)))
      (zeroes_back n T.lengths (omega (arith, h, v.lengths_even)) i a (omega (arith, b, v.lengths_even)))
      (zeroes_back n T.counts (omega (arith, h, v.counts_even)) i a (omega (arith, b, v.counts_even)))
      (zeroes_back n T.firsts (omega (arith, h, v.firsts_even)) i a (omega (arith, b, v.firsts_even)))
      (zeroes_back n T.seconds (omega (arith, h, v.seconds_even)) i a (omega (arith, b, v.seconds_even)))

  made_length : length (table (front_columns n T)) ≡ n
  made_length = table_length (front_columns n T) ∙ length-take-le n T.tails h

  pub zeroed_holds : {U : Columns} → U ≡ zeroed_behind n T → Holds U (length T.tails) (table (front_columns n T))
  zeroed_holds {U} e = subst (λ (W : Columns). Holds W (length T.tails) (table (front_columns n T))) (sym e) (record {
    even = zeroed_even;
    size = zeroes_length n T.tails h;
    shows = ext_get_or no_row (table (zeroed_behind n T)) (table (front_columns n T) ++ replicate left no_row) sizes each;
  })
    where
      left : ℕ
      left = length T.tails - length (table (front_columns n T))

      sizes : length (table (zeroed_behind n T)) ≡ length (table (front_columns n T) ++ replicate left no_row)
      sizes = omega (
        arith,
        table_length (zeroed_behind n T),
        zeroes_length n T.tails h,
        length-append (table (front_columns n T)) (replicate left no_row),
        length-replicate {A = Row} left no_row,
        made_length,
        h,
      )

      each : (i : ℕ) → i < length (table (zeroed_behind n T))
          → get_or (table (zeroed_behind n T)) i no_row ≡ get_or (table (front_columns n T) ++ replicate left no_row) i no_row
      each i l = table_at zeroed_even i ∙ go (dec_lt i n)
        where
          inside : i < length T.tails
          inside = omega (arith, l, table_length (zeroed_behind n T), zeroes_length n T.tails h)

          go : Dec (i < n) → shortcut (zeroed_behind n T) i ≡ get_or (table (front_columns n T) ++ replicate left no_row) i no_row
          go (yes b) =
              zeroed_front i b ∙ sym (table_at (front_even n v) i)
              ∙ sym (get_or-append (table (front_columns n T)) (replicate left no_row) no_row i (omega (arith, b, made_length)))
          go (no b) =
              zeroed_back i (omega arith) inside
              ∙ sym (get_or-replicate left (i - length (table (front_columns n T))) no_row no_row (omega (arith, inside, made_length)))
              ∙ sym (get_or-append_right (table (front_columns n T)) (replicate left no_row) i no_row (omega (arith, made_length)))
