-- Laws of the lent columns: their first rows, a row that is written to them, and that even columns are told by the table they hold.
use mathlib.Core.Path.{◌≡◌, sym, ap, ◌∙◌}
use mathlib.Core.List.{List, [], ◌∷◌, ◌++◌}
use Prim.Native.Nat.{ℕ, suc, ◌+◌, ◌-◌, ◌<◌, ◌≤◌, min}
use native.Mathlib.Omega.{arith}
use native.Mathlib.Decide.{ℕ_discrete}
use lib.ListN.{length, get_or, take, set, replicate, length-take, length-set}
use lib.Seq.{take-append_seam, take-set-le, take-suc-set, get_or-take, get_or-set_same, get_or-set_other, ext_get_or}
use Rattle.network.specs.declared.rows.Row.{Row}
use Rattle.network.specs.Rows.{Columns, Even, no_row, shortcut, table}
use Rattle.network.proofs.RowLaws.{row-≡, table_length, table_at}
use Rattle.preparation.specs.Answers.{Holds}
use Rattle.network.specs.Lent.{front_columns}
use Rattle.preparation.specs.Preparing.{put_row}

pub columns-≡ : {T U : Columns} → T.tails ≡ U.tails → T.heads ≡ U.heads → T.modes ≡ U.modes → T.lengths ≡ U.lengths
    → T.counts ≡ U.counts → T.firsts ≡ U.firsts → T.seconds ≡ U.seconds → T ≡ U
columns-≡ a b c d e f g =
    λ i. record { tails = a i; heads = b i; modes = c i; lengths = d i; counts = e i; firsts = f i; seconds = g i }

-- the first rows ---------------------------------------------------------------------------------------------------------------------------------

pub front_even : (k : ℕ) {T : Columns} → Even T → Even (front_columns k T)
front_even k {T} v = record {
  heads_even = cut T.heads v.heads_even;
  modes_even = cut T.modes v.modes_even;
  lengths_even = cut T.lengths v.lengths_even;
  counts_even = cut T.counts v.counts_even;
  firsts_even = cut T.firsts v.firsts_even;
  seconds_even = cut T.seconds v.seconds_even;
}
  where
    cut : (l : List ℕ) → length l ≡ length T.tails → length (take k l) ≡ length (take k T.tails)
    cut l e = length-take k l ∙ ap (min k) e ∙ sym (length-take k T.tails)

shortcut_front : (T : Columns) (k i : ℕ) → i < k → shortcut (front_columns k T) i ≡ shortcut T i
shortcut_front T k i l = row-≡
    (get_or-take k T.tails i 0 l)
    (get_or-take k T.heads i 0 l)
    (get_or-take k T.modes i 0 l)
    (get_or-take k T.lengths i 0 l)
    (get_or-take k T.counts i 0 l)
    (get_or-take k T.firsts i 0 l)
    (get_or-take k T.seconds i 0 l)

pub table_front : (k : ℕ) {T : Columns} → Even T → table (front_columns k T) ≡ take k (table T)
table_front k {T} v = ext_get_or no_row (table (front_columns k T)) (take k (table T)) sizes each
  where
    sizes : length (table (front_columns k T)) ≡ length (take k (table T))
    sizes =
        table_length (front_columns k T) ∙ length-take k T.tails ∙ ap (min k) (sym (table_length T)) ∙ sym (length-take k (table T))

    each : (i : ℕ) → i < length (table (front_columns k T)) → get_or (table (front_columns k T)) i no_row ≡ get_or (take k (table T)) i no_row
    each i l =
        let b : i < k = omega (arith, l, table_length (front_columns k T), length-take k T.tails) in
        table_at (front_even k v) i ∙ shortcut_front T k i b ∙ sym (table_at v i) ∙ sym (get_or-take k (table T) i no_row b)

-- a row that is written --------------------------------------------------------------------------------------------------------------------------

pub put_even : {T : Columns} → Even T → (i : ℕ) (x : Row) → Even (put_row T i x)
put_even {T} v i x = record {
  heads_even = length-set T.heads i x.head ∙ v.heads_even ∙ kept;
  modes_even = length-set T.modes i x.mode ∙ v.modes_even ∙ kept;
  lengths_even = length-set T.lengths i x.length ∙ v.lengths_even ∙ kept;
  counts_even = length-set T.counts i x.count ∙ v.counts_even ∙ kept;
  firsts_even = length-set T.firsts i x.first ∙ v.firsts_even ∙ kept;
  seconds_even = length-set T.seconds i x.second ∙ v.seconds_even ∙ kept;
}
  where
    kept : length T.tails ≡ length (set T.tails i x.tail)
    kept = sym (length-set T.tails i x.tail)

shortcut_put : {T : Columns} → Even T → (i : ℕ) (x : Row) → i < length T.tails → shortcut (put_row T i x) i ≡ x
shortcut_put {T} v i x l = row-≡
    (get_or-set_same T.tails i x.tail 0 l)
    (get_or-set_same T.heads i x.head 0 (omega (arith, v.heads_even)))
    (get_or-set_same T.modes i x.mode 0 (omega (arith, v.modes_even)))
    (get_or-set_same T.lengths i x.length 0 (omega (arith, v.lengths_even)))
    (get_or-set_same T.counts i x.count 0 (omega (arith, v.counts_even)))
    (get_or-set_same T.firsts i x.first 0 (omega (arith, v.firsts_even)))
    (get_or-set_same T.seconds i x.second 0 (omega (arith, v.seconds_even)))

shortcut_beside : (T : Columns) (i j : ℕ) (x : Row) → (j ≡ i → ⊥) → shortcut (put_row T i x) j ≡ shortcut T j
shortcut_beside T i j x n = row-≡
    (get_or-set_other T.tails i j x.tail 0 n)
    (get_or-set_other T.heads i j x.head 0 n)
    (get_or-set_other T.modes i j x.mode 0 n)
    (get_or-set_other T.lengths i j x.length 0 n)
    (get_or-set_other T.counts i j x.count 0 n)
    (get_or-set_other T.firsts i j x.first 0 n)
    (get_or-set_other T.seconds i j x.second 0 n)

pub table_put : {T : Columns} → Even T → (i : ℕ) (x : Row) → table (put_row T i x) ≡ set (table T) i x
table_put {T} v i x = ext_get_or no_row (table (put_row T i x)) (set (table T) i x) sizes each
  where
    sizes : length (table (put_row T i x)) ≡ length (set (table T) i x)
    sizes =
        table_length (put_row T i x) ∙ length-set T.tails i x.tail ∙ sym (table_length T) ∙ sym (length-set (table T) i x)

    each : (j : ℕ) → j < length (table (put_row T i x)) → get_or (table (put_row T i x)) j no_row ≡ get_or (set (table T) i x) j no_row
    each j l = table_at (put_even v i x) j ∙ go (ℕ_discrete j i)
      where
        inside : j < length T.tails
        inside = omega (arith, l, table_length (put_row T i x), length-set T.tails i x.tail)

        go : Dec (j ≡ i) → shortcut (put_row T i x) j ≡ get_or (set (table T) i x) j no_row
        go (yes e) =
            let b : i < length T.tails = omega (arith, inside) in
            ap (shortcut (put_row T i x)) e ∙ shortcut_put v i x b
            ∙ sym (get_or-set_same (table T) i x no_row (omega (arith, b, table_length T)))
            ∙ ap (λ (k : ℕ). get_or (set (table T) i x) k no_row) (sym e)
        go (no n) = shortcut_beside T i j x n ∙ sym (table_at v j) ∙ sym (get_or-set_other (table T) i j x no_row n)

-- the rows in front of the written one stay
pub front_put : (T : Columns) (k : ℕ) (x : Row) → front_columns k (put_row T k x) ≡ front_columns k T
front_put T k x = columns-≡
    (take-set-le k T.tails k x.tail (omega arith))
    (take-set-le k T.heads k x.head (omega arith))
    (take-set-le k T.modes k x.mode (omega arith))
    (take-set-le k T.lengths k x.length (omega arith))
    (take-set-le k T.counts k x.count (omega arith))
    (take-set-le k T.firsts k x.first (omega arith))
    (take-set-le k T.seconds k x.second (omega arith))

-- and it follows them
pub front_more : {T : Columns} → Even T → (k : ℕ) (x : Row) → k < length T.tails
    → table (front_columns (k + 1) (put_row T k x)) ≡ table (front_columns k T) ++ (x ∷ [])
front_more {T} v k x l =
    let z : k + 1 ≡ suc k = omega arith in
    table_front (k + 1) (put_even v k x) ∙ ap (take (k + 1)) (table_put v k x) ∙ ap (λ (m : ℕ). take m (set (table T) k x)) z
    ∙ take-suc-set (table T) k x (omega (arith, l, table_length T)) ∙ ap (λ (ss : List Row). ss ++ (x ∷ [])) (sym (table_front k v))

-- the table tells the columns --------------------------------------------------------------------------------------------------------------------

pub columns_same : {T U : Columns} → Even T → Even U → length T.tails ≡ length U.tails → table T ≡ table U → T ≡ U
columns_same {T} {U} v w size e = columns-≡
    (ext_get_or 0 T.tails U.tails size (λ i l. ap (λ (x : Row). x.tail) (at i)))
    (ext_get_or 0 T.heads U.heads (v.heads_even ∙ size ∙ sym w.heads_even) (λ i l. ap (λ (x : Row). x.head) (at i)))
    (ext_get_or 0 T.modes U.modes (v.modes_even ∙ size ∙ sym w.modes_even) (λ i l. ap (λ (x : Row). x.mode) (at i)))
    (ext_get_or 0 T.lengths U.lengths (v.lengths_even ∙ size ∙ sym w.lengths_even) (λ i l. ap (λ (x : Row). x.length) (at i)))
    (ext_get_or 0 T.counts U.counts (v.counts_even ∙ size ∙ sym w.counts_even) (λ i l. ap (λ (x : Row). x.count) (at i)))
    (ext_get_or 0 T.firsts U.firsts (v.firsts_even ∙ size ∙ sym w.firsts_even) (λ i l. ap (λ (x : Row). x.first) (at i)))
    (ext_get_or 0 T.seconds U.seconds (v.seconds_even ∙ size ∙ sym w.seconds_even) (λ i l. ap (λ (x : Row). x.second) (at i)))
  where
    at : (i : ℕ) → shortcut T i ≡ shortcut U i
    at i = sym (table_at v i) ∙ ap (λ (ss : List Row). get_or ss i no_row) e ∙ table_at w i

-- what lent rows hold is one, and its front is the shortcuts
pub holds_unique : {T U : Columns} {lent : ℕ} {ss : List Row} → Holds T lent ss → Holds U lent ss → T ≡ U
holds_unique h k = columns_same h.even k.even (h.size ∙ sym k.size) (h.shows ∙ sym k.shows)

pub holds_front : {T : Columns} {lent : ℕ} {ss : List Row} → Holds T lent ss → length ss ≤ lent → table (front_columns (length ss) T) ≡ ss
holds_front {T} {lent} {ss} h l =
    table_front (length ss) h.even ∙ ap (take (length ss)) h.shows ∙ take-append_seam ss (replicate (lent - length ss) no_row)
