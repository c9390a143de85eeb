-- Laws of rows: where a row stands, what the columns hold of it, and what holds of every row of a sound table.
use mathlib.Core.Path.{◌≡◌, refl, sym, ap, subst, subst₃, ◌∙◌}
use mathlib.Core.Bool.{Bool, true, false, cond}
use mathlib.Core.List.{List, []}
use Prim.Native.Nat.{ℕ, zero, suc, ◌-◌, ◌<◌, ◌≤◌}
use native.Mathlib.Omega.{arith}
use native.Mathlib.Decide.{dec_lt}
use lib.Dec.{ltb}
use lib.ListN.{length, get_or, get_or-eq_default}
use borrow.Author.Tests.{lt-ltb, le-ltb}
use Rattle.network.specs.declared.weight.Weight.{Weight}
use Rattle.network.specs.declared.rows.Row.{Row}
use Rattle.network.specs.Network.{Network, nodes, edges, Sound}
use Rattle.network.specs.Rows.{
  row,
  rows,
  edge_row,
  no_row,
  cost,
  Columns,
  Even,
  shortcut,
  listed,
  table,
  Joins,
  SoundRow,
  SoundTable,
}
use Rattle.network.specs.Answers.{Decides, row_read, tail_read}
use Rattle.network.proofs.WeightLaws.{⊕-time, ⊕-edges}
use Rattle.network.proofs.Scanning.{decides_map}

pub row_edge : (N : Network) (ss : List Row) (r : ℕ) → r < edges N → row N ss r ≡ edge_row N r
row_edge N ss r l = ap (λ (b : Bool). cond b (edge_row N r) (get_or ss (r - edges N) no_row)) (lt-ltb r (edges N) l)

pub row_short : (N : Network) (ss : List Row) (r : ℕ) → edges N ≤ r → row N ss r ≡ get_or ss (r - edges N) no_row
row_short N ss r l = ap (λ (b : Bool). cond b (edge_row N r) (get_or ss (r - edges N) no_row)) (le-ltb r (edges N) l)

-- the table that columns hold
listed_length : (n : ℕ) (f : ℕ → Row) → length (listed n f) ≡ n
unfolding listed
listed_length zero f = refl
listed_length (suc n) f = ap suc (listed_length n (λ i. f (suc i)))

listed_at : (n : ℕ) (f : ℕ → Row) (i : ℕ) → i < n → get_or (listed n f) i no_row ≡ f i
unfolding listed
listed_at zero f i l = absurd (omega arith)
listed_at (suc n) f zero l = refl
listed_at (suc n) f (suc i) l = listed_at n (λ j. f (suc j)) i (omega arith)

pub table_length : (T : Columns) → length (table T) ≡ length T.tails
unfolding table
table_length T = listed_length (length T.tails) (shortcut T)

pub row-≡ : {x y : Row} → x.tail ≡ y.tail → x.head ≡ y.head → x.mode ≡ y.mode → x.length ≡ y.length → x.count ≡ y.count
    → x.first ≡ y.first → x.second ≡ y.second → x ≡ y
row-≡ a b c d e f g = λ i. record { tail = a i; head = b i; mode = c i; length = d i; count = e i; first = f i; second = g i }

-- past the end of even columns there is nothing
shortcut_out : {T : Columns} → Even T → (i : ℕ) → length T.tails ≤ i → shortcut T i ≡ no_row
shortcut_out {T} v i l = row-≡
    (get_or-eq_default T.tails 0 l)
    (get_or-eq_default T.heads 0 (omega (arith, v.heads_even)))
    (get_or-eq_default T.modes 0 (omega (arith, v.modes_even)))
    (get_or-eq_default T.lengths 0 (omega (arith, v.lengths_even)))
    (get_or-eq_default T.counts 0 (omega (arith, v.counts_even)))
    (get_or-eq_default T.firsts 0 (omega (arith, v.firsts_even)))
    (get_or-eq_default T.seconds 0 (omega (arith, v.seconds_even)))

pub table_at : {T : Columns} → Even T → (i : ℕ) → get_or (table T) i no_row ≡ shortcut T i
unfolding table
table_at {T} v i = go (dec_lt i (length T.tails))
  where
    go : Dec (i < length T.tails) → get_or (listed (length T.tails) (shortcut T)) i no_row ≡ shortcut T i
    go (yes l) = listed_at (length T.tails) (shortcut T) i l
    go (no n) =
        get_or-eq_default (listed (length T.tails) (shortcut T)) no_row (omega (arith, listed_length (length T.tails) (shortcut T)))
        ∙ sym (shortcut_out v i (omega arith))

-- what is read of even columns is the table's row
pub read_row : {T : Columns} → Even T → (N : Network) (r : ℕ) → row_read N T r ≡ row N (table T) r
read_row {T} v N r = go (dec_lt r (edges N))
  where
    go : Dec (r < edges N) → row_read N T r ≡ row N (table T) r
    go (yes l) = ap (λ (b : Bool). cond b (edge_row N r) (shortcut T (r - edges N))) (lt-ltb r (edges N) l) ∙ sym (row_edge N (table T) r l)
    go (no n) =
        ap (λ (b : Bool). cond b (edge_row N r) (shortcut T (r - edges N))) (le-ltb r (edges N) (omega arith))
        ∙ sym (table_at v (r - edges N))
        ∙ sym (row_short N (table T) r (omega arith))

-- the tail that is read alone is the row's
pub tail_read_row : (N : Network) (T : Columns) (r : ℕ) → tail_read N.tails T.tails r ≡ (row_read N T r).tail
tail_read_row N T r = go (ltb r (edges N))
  where
    go : (b : Bool) → cond b (get_or N.tails r 0) (get_or T.tails (r - edges N) 0) ≡ (cond b (edge_row N r) (shortcut T (r - edges N))).tail
    go true = refl
    go false = refl

-- the test of a row x, read from even columns, with the children a and b
module _ (N : Network) (T : Columns) (v : Even T) (r : ℕ) {x : Row} (ex : x ≡ row_read N T r) where
  read : x ≡ row N (table T) r
  read = ex ∙ read_row v N r

  pub both_lower : SoundRow N (table T) r → (x.first < r) × (x.second < r)
  both_lower s = (omega (arith, ap (λ z. z.first) read, s.first_lower), omega (arith, ap (λ z. z.second) read, s.second_lower))

  pub sound_by_joins : {a b : Row} (d : Bool) → x.first < r → x.second < r → a ≡ row_read N T x.first → b ≡ row_read N T x.second
      → Decides d (Joins N.node_ranks x a b) → Decides d (SoundRow N (table T) r)
  sound_by_joins {a} {b} d f g ea eb = decides_map d
      (λ j. record {
        first_lower = subst (λ z. z.first < r) read f;
        second_lower = subst (λ z. z.second < r) read g;
        joins = subst₃ (Joins N.node_ranks) read first second j;
      })
      (λ s. subst₃ (Joins N.node_ranks) (sym read) (sym first) (sym second) s.joins)
    where
      first : a ≡ row N (table T) (row N (table T) r).first
      first = ea ∙ read_row v N x.first ∙ ap (λ z. row N (table T) z.first) read

      second : b ≡ row N (table T) (row N (table T) r).second
      second = eb ∙ read_row v N x.second ∙ ap (λ z. row N (table T) z.second) read

-- what holds of a row whose ends are nodes
pub record RowFine (N : Network) (ss : List Row) (r : ℕ) : Type 0 where
  pub tail_in : (row N ss r).tail < nodes N
  pub head_in : (row N ss r).head < nodes N
  pub apart : (row N ss r).tail ≡ (row N ss r).head → ⊥
  pub known_mode : (row N ss r).mode ≤ 7
  pub lasts : 1 ≤ (row N ss r).length
  pub short : (row N ss r).length ≤ 33488385
  pub some : 1 ≤ (row N ss r).count
  pub few : (row N ss r).count ≤ 511

edge_row_fine : {N : Network} (ss : List Row) → Sound N → (r : ℕ) → r < edges N → RowFine N ss r
edge_row_fine {N} ss sound r l =
    let e = row_edge N ss r l in
    let f = sound.edge_fine r l in
    record {
      tail_in = subst (λ (x : Row). x.tail < nodes N) (sym e) f.tail_node;
      head_in = subst (λ (x : Row). x.head < nodes N) (sym e) f.head_node;
      apart = subst (λ (x : Row). x.tail ≡ x.head → ⊥) (sym e) f.apart;
      known_mode = subst (λ (x : Row). x.mode ≤ 7) (sym e) f.known_mode;
      lasts = subst (λ (x : Row). 1 ≤ x.length) (sym e) f.lasts;
      short = subst (λ (x : Row). x.length ≤ 33488385) (sym e) (omega (arith, f.short));
      some = subst (λ (x : Row). 1 ≤ x.count) (sym e) (omega arith);
      few = subst (λ (x : Row). x.count ≤ 511) (sym e) (omega arith);
    }

module _ {N : Network} {ss : List Row} (sound : Sound N) (table : SoundTable N ss) where
  shortcut_fine : (r : ℕ) → SoundRow N ss r → RowFine N ss (row N ss r).first → RowFine N ss (row N ss r).second → RowFine N ss r
  shortcut_fine r s a b =
      let j = s.joins in
      let t = ap (λ (w : Weight). w.time) j.adds_up.sums ∙ ⊕-time (cost (row N ss (row N ss r).first)) (cost (row N ss (row N ss r).second)) in
      let c = ap (λ (w : Weight). w.edges) j.adds_up.sums ∙ ⊕-edges (cost (row N ss (row N ss r).first)) (cost (row N ss (row N ss r).second)) in
      record {
        tail_in = subst (λ (x : ℕ). x < nodes N) j.ends_fit.starts a.tail_in;
        head_in = subst (λ (x : ℕ). x < nodes N) j.ends_fit.ends b.head_in;
        apart = j.ends_fit.apart;
        known_mode = subst (λ (x : ℕ). x ≤ 7) j.one_mode.first_mode a.known_mode;
        lasts = omega (arith, t, a.lasts);
        short = j.adds_up.length_bound;
        some = omega (arith, c, a.some);
        few = j.adds_up.count_bound;
      }

  rows_fine : (n r : ℕ) → r < n → r < rows N ss → RowFine N ss r
  rows_fine zero r h l = absurd (omega arith)
  rows_fine (suc n) r h l = go (dec_lt r (edges N)) (λ k a b. rows_fine n k a b)
    where
      go : Dec (r < edges N) → ((k : ℕ) → k < n → k < rows N ss → RowFine N ss k) → RowFine N ss r
      go (yes m) ih = edge_row_fine ss sound r m
      go (no m) ih =
          let s = table.each r (omega arith) l in
          shortcut_fine r s (ih (row N ss r).first (omega (arith, s.first_lower)) (omega (arith, s.first_lower)))
          (ih (row N ss r).second (omega (arith, s.second_lower)) (omega (arith, s.second_lower)))

  pub row_fine : (r : ℕ) → r < rows N ss → RowFine N ss r
  row_fine r l = rows_fine (suc r) r (omega arith) l

-- no shortcuts at all is a sound table
pub no_table : {N : Network} → Sound N → SoundTable N []
no_table {N} sound = record { few = omega (arith, sound.sized.few_edges); each = λ r a b. absurd (omega arith) }
