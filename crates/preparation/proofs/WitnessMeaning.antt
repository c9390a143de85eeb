-- What the witness searches of v's turn tell: their paths are the ways over standing rows, links left out, of document 01, and so two searches decide
-- whether v calls for a shortcut.
use mathlib.Core.Path.{◌≡◌, refl, sym, ◌∙◌, ap, subst, subst₂}
use mathlib.Core.Bool.{Bool, true, false}
use mathlib.Core.List.{List, [], ◌∷◌}
use Prim.Native.Nat.{ℕ, ◌≤◌}
use native.Mathlib.Omega.{arith}
use Rattle.network.specs.declared.weight.Weight.{Weight}
use Rattle.network.specs.declared.rows.Row.{Row}
use Rattle.network.specs.Weight.{zero_weight, ◌⊕◌, Lighter, Held}
use Rattle.network.specs.Order.{Before}
use Rattle.network.specs.Network.{Network, Sound}
use Rattle.network.specs.Rows.{Columns, Even, row, rows, cost, table, SoundTable}
use Rattle.network.specs.Journey.{along, weight}
use Rattle.network.proofs.WeightLaws.{
  ≼-lighter,
  ≼-not_lighter,
  lighter-≼-trans,
  lighter_trans,
  not_lighter-≼,
  held-≼-none,
  ⊕-time,
  ⊕-edges,
  early_lighter_none,
}
use Rattle.network.proofs.RowLaws.{table_length, read_row, row_fine}
use Rattle.search.specs.Witness.{Turn, row_count, ridden, Ride, Path, stay, onward, along_rides, path_weight, Reported, within, beyond}
use Rattle.preparation.specs.Contraction.{Standing, Through, here, on, Avoids, LeastRow, CalledFor}
use Rattle.preparation.proofs.PreparedUnique.{least_row_unique}
use Rattle.preparation.proofs.OneTurn.{made_of, made_cost}

-- the search in v's turn, around v or not
abbrev pub search_of : Network → Columns → ℕ → Bool → Turn
search_of N T v around = record { roads = N; shortcuts = T; node = v; around = around }

module _ (N : Network) (T : Columns) (s : Sound N) (even : Even T) (t : SoundTable N (table T)) (v : ℕ) where
  -- what a search rides is the table's row, and it rides all rows
  rides_row : (around : Bool) (r : ℕ) → ridden (search_of N T v around) r ≡ row N (table T) r
  rides_row around r = read_row even N r

  rides_all : (around : Bool) → row_count (search_of N T v around) ≡ rows N (table T)
  rides_all around = omega (arith, table_length T)

  -- weights are the same
  along_same : (around : Bool) (w : Weight) (rs : List ℕ) → along_rides (search_of N T v around) w rs ≡ along N (table T) w rs
  along_same around w [] = refl
  along_same around w (r ∷ rs) =
      along_same around (w ⊕ cost (ridden (search_of N T v around) r)) rs
      ∙ ap (λ (x : Row). along N (table T) (w ⊕ cost x) rs) (rides_row around r)

  pub weight_same : (around : Bool) (rs : List ℕ) → path_weight (search_of N T v around) rs ≡ weight N (table T) rs
  weight_same around rs = along_same around zero_weight rs

  -- a ride is a standing row, no link
  module _ {around : Bool} {u r x : ℕ} (ride : Ride (search_of N T v around) u r x) where
    leaves : (row N (table T) r).tail ≡ u
    leaves = ap (λ (z : Row). z.tail) (sym (rides_row around r)) ∙ ride.leaves

    arrives : (row N (table T) r).head ≡ x
    arrives = ap (λ (z : Row). z.head) (sym (rides_row around r)) ∙ ride.arrives

    no_link : (row N (table T) r).mode ≡ 0 → ⊥
    no_link z = ride.no_link (ap (λ (y : Row). y.mode) (rides_row around r) ∙ z)

    standing : Standing N (table T) v r
    standing = record {
      there = omega (arith, ride.there, rides_all around);
      tail_stands = λ b. ride.tail_open.stands (subst (λ (z : ℕ). Before N.node_ranks z v) leaves b);
      head_stands = λ b. ride.head_open.stands (subst (λ (z : ℕ). Before N.node_ranks z v) arrives b);
    }

  -- and a standing row that is no link, and that keeps off v where it must, is a ride
  module _ (around : Bool) {u r x : ℕ} (a : Standing N (table T) v r) (n : (row N (table T) r).mode ≡ 0 → ⊥) (o : (row N (table T) r).tail ≡ u)
      (p : (row N (table T) r).head ≡ x) (off_tail : around ≡ true → u ≡ v → ⊥) (off_head : around ≡ true → x ≡ v → ⊥) where
    riding : Ride (search_of N T v around) u r x
    riding = record {
      there = omega (arith, a.there, rides_all around);
      no_link = λ z. n (ap (λ (y : Row). y.mode) (sym (rides_row around r)) ∙ z);
      leaves = ap (λ (y : Row). y.tail) (rides_row around r) ∙ o;
      arrives = ap (λ (y : Row). y.head) (rides_row around r) ∙ p;
      tail_open = record {
        is_node = omega (arith, (row_fine s t r a.there).tail_in, s.sized.ranks_even);
        stands = λ b. a.tail_stands (subst (λ (z : ℕ). Before N.node_ranks z v) (sym o) b);
        avoided = off_tail;
      };
      head_open = record {
        is_node = omega (arith, (row_fine s t r a.there).head_in, s.sized.ranks_even);
        stands = λ b. a.head_stands (subst (λ (z : ℕ). Before N.node_ranks z v) (sym p) b);
        avoided = off_head;
      };
    }

  -- paths and ways are the same
  pub path_through : (around : Bool) {u w : ℕ} {rs : List ℕ} → Path (search_of N T v around) u w rs → Through N (table T) v u w rs
  path_through around (stay e) = here e
  path_through around (onward a p) = on (standing a) (no_link a) (leaves a) (arrives a) (path_through around p)

  pub through_path : {u w : ℕ} {rs : List ℕ} → Through N (table T) v u w rs → Path (search_of N T v false) u w rs
  through_path (here e) = stay e
  through_path (on a n o p q) = onward (riding false a n o p (λ z. absurd (false_true z)) (λ z. absurd (false_true z))) (through_path q)
    where
      false_true : false ≡ true → ⊥
      false_true e = let z : ◌≡◌ {A = ℕ} 0 1 = cc in omega arith

  -- those around v avoid v
  pub path_avoids : {u w : ℕ} {rs : List ℕ} → Path (search_of N T v true) u w rs → Avoids N (table T) v rs
  path_avoids (stay e) = tt
  path_avoids (onward a p) =
      (λ e. a.tail_open.avoided refl (sym (leaves a) ∙ e), λ e. a.head_open.avoided refl (sym (arrives a) ∙ e), path_avoids p)

  pub avoiding_path : {u w : ℕ} {rs : List ℕ} → Through N (table T) v u w rs → Avoids N (table T) v rs → Path (search_of N T v true) u w rs
  avoiding_path (here e) a = stay e
  avoiding_path (on b n o p q) a =
      onward (riding true b n o p (λ z e. a.0 (o ∙ e)) (λ z e. a.1 (p ∙ e))) (avoiding_path q a.2)

  -- where the two rows past v from u to w have their sum, and the two searches, up to a bound that is no lighter, have told of w
  module _ {u w f g : ℕ} (F : LeastRow N (table T) v u v f) (G : LeastRow N (table T) v v w g) where
    abbrev pub sum : Weight
    sum = cost (row N (table T) f) ⊕ cost (row N (table T) g)

    -- the sum is small
    pub sum_time : sum.time ≤ 66976770
    sum_time = omega (
      arith,
      ⊕-time (cost (row N (table T) f)) (cost (row N (table T) g)),
      (row_fine s t f F.stands.there).short,
      (row_fine s t g G.stands.there).short,
    )

    pub sum_edges : sum.edges ≤ 1022
    sum_edges = omega (
      arith,
      ⊕-edges (cost (row N (table T) f)) (cost (row N (table T) g)),
      (row_fine s t f F.stands.there).few,
      (row_fine s t g G.stands.there).few,
    )

    pub sum_held : Held sum
    sum_held = record { time_held = omega (arith, sum_time); edges_held = omega (arith, sum_edges) }

    -- any shortcut from u to w that v calls for costs the sum
    pub called_cost : {x : Row} → CalledFor N (table T) v x → x.tail ≡ u → x.head ≡ w → cost x ≡ sum
    called_cost {x} C a b = C.sums ∙ (λ i. cost (row N (table T) (is_f i)) ⊕ cost (row N (table T) (is_g i)))
      where
        is_f : x.first ≡ f
        is_f = least_row_unique (subst (λ (z : ℕ). LeastRow N (table T) v z v x.first) a C.into) F

        is_g : x.second ≡ g
        is_g = least_row_unique (subst (λ (z : ℕ). LeastRow N (table T) v v z x.second) b C.out) G

    -- what a shortcut that is called for says of the searches, each made up to a bound of its own
    module _ {x : Row} {bound told : Weight} where
      pub told_not_lighter : Reported (search_of N T v false) u bound w told → CalledFor N (table T) v x → x.tail ≡ u → x.head ≡ w
          → Lighter told sum → ⊥
      told_not_lighter (within q _) C a b l =
          C.least q.rows (subst₂ (λ y z. Through N (table T) v y z q.rows) (sym a) (sym b) (path_through false q.path))
          (subst₂ Lighter (sym q.weighs ∙ weight_same false q.rows) (sym (called_cost C a b)) l)
      told_not_lighter (beyond _ e) C a b l = ≼-not_lighter (held-≼-none sum_held) (subst (λ z. Lighter z sum) e l)

      pub told_heavier : Reported (search_of N T v true) u bound w told → CalledFor N (table T) v x → x.tail ≡ u → x.head ≡ w → Lighter sum told
      told_heavier (within q _) C a b =
          subst₂ Lighter (called_cost C a b) (sym (weight_same true q.rows) ∙ q.weighs)
          (C.alone q.rows (subst₂ (λ y z. Through N (table T) v y z q.rows) (sym a) (sym b) (path_through true q.path))
          (path_avoids q.path))
      told_heavier (beyond _ e) C a b = subst (Lighter sum) (sym e) (early_lighter_none (omega (arith, sum_time)))

    module _ {bound told : Weight} (enough : Lighter bound sum → ⊥) where
      -- no way is lighter than the sum
      none_lighter : Reported (search_of N T v false) u bound w told → (Lighter told sum → ⊥) → (rs : List ℕ) → Through N (table T) v u w rs
          → Lighter (weight N (table T) rs) sum → ⊥
      none_lighter (within q _) n rs p l =
          n (≼-lighter (not_lighter-≼ (λ k. q.least rs (through_path p) (subst (λ z. Lighter z told) (sym (weight_same false rs)) k))) l)
      none_lighter (beyond far _) n rs p l = enough (lighter_trans (subst (Lighter bound) (weight_same false rs) (far rs (through_path p))) l)

      -- every way around v is heavier
      each_heavier : Reported (search_of N T v true) u bound w told → Lighter sum told → (rs : List ℕ) → Through N (table T) v u w rs
          → Avoids N (table T) v rs → Lighter sum (weight N (table T) rs)
      each_heavier (within q _) n rs p a =
          lighter-≼-trans n (not_lighter-≼ (λ k. q.least rs (avoiding_path p a) (subst (λ z. Lighter z told) (sym (weight_same true rs)) k)))
      each_heavier (beyond far _) n rs p a =
          ≼-lighter (not_lighter-≼ enough) (subst (Lighter bound) (weight_same true rs) (far rs (avoiding_path p a)))

    pub called_for : {bound left told told' : Weight} → (Lighter bound sum → ⊥) → Reported (search_of N T v false) u bound w told
        → (Lighter left sum → ⊥) → Reported (search_of N T v true) u left w told' → (u ≡ w → ⊥) → (Lighter told sum → ⊥) → Lighter sum told'
        → CalledFor N (table T) v (made_of N (table T) v u w f g)
    called_for enough first enough' second apart n m = record {
      apart = apart;
      into = F;
      out = G;
      mode_kept = refl;
      sums = made_cost N (table T) v u w f g;
      least = λ rs p l. none_lighter enough first n rs p (subst (Lighter (weight N (table T) rs)) costs l);
      alone = λ rs p a. subst (λ z. Lighter z (weight N (table T) rs)) (sym costs) (each_heavier enough' second m rs p a);
    }
      where
        costs : cost (made_of N (table T) v u w f g) ≡ sum
        costs = made_cost N (table T) v u w f g

  -- no shortcut leads from a node back to it, and none where no row leads on from v
  pub none_back : {u : ℕ} {x : Row} → CalledFor N (table T) v x → x.tail ≡ u → x.head ≡ u → ⊥
  none_back C a b = C.apart (a ∙ sym b)

  pub none_on : {w : ℕ} {x : Row} → ((r : ℕ) → Standing N (table T) v r → (row N (table T) r).tail ≡ v → (row N (table T) r).head ≡ w → ⊥)
      → CalledFor N (table T) v x → x.head ≡ w → ⊥
  none_on {x = x} n C b = n x.second C.out.stands C.out.leaves (C.out.enters ∙ b)
