-- From the marks of a test to the shortcuts that a node's turn adds: those from one node, and then, node by node, all.
use mathlib.Core.Path.{◌≡◌, refl, sym, ap, subst, ◌∙◌}
use mathlib.Core.Bool.{Bool, cond}
use mathlib.Core.Logic.{◌⊎◌, inl, inr}
use mathlib.Core.List.Memᴰ
use mathlib.Core.List.{
  List,
  [],
  ◌∷◌,
  ◌++◌,
  Memᴰ,
  append-nil,
}
use Prim.Native.Nat.{ℕ, zero, suc, ◌+◌, ◌<◌, ◌≤◌}
use native.Mathlib.Omega.{arith}
use native.Mathlib.Decide.{dec_lt}
use lib.ListN.{length, get_or}
use borrow.Author.Tests.{eq-eqb, ne_eqb}
use Rattle.network.specs.declared.rows.Row.{Row}
use Rattle.network.specs.Network.{Network, nodes, node_mode, Sound}
use Rattle.network.specs.Rows.{SoundTable}
use Rattle.network.proofs.RowLaws.{row_fine}
use Rattle.preparation.specs.Contraction.{CalledFor, Earlier, lower_tail, lower_head, Rising, none, one, more, Adds}
use Rattle.preparation.specs.Preparing.{Slot, nothing, least, row_told, mark_at, Marked, called, not_called, marked_rows, AddsFrom}
use Rattle.preparation.specs.Writing.{marked_row}
use Rattle.preparation.proofs.SortedLists.{Sorted, earlier_trans, earlier_irrefl, rising_sorted}
use Rattle.preparation.proofs.PreparedUnique.{called_unique}

-- lists of rows in order -------------------------------------------------------------------------------------------------------------------------

rising_cons : (x : Row) (ys : List Row) → Rising ys → ((y : Row) → Memᴰ y ys → Earlier x y) → Rising (x ∷ ys)
rising_cons x [] r h = one
rising_cons x (y ∷ ys) r h = more (h y (Memᴰ.head refl)) r

rising_append : {xs ys : List Row} → Rising xs → Rising ys → ((x y : Row) → Memᴰ x xs → Memᴰ y ys → Earlier x y) → Rising (xs ++ ys)
rising_append none r h = r
rising_append {ys = ys} (one {x}) r h = rising_cons x ys r (λ y m. h x y (Memᴰ.head refl) m)
rising_append (more e t) r h = more e (rising_append t r (λ x y m. h x y (Memᴰ.tail m)))

-- a list that rises by a strict order has no more members than another that has all of them
module _ {A : Type 0} (R : A → A → Type 0) (trans : (x y z : A) → R x y → R y z → R x z) (irrefl : (x : A) → R x x → ⊥) where
  sorted_fewer : (ys xs : List A) → Sorted R ys → Sorted R xs → ((z : A) → Memᴰ z xs → Memᴰ z ys) → length xs ≤ length ys
  sorted_fewer [] [] t s f = omega arith
  sorted_fewer [] (x ∷ xs) t s f = absurd (Memᴰ.not-nil (f x (Memᴰ.head refl)))
  sorted_fewer (y ∷ ys) [] t s f = omega arith
  sorted_fewer (y ∷ ys) (x ∷ xs) t s f = go (Memᴰ.cases_cons (f x (Memᴰ.head refl))) (λ zs u g. sorted_fewer ys zs t.1 u g)
    where
      -- where they begin alike, the others follow in both
      later : x ≡ y → (z : A) → Memᴰ z xs → (z ≡ y) ⊎ Memᴰ z ys → Memᴰ z ys
      later e z m (inl d) = absurd (irrefl x (subst (R x) (d ∙ sym e) (s.0 z m)))
      later e z m (inr n) = n

      -- where x comes after y, so do all from x on
      past : R y x → (z : A) → (z ≡ x) ⊎ Memᴰ z xs → (z ≡ y) ⊎ Memᴰ z ys → Memᴰ z ys
      past h z (inl d) (inl e) = absurd (irrefl x (subst (λ (a : A). R a x) (sym e ∙ d) h))
      past h z (inr m) (inl e) = absurd (irrefl x (trans x y x (subst (R x) e (s.0 z m)) h))
      past h z q (inr n) = n

      go : (x ≡ y) ⊎ Memᴰ x ys
          → ((zs : List A) → Sorted R zs → ((z : A) → Memᴰ z zs → Memᴰ z ys) → length zs ≤ length ys) → length (x ∷ xs) ≤ length (y ∷ ys)
      go (inl e) ih =
          let h : length xs ≤ length ys = ih xs s.1 (λ z m. later e z m (Memᴰ.cases_cons (f z (Memᴰ.tail m)))) in
          omega arith
      go (inr n) ih =
          let h : length (x ∷ xs) ≤ length ys = ih (x ∷ xs) s (λ z m. past (t.0 x n) z (Memᴰ.cases_cons m) (Memᴰ.cases_cons (f z m))) in
          omega arith

-- shortcuts that v calls for, in order, are no more than all of them
pub too_many : {N : Network} {ss : List Row} {v : ℕ} {new all : List Row} → ((x : Row) → Memᴰ x new → CalledFor N ss v x) → Rising new
    → Adds N ss v all → length new ≤ length all
too_many {new = new} {all = all} only r a =
    sorted_fewer Earlier (λ x y z. earlier_trans) (λ x. earlier_irrefl) all new (rising_sorted a.in_order) (rising_sorted r)
    (λ x m. a.all x (only x m))

-- the ends of a shortcut that is called for are nodes --------------------------------------------------------------------------------------------

module _ {N : Network} {ss : List Row} {v : ℕ} (sound : Sound N) (table : SoundTable N ss) {x : Row} (c : CalledFor N ss v x) where
  tail_node : x.tail < nodes N
  tail_node = subst (λ (y : ℕ). y < nodes N) c.into.leaves (row_fine sound table x.first c.into.stands.there).tail_in

  head_node : x.head < nodes N
  head_node = subst (λ (y : ℕ). y < nodes N) c.out.enters (row_fine sound table x.second c.out.stands.there).head_in

-- the shortcuts from u ---------------------------------------------------------------------------------------------------------------------------

-- those to the nodes below k
record AddsTo (N : Network) (ss : List Row) (v u k : ℕ) (new : List Row) : Type 0 where
  only : (x : Row) → Memᴰ x new → CalledFor N ss v x
  only_from : (x : Row) → Memᴰ x new → x.tail ≡ u
  only_below : (x : Row) → Memᴰ x new → x.head < k
  all : (x : Row) → CalledFor N ss v x → x.tail ≡ u → x.head < k → Memᴰ x new
  in_order : Rising new

adds_to_none : {N : Network} {ss : List Row} {v u : ℕ} → AddsTo N ss v u 0 []
adds_to_none = record {
  only = λ x m. absurd (Memᴰ.not-nil m);
  only_from = λ x m. absurd (Memᴰ.not-nil m);
  only_below = λ x m. absurd (Memᴰ.not-nil m);
  all = λ x c e l. absurd (omega arith);
  in_order = none;
}

module _ {N : Network} {ss : List Row} {v u k : ℕ} {new : List Row} (a : AddsTo N ss v u k new) where
  -- the shortcut y to k is called for
  adds_to_more : (y : Row) → CalledFor N ss v y → y.tail ≡ u → y.head ≡ k → AddsTo N ss v u (suc k) (new ++ (y ∷ []))
  adds_to_more y c t h = record {
    only = λ x m. only_either x (Memᴰ.append_cases new m);
    only_from = λ x m. from_either x (Memᴰ.append_cases new m);
    only_below = λ x m. below_either x (Memᴰ.append_cases new m);
    all = λ x d e l. all_either x d e (dec_lt x.head k) l;
    in_order = rising_append a.in_order one (λ x z m n. before x z m (Memᴰ.eq_of_singleton n));
  }
    where
      only_either : (x : Row) → Memᴰ x new ⊎ Memᴰ x (y ∷ []) → CalledFor N ss v x
      only_either x (inl m) = a.only x m
      only_either x (inr m) = subst (CalledFor N ss v) (sym (Memᴰ.eq_of_singleton m)) c

      from_either : (x : Row) → Memᴰ x new ⊎ Memᴰ x (y ∷ []) → x.tail ≡ u
      from_either x (inl m) = a.only_from x m
      from_either x (inr m) = ap (λ (z : Row). z.tail) (Memᴰ.eq_of_singleton m) ∙ t

      below_either : (x : Row) → Memᴰ x new ⊎ Memᴰ x (y ∷ []) → x.head < suc k
      below_either x (inl m) = omega (arith, a.only_below x m)
      below_either x (inr m) = omega (arith, ap (λ (z : Row). z.head) (Memᴰ.eq_of_singleton m), h)

      all_either : (x : Row) → CalledFor N ss v x → x.tail ≡ u → Dec (x.head < k) → x.head < suc k → Memᴰ x (new ++ (y ∷ []))
      all_either x d e (yes b) l = Memᴰ.append_left (y ∷ []) (a.all x d e b)
      all_either x d e (no b) l =
          let z : x.head ≡ y.head = omega arith in
          Memᴰ.append_right new (Memᴰ.head (called_unique d c (e ∙ sym t) z))

      before : (x z : Row) → Memᴰ x new → z ≡ y → Earlier x z
      before x z m e =
          let i : x.tail ≡ z.tail = a.only_from x m ∙ sym t ∙ ap (λ (r : Row). r.tail) (sym e) in
          let j : z.head ≡ k = ap (λ (r : Row). r.head) e ∙ h in
          lower_head i (omega (arith, a.only_below x m))

  -- none to k is
  adds_to_same : ((y : Row) → CalledFor N ss v y → y.tail ≡ u → y.head ≡ k → ⊥) → AddsTo N ss v u (suc k) new
  adds_to_same n = record {
    only = a.only;
    only_from = a.only_from;
    only_below = λ x m. omega (arith, a.only_below x m);
    all = λ x d e l. either x d e (dec_lt x.head k) l;
    in_order = a.in_order;
  }
    where
      either : (x : Row) → CalledFor N ss v x → x.tail ≡ u → Dec (x.head < k) → x.head < suc k → Memᴰ x new
      either x d e (yes b) l = a.all x d e b
      either x d e (no b) l = let z : x.head ≡ k = omega arith in absurd (n x d e z)

-- a mark tells whether there is a row
pub row_marked : (n mode u w : ℕ) (wide narrow : List ℕ) → get_or narrow (mark_at n w) 0 ≡ 1
    → marked_row n mode u w wide narrow ≡ row_told n mode u w wide narrow ∷ []
row_marked n mode u w wide narrow e =
    ap (λ (b : Bool). cond b (row_told n mode u w wide narrow ∷ []) []) (eq-eqb (get_or narrow (mark_at n w) 0) 1 e)

pub row_unmarked : (n mode u w : ℕ) (wide narrow : List ℕ) → (get_or narrow (mark_at n w) 0 ≡ 1 → ⊥) → marked_row n mode u w wide narrow ≡ []
row_unmarked n mode u w wide narrow e =
    ap (λ (b : Bool). cond b (row_told n mode u w wide narrow ∷ []) []) (ne_eqb (get_or narrow (mark_at n w) 0) 1 e)

module _ {N : Network} {ss : List Row} {v : ℕ} (u : ℕ) (wide narrow : List ℕ)
    (marks : (w : ℕ) → w < nodes N
    → Marked N ss v u w (get_or narrow (mark_at (nodes N) w) 0) (row_told (nodes N) (node_mode N v) u w wide narrow)) where
  marked_to : (k : ℕ) → k ≤ nodes N → AddsTo N ss v u k (marked_rows (nodes N) (node_mode N v) u wide narrow k)
  unfolding marked_rows
  marked_to zero l = adds_to_none
  marked_to (suc k) l = go (marked_to k (omega arith)) (marks k (omega arith))
    where
      go : AddsTo N ss v u k (marked_rows (nodes N) (node_mode N v) u wide narrow k)
          → Marked N ss v u k (get_or narrow (mark_at (nodes N) k) 0) (row_told (nodes N) (node_mode N v) u k wide narrow)
          → AddsTo N ss v u (suc k)
          (marked_rows (nodes N) (node_mode N v) u wide narrow k ++ marked_row (nodes N) (node_mode N v) u k wide narrow)
      go a (called e c) =
          subst (λ (l : List Row). AddsTo N ss v u (suc k) (marked_rows (nodes N) (node_mode N v) u wide narrow k ++ l))
          (sym (row_marked (nodes N) (node_mode N v) u k wide narrow e))
          (adds_to_more a (row_told (nodes N) (node_mode N v) u k wide narrow) c refl refl)
      go a (not_called e n) =
          subst (λ (l : List Row). AddsTo N ss v u (suc k) (marked_rows (nodes N) (node_mode N v) u wide narrow k ++ l))
          (sym (row_unmarked (nodes N) (node_mode N v) u k wide narrow (λ z. omega arith)))
          (subst (AddsTo N ss v u (suc k)) (sym (append-nil (marked_rows (nodes N) (node_mode N v) u wide narrow k))) (adds_to_same a n))

  -- the marked rows are the shortcuts from u
  pub marked_adds : Sound N → SoundTable N ss → AddsFrom N ss v u (marked_rows (nodes N) (node_mode N v) u wide narrow (nodes N))
  marked_adds sound table =
      let a = marked_to (nodes N) (omega arith) in
      record {
        only = a.only;
        only_from = a.only_from;
        all = λ x c e. a.all x c e (head_node sound table c);
        in_order = a.in_order;
      }

-- no row leads from u to v: no shortcut from u
pub adds_skip : {N : Network} {ss : List Row} {v u : ℕ} → SoundTable N ss → Slot N ss v u v 4096 → AddsFrom N ss v u []
adds_skip {N} {ss} {v} {u} table slot = record {
  only = λ x m. absurd (Memᴰ.not-nil m);
  only_from = λ x m. absurd (Memᴰ.not-nil m);
  all = λ x c e. absurd (not slot x c e);
  in_order = none;
}
  where
    not : Slot N ss v u v 4096 → (x : Row) → CalledFor N ss v x → x.tail ≡ u → ⊥
    not (nothing e n) x c t = n x.first c.into.stands (c.into.leaves ∙ t) c.into.enters
    not (least r) x c t = omega (arith, r.stands.there, table.few)

-- from node to node ------------------------------------------------------------------------------------------------------------------------------

-- the shortcuts from the nodes below k that v calls for
pub record AddsBelow (N : Network) (ss : List Row) (v k : ℕ) (new : List Row) : Type 0 where
  pub only : (x : Row) → Memᴰ x new → CalledFor N ss v x
  pub only_below : (x : Row) → Memᴰ x new → x.tail < k
  pub all : (x : Row) → CalledFor N ss v x → x.tail < k → Memᴰ x new
  pub in_order : Rising new

pub adds_none : {N : Network} {ss : List Row} {v : ℕ} → AddsBelow N ss v 0 []
adds_none = record {
  only = λ x m. absurd (Memᴰ.not-nil m);
  only_below = λ x m. absurd (Memᴰ.not-nil m);
  all = λ x c l. absurd (omega arith);
  in_order = none;
}

pub adds_more : {N : Network} {ss : List Row} {v u : ℕ} {new further : List Row} → AddsBelow N ss v u new → AddsFrom N ss v u further
    → AddsBelow N ss v (u + 1) (new ++ further)
adds_more {N} {ss} {v} {u} {new} {further} a b = record {
  only = λ x m. only_either x (Memᴰ.append_cases new m);
  only_below = λ x m. below_either x (Memᴰ.append_cases new m);
  all = λ x c l. all_either x c (dec_lt x.tail u) l;
  in_order = rising_append a.in_order b.in_order (λ x y m n. lower_tail (omega (arith, a.only_below x m, b.only_from y n)));
}
  where
    only_either : (x : Row) → Memᴰ x new ⊎ Memᴰ x further → CalledFor N ss v x
    only_either x (inl m) = a.only x m
    only_either x (inr m) = b.only x m

    below_either : (x : Row) → Memᴰ x new ⊎ Memᴰ x further → x.tail < u + 1
    below_either x (inl m) = omega (arith, a.only_below x m)
    below_either x (inr m) = omega (arith, b.only_from x m)

    all_either : (x : Row) → CalledFor N ss v x → Dec (x.tail < u) → x.tail < u + 1 → Memᴰ x (new ++ further)
    all_either x c (yes h) l = Memᴰ.append_left further (a.all x c h)
    all_either x c (no h) l = let z : x.tail ≡ u = omega arith in Memᴰ.append_right new (b.all x c z)

pub adds_done : {N : Network} {ss : List Row} {v : ℕ} {new : List Row} → Sound N → SoundTable N ss → AddsBelow N ss v (nodes N) new
    → Adds N ss v new
adds_done sound table a = record { only = a.only; all = λ x c. a.all x c (tail_node sound table c); in_order = a.in_order }
