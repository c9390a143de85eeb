-- Tables: where a member of a list stands, rows that are added at the end, and what every row of a sound table keeps to.
use mathlib.Core.Path.{◌≡◌, refl, sym, ◌∙◌, ap, subst, subst₃}
use mathlib.Core.Logic.{inl, inr}
use mathlib.Core.List.{List, [], ◌∷◌, ◌++◌, Memᴰ}
use Prim.Native.Nat.{ℕ, zero, suc, ◌+◌, ◌-◌, ◌<◌, ◌≤◌}
use native.Mathlib.Omega.{arith}
use native.Mathlib.Decide.{dec_lt}
use lib.ListN.{length, get_or, length-append, get_or-append}
use lib.Seq.{get_or-append-add}
use Rattle.network.specs.declared.weight.Weight.{Weight}
use Rattle.network.specs.declared.rows.Row.{Row}
use Rattle.network.specs.Order.{Core}
use Rattle.network.specs.Network.{Network, nodes, edges, node_mode, EdgeFine, Sound}
use Rattle.network.specs.Rows.{no_row, edge_row, row, rows, cost, Joins, SoundRow, SoundTable}
use Rattle.network.proofs.WeightLaws.{⊕-time}
use Rattle.network.proofs.RowLaws.{row_edge, row_short}

-- members and places
pub mem_getD : {A : Type 0} (l : List A) (i : ℕ) (d : A) → i < length l → Memᴰ (get_or l i d) l
mem_getD [] i d h = absurd (omega arith)
mem_getD (x ∷ xs) zero d h = Memᴰ.head refl
mem_getD (x ∷ xs) (suc i) d h = Memᴰ.tail (mem_getD xs i d (omega arith))

pub record Placed {A : Type 0} (x d : A) (l : List A) : Type 0 where
  pub place : ℕ
  pub inside : place < length l
  pub holds : get_or l place d ≡ x

pub mem_place : {A : Type 0} {x : A} (d : A) {l : List A} → Memᴰ x l → Placed x d l
mem_place d (Memᴰ.head e) = record { place = 0; inside = omega arith; holds = sym e }
mem_place d (Memᴰ.tail m) =
    let p = mem_place d m in
    record { place = suc p.place; inside = omega (arith, p.inside); holds = p.holds }

-- rows stay what they are when others are added behind them
pub row_append : (N : Network) (ss new : List Row) (r : ℕ) → r < rows N ss → row N (ss ++ new) r ≡ row N ss r
row_append N ss new r h = go (dec_lt r (edges N))
  where
    go : Dec (r < edges N) → row N (ss ++ new) r ≡ row N ss r
    go (yes l) = row_edge N (ss ++ new) r l ∙ sym (row_edge N ss r l)
    go (no l) =
        row_short N (ss ++ new) r (omega arith)
        ∙ get_or-append ss new no_row (r - edges N) (omega arith)
        ∙ sym (row_short N ss r (omega arith))

pub row_new : (N : Network) (ss new : List Row) (i : ℕ) → row N (ss ++ new) (rows N ss + i) ≡ get_or new i no_row
row_new N ss new i =
    row_short N (ss ++ new) (rows N ss + i) (omega arith)
    ∙ ap (λ k. get_or (ss ++ new) k no_row) back
    ∙ get_or-append-add ss new i no_row
  where
    back : rows N ss + i - edges N ≡ length ss + i
    back = omega arith

pub rows_append : (N : Network) (ss new : List Row) → rows N (ss ++ new) ≡ rows N ss + length new
rows_append N ss new = omega (arith, length-append ss new)

-- the shortcut rows are sound, however many there are
pub record EachSound (N : Network) (ss : List Row) : Type 0 where
  pub each : (r : ℕ) → edges N ≤ r → r < rows N ss → SoundRow N ss r

pub each_sound : {N : Network} {ss : List Row} → SoundTable N ss → EachSound N ss
each_sound t = record { each = t.each }

pub none_sound : {N : Network} → EachSound N []
none_sound = record { each = λ r h k. absurd (omega arith) }

-- row r is x, and its children are a and b
pub sound_by : (N : Network) (ss : List Row) (r : ℕ) (x a b : Row) → row N ss r ≡ x → row N ss x.first ≡ a → row N ss x.second ≡ b
    → x.first < r → x.second < r → Joins N.node_ranks x a b → SoundRow N ss r
sound_by N ss r x a b ex ea eb f s j = record {
  first_lower = subst (λ (z : Row). z.first < r) (sym ex) f;
  second_lower = subst (λ (z : Row). z.second < r) (sym ex) s;
  joins = subst₃ (Joins N.node_ranks) (sym ex)
      (sym ea ∙ ap (λ (z : Row). row N ss z.first) (sym ex))
      (sym eb ∙ ap (λ (z : Row). row N ss z.second) (sym ex)) j;
}

pub sound_append : (N : Network) (ss new : List Row) (r : ℕ) → r < rows N ss → SoundRow N ss r → SoundRow N (ss ++ new) r
sound_append N ss new r l s =
    sound_by N (ss ++ new) r (row N ss r) (row N ss (row N ss r).first) (row N ss (row N ss r).second)
    (row_append N ss new r l)
    (row_append N ss new (row N ss r).first (omega (arith, s.first_lower)))
    (row_append N ss new (row N ss r).second (omega (arith, s.second_lower)))
    s.first_lower s.second_lower s.joins

-- What every row keeps to: it leads from u to x, has the mode m and costs a.
pub record Fine (N : Network) (u x m : ℕ) (a : Weight) : Type 0 where
  pub tail_node : u < nodes N
  pub head_node : x < nodes N
  pub apart : u ≡ x → ⊥
  pub lasts : 1 ≤ a.time
  pub ride : (m ≡ 0 → ⊥) → (node_mode N u ≡ m) × (node_mode N x ≡ m)
  pub link : m ≡ 0 → Core N.node_ranks u × Core N.node_ranks x

abbrev pub FineRow : Network → Row → Type 0
FineRow N x = Fine N x.tail x.head x.mode (cost x)

fine_edge : (N : Network) → Sound N → (e : ℕ) → e < edges N → FineRow N (edge_row N e)
fine_edge N s e h = record {
  tail_node = f.tail_node;
  head_node = f.head_node;
  apart = f.apart;
  lasts = f.lasts;
  ride = λ n. (f.tail_mode n, f.head_mode n);
  link = λ z. (
    (s.transfer_fine _ f.tail_node).core (record { link = e; there = h; is_link = z; touches = inl refl }),
    (s.transfer_fine _ f.head_node).core (record { link = e; there = h; is_link = z; touches = inr refl }),
  );
}
  where
    f : EdgeFine N e
    f = s.edge_fine e h

-- a row that joins two fine ones
fine_joined : {N : Network} {x a b : Row} → Joins N.node_ranks x a b → FineRow N a → FineRow N b → FineRow N x
fine_joined {N} {x} {a} {b} j f g = record {
  tail_node = subst (λ u. u < nodes N) j.ends_fit.starts f.tail_node;
  head_node = subst (λ u. u < nodes N) j.ends_fit.ends g.head_node;
  apart = j.ends_fit.apart;
  lasts = omega (arith, ap (λ w. w.time) j.adds_up.sums, ⊕-time (cost a) (cost b), f.lasts);
  ride = λ n. (
    ap (node_mode N) (sym j.ends_fit.starts) ∙ (f.ride (λ z. n (sym j.one_mode.first_mode ∙ z))).0 ∙ j.one_mode.first_mode,
    ap (node_mode N) (sym j.ends_fit.ends) ∙ (g.ride (λ z. n (sym j.one_mode.second_mode ∙ z))).1 ∙ j.one_mode.second_mode,
  );
  link = λ z. absurd (j.meets_low.not_core (f.link (j.one_mode.first_mode ∙ z)).1);
}

module _ {N : Network} {ss : List Row} (s : Sound N) (t : EachSound N ss) where
  fine_by : (n r : ℕ) → r < n → r < rows N ss → FineRow N (row N ss r)
  fine_by zero r h k = absurd (omega arith)
  fine_by (suc n) r h k = go (dec_lt r (edges N)) (λ c l. fine_by n c (omega arith) (omega arith))
    where
      go : Dec (r < edges N) → ((c : ℕ) → c < r → FineRow N (row N ss c)) → FineRow N (row N ss r)
      go (yes l) ih = subst (FineRow N) (sym (row_edge N ss r l)) (fine_edge N s r l)
      go (no l) ih =
          let x : SoundRow N ss r = t.each r (omega arith) k in
          fine_joined x.joins (ih _ x.first_lower) (ih _ x.second_lower)

  pub fine_row : (r : ℕ) → r < rows N ss → FineRow N (row N ss r)
  fine_row r k = fine_by (suc r) r (omega arith) k

  -- a link is an edge
  pub link_edge : (r : ℕ) → r < rows N ss → (row N ss r).mode ≡ 0 → r < edges N
  link_edge r k z = go (dec_lt r (edges N))
    where
      go : Dec (r < edges N) → r < edges N
      go (yes l) = l
      go (no l) =
          let x : SoundRow N ss r = t.each r (omega arith) k in
          absurd (x.joins.meets_low.not_core ((fine_row _ (omega (arith, x.first_lower))).link (x.joins.one_mode.first_mode ∙ z)).1)
