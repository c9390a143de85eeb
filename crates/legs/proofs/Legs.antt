-- The legs of a row, told by the columns of children: those of its children, one behind the other; and they are what the row opens to.
use mathlib.Core.Path.{◌≡◌, refl, sym, ap, ap₂, ◌∙◌, subst}
use mathlib.Core.Bool.{Bool, cond}
use mathlib.Core.List.{List, [], ◌∷◌, ◌++◌}
use Prim.Native.Nat.{ℕ, zero, suc, ◌+◌, ◌-◌, ◌≤◌, ◌<◌}
use native.Mathlib.Omega.{arith}
use native.Mathlib.Decide.{dec_lt}
use lib.ListN.{length, get_or, set, length-append}
use borrow.Author.Tests.{lt-ltb, le-ltb}
use Rattle.network.specs.Network.{Network, edges}
use Rattle.network.specs.Rows.{Columns, Even, row, rows, table, SoundTable}
use Rattle.network.proofs.RowLaws.{row_short, table_at, table_length}
use Rattle.legs.specs.Opening.{opened, opened_by}
use Rattle.legs.specs.Steps.{legs, legs_by, Falling, RowFits, PairFits, Written}
use Rattle.legs.proofs.OpeningLaws.{by_edge, by_pair}
use Rattle.legs.proofs.RoomParts.{first_written}

module _ (m : ℕ) (fs ss : List ℕ) where
  legs_by_edge : (n r : ℕ) → r < m → legs_by (suc n) m fs ss r ≡ r ∷ []
  unfolding legs_by
  legs_by_edge n r h =
      ap (λ (b : Bool). cond b (r ∷ []) (legs_by n m fs ss (get_or fs (r - m) 0) ++ legs_by n m fs ss (get_or ss (r - m) 0))) (lt-ltb r m h)

  legs_by_pair : (n r : ℕ) → m ≤ r → legs_by (suc n) m fs ss r ≡ legs_by n m fs ss (get_or fs (r - m) 0) ++ legs_by n m fs ss (get_or ss (r - m) 0)
  unfolding legs_by
  legs_by_pair n r h =
      ap (λ (b : Bool). cond b (r ∷ []) (legs_by n m fs ss (get_or fs (r - m) 0) ++ legs_by n m fs ss (get_or ss (r - m) 0))) (le-ltb r m h)

  legs_edge : (r : ℕ) → r < m → legs m fs ss r ≡ r ∷ []
  unfolding legs
  legs_edge r h = legs_by_edge r r h

  -- how much above the row the number is does not matter
  module _ (f : Falling m fs ss) where
    fuel : (n k r : ℕ) → r < n → r < k → r < m + length fs → legs_by n m fs ss r ≡ legs_by k m fs ss r
    fuel zero k r a b l = absurd (omega arith)
    fuel (suc n) zero r a b l = absurd (omega arith)
    fuel (suc n) (suc k) r a b l = go (dec_lt r m) (λ c d. fuel n k c (omega arith) (omega arith) (omega arith))
      where
        go : Dec (r < m) → ((c : ℕ) → c < r → legs_by n m fs ss c ≡ legs_by k m fs ss c) → legs_by (suc n) m fs ss r ≡ legs_by (suc k) m fs ss r
        go (yes e) ih = legs_by_edge n r e ∙ sym (legs_by_edge k r e)
        go (no e) ih =
            legs_by_pair n r (omega arith)
            ∙ ap₂ ◌++◌ (ih _ (omega (arith, f.first_lower (r - m) (omega arith)))) (ih _ (omega (arith, f.second_lower (r - m) (omega arith))))
            ∙ sym (legs_by_pair k r (omega arith))

    legs_pair : (r : ℕ) → m ≤ r → r < m + length fs → legs m fs ss r ≡ legs m fs ss (get_or fs (r - m) 0) ++ legs m fs ss (get_or ss (r - m) 0)
    unfolding legs
    legs_pair r h l =
        let a : get_or fs (r - m) 0 < r = omega (arith, f.first_lower (r - m) (omega arith)) in
        let b : get_or ss (r - m) 0 < r = omega (arith, f.second_lower (r - m) (omega arith)) in
        legs_by_pair r r h
        ∙ ap₂ ◌++◌
        (fuel r (suc (get_or fs (r - m) 0)) (get_or fs (r - m) 0) a (omega arith) (omega arith))
        (fuel r (suc (get_or ss (r - m) 0)) (get_or ss (r - m) 0) b (omega arith) (omega arith))

-- what opening an edge needs and leaves
module _ {m : ℕ} {fs ss : List ℕ} {r : ℕ} (room : List ℕ) (f : RowFits m fs ss r (length room)) (h : r < m) where
  pub edge_room : 1 ≤ length room
  edge_room = omega (arith, f.room_enough, ap length (legs_edge m fs ss r h))

  pub edge_written : Written (legs m fs ss r) room 1 (set room 0 r)
  edge_written = rw (legs_edge m fs ss r h) (first_written room r edge_room)

-- what opening a shortcut needs and leaves
module _ {m : ℕ} {fs ss : List ℕ} {r room : ℕ} (f : RowFits m fs ss r room) (h : m ≤ r) where
  -- the row number falls
  pub first_lower : get_or fs (r - m) 0 < r
  first_lower = omega (arith, f.falling.first_lower (r - m) (omega arith))

  pub second_lower : get_or ss (r - m) 0 < r
  second_lower = omega (arith, f.falling.second_lower (r - m) (omega arith))

  pub pair_fits : PairFits m fs ss (get_or fs (r - m) 0) (get_or ss (r - m) 0) room
  pair_fits = record {
    falling = f.falling;
    first_there = omega (arith, first_lower, f.there);
    second_there = omega (arith, second_lower, f.there);
    room_enough = omega (
      arith,
      f.room_enough,
      ap length (legs_pair m fs ss f.falling r h f.there),
      length-append (legs m fs ss (get_or fs (r - m) 0)) (legs m fs ss (get_or ss (r - m) 0)),
    );
  }

  pub row_written : {l l' : List ℕ} {n : ℕ} → Written (legs m fs ss (get_or fs (r - m) 0) ++ legs m fs ss (get_or ss (r - m) 0)) l n l'
      → Written (legs m fs ss r) l n l'
  row_written w = rw (legs_pair m fs ss f.falling r h f.there) w

-- the legs that the columns of a table tell are what its rows open to
module _ {T : Columns} (v : Even T) (N : Network) where
  first_read : (r : ℕ) → edges N ≤ r → (row N (table T) r).first ≡ get_or T.firsts (r - edges N) 0
  first_read r h = ap (λ x. x.first) (row_short N (table T) r h ∙ table_at v (r - edges N))

  second_read : (r : ℕ) → edges N ≤ r → (row N (table T) r).second ≡ get_or T.seconds (r - edges N) 0
  second_read r h = ap (λ x. x.second) (row_short N (table T) r h ∙ table_at v (r - edges N))

  by_legs : (n r : ℕ) → opened_by n N (table T) r ≡ legs_by n (edges N) T.firsts T.seconds r
  unfolding opened_by legs_by
  by_legs zero r = refl
  by_legs (suc n) r = go (dec_lt r (edges N)) (λ c. by_legs n c)
    where
      go : Dec (r < edges N) → ((c : ℕ) → opened_by n N (table T) c ≡ legs_by n (edges N) T.firsts T.seconds c)
          → opened_by (suc n) N (table T) r ≡ legs_by (suc n) (edges N) T.firsts T.seconds r
      go (yes l) ih = by_edge n N (table T) r l ∙ sym (legs_by_edge (edges N) T.firsts T.seconds n r l)
      go (no l) ih =
          let h : edges N ≤ r = omega arith in
          by_pair n N (table T) r h
          ∙ ap₂ ◌++◌
          (ap (λ c. opened_by n N (table T) c) (first_read r h) ∙ ih (get_or T.firsts (r - edges N) 0))
          (ap (λ c. opened_by n N (table T) c) (second_read r h) ∙ ih (get_or T.seconds (r - edges N) 0))
          ∙ sym (legs_by_pair (edges N) T.firsts T.seconds n r h)

  pub opened_legs : (r : ℕ) → opened N (table T) r ≡ legs (edges N) T.firsts T.seconds r
  unfolding opened legs
  opened_legs r = by_legs (suc r) r

  pub table_falling : SoundTable N (table T) → Falling (edges N) T.firsts T.seconds
  table_falling t = record { even = omega (arith, v.firsts_even, v.seconds_even); first_lower = first; second_lower = second }
    where
      there : (i : ℕ) → i < length T.firsts → edges N + i < rows N (table T)
      there i l = omega (arith, v.firsts_even, table_length T)

      at : (i : ℕ) → edges N + i - edges N ≡ i
      at i = omega arith

      first : (i : ℕ) → i < length T.firsts → get_or T.firsts i 0 < edges N + i
      first i l =
          let s = (t.each (edges N + i) (omega arith) (there i l)).first_lower in
          let e = first_read (edges N + i) (omega arith) ∙ ap (λ k. get_or T.firsts k 0) (at i) in
          subst (λ c. c < edges N + i) e s

      second : (i : ℕ) → i < length T.firsts → get_or T.seconds i 0 < edges N + i
      second i l =
          let s = (t.each (edges N + i) (omega arith) (there i l)).second_lower in
          let e = second_read (edges N + i) (omega arith) ∙ ap (λ k. get_or T.seconds k 0) (at i) in
          subst (λ c. c < edges N + i) e s
