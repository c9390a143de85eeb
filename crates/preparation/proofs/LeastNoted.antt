-- One pass over the rows notes the least rows into v and out of v.
use mathlib.Core.Path.{◌≡◌, refl, sym, ap, subst, ◌∙◌}
use mathlib.Core.List.{List}
use Prim.Native.Nat.{ℕ, ◌+◌, ◌*◌, ◌<◌, ◌≤◌}
use native.Mathlib.Omega.{arith}
use native.Mathlib.Decide.{ℕ_discrete}
use lib.ListN.{length, get_or, set, length-set}
use lib.Seq.{get_or-set_same, get_or-set_other}
use borrow.Author.Count.{below_more}
use Rattle.network.specs.declared.weight.Weight.{Weight}
use Rattle.network.specs.declared.rows.Row.{Row}
use Rattle.network.specs.Weight.{Lighter}
use Rattle.network.specs.Order.{Before}
use Rattle.network.specs.Network.{Network, nodes, edges}
use Rattle.network.specs.Rows.{Columns, row, rows, cost, table}
use Rattle.network.specs.Answers.{row_read}
use Rattle.network.proofs.OrderLaws.{before_irrefl}
use Rattle.network.proofs.WeightLaws.{lighter_irrefl, lighter_trans}
use Rattle.network.proofs.RowLaws.{read_row, row_fine, table_length}
use Rattle.preparation.specs.Contraction.{Standing}
use Rattle.preparation.specs.Preparing.{into_at, out_at, InTurn, Slot, nothing, least, Neighbours}
use Rattle.preparation.specs.Noting.{
  Cleared,
  Noted,
  first_one,
  lighter,
  no_lighter,
  RowNoted,
  EndNoted,
  stands,
  gone,
  into,
  out,
  elsewhere,
}

-- what is noted at one slot -----------------------------------------------------------------------------------------------------------------------

module _ (P : ℕ → Type 0) (price : ℕ → Weight) where
  -- k is the least of the rows below `bound` that P holds of
  record LeastBelow (bound k : ℕ) : Type 0 where
    below : k < bound
    holds : P k
    lightest : (s : ℕ) → s < bound → P s → Lighter (price s) (price k) → ⊥
    lowest : (s : ℕ) → s < bound → P s → price s ≡ price k → k ≤ s

  data SlotBelow (bound k : ℕ) : Type 0 where
    none_below : k ≡ 4096 → ((s : ℕ) → s < bound → P s → ⊥) → SlotBelow bound k
    least_below : LeastBelow bound k → SlotBelow bound k

  module _ (r k : ℕ) where
    -- the row r does not belong there
    other_row : (P r → ⊥) → SlotBelow r k → SlotBelow (r + 1) k
    other_row n (none_below e no_row) = none_below e (below_more _ r no_row n)
    other_row n (least_below b) = least_below (record {
      below = omega (arith, b.below);
      holds = b.holds;
      lightest = below_more _ r b.lightest (λ p _. n p);
      lowest = below_more _ r b.lowest (λ p _. absurd (n p));
    })

    -- it does, and no row was noted
    first_row : r < 4096 → P r → k ≡ 4096 → SlotBelow r k → SlotBelow (r + 1) r
    first_row small p e (none_below _ no_row) = least_below (record {
      below = omega arith;
      holds = p;
      lightest = below_more _ r (λ s l q _. no_row s l q) (λ _ h. lighter_irrefl h);
      lowest = below_more _ r (λ s l q _. absurd (no_row s l q)) (λ _ _. omega arith);
    })
    first_row small p e (least_below b) = absurd (omega (arith, b.below))

    -- it is lighter than the one that was
    lighter_row : P r → (k ≡ 4096 → ⊥) → Lighter (price r) (price k) → SlotBelow r k → SlotBelow (r + 1) r
    lighter_row p n h (none_below e _) = absurd (n e)
    lighter_row p n h (least_below b) = least_below (record {
      below = omega arith;
      holds = p;
      lightest = below_more _ r (λ s l q g. b.lightest s l q (lighter_trans g h)) (λ _ g. lighter_irrefl g);
      lowest = below_more _ r
          (λ s l q e. absurd (b.lightest s l q (subst (λ w. Lighter w (price k)) (sym e) h)))
          (λ _ _. omega arith);
    })

    -- it is not
    heavier_row : (k ≡ 4096 → ⊥) → (Lighter (price r) (price k) → ⊥) → SlotBelow r k → SlotBelow (r + 1) k
    heavier_row n h (none_below e _) = absurd (n e)
    heavier_row n h (least_below b) = least_below (record {
      below = omega (arith, b.below);
      holds = b.holds;
      lightest = below_more _ r b.lightest (λ _ g. h g);
      lowest = below_more _ r b.lowest (λ _ _. omega (arith, b.below));
    })

  -- one row more at the slot where it belongs, in the room
  row_there : (r slot : ℕ) (narrow narrow' : List ℕ) → r < 4096 → slot < length narrow → P r → Noted price (price r) r slot narrow narrow'
      → SlotBelow r (get_or narrow slot 0) → SlotBelow (r + 1) (get_or narrow' slot 0)
  row_there r slot narrow narrow' small inside p t b = go t
    where
      written : narrow' ≡ set narrow slot r → SlotBelow (r + 1) r → SlotBelow (r + 1) (get_or narrow' slot 0)
      written e = subst (SlotBelow (r + 1)) (sym (ap (λ (z : List ℕ). get_or z slot 0) e ∙ get_or-set_same narrow slot r 0 inside))

      go : Noted price (price r) r slot narrow narrow' → SlotBelow (r + 1) (get_or narrow' slot 0)
      go (first_one e w) = written w (first_row r (get_or narrow slot 0) small p e b)
      go (lighter n h w) = written w (lighter_row r (get_or narrow slot 0) p n h b)
      go (no_lighter n h w) =
          subst (λ (z : List ℕ). SlotBelow (r + 1) (get_or z slot 0)) (sym w) (heavier_row r (get_or narrow slot 0) n h b)

noted_size : {price : ℕ → Weight} {new : Weight} (r slot : ℕ) {narrow narrow' : List ℕ} → Noted price new r slot narrow narrow'
    → length narrow' ≡ length narrow
noted_size r slot {narrow} (first_one e w) = ap length w ∙ length-set narrow slot r
noted_size r slot {narrow} (lighter n h w) = ap length w ∙ length-set narrow slot r
noted_size r slot {narrow} (no_lighter n h w) = ap length w

-- no other slot is touched
noted_miss : {price : ℕ → Weight} {new : Weight} (r slot : ℕ) {narrow narrow' : List ℕ} → Noted price new r slot narrow narrow'
    → (i : ℕ) → (i ≡ slot → ⊥) → get_or narrow' i 0 ≡ get_or narrow i 0
noted_miss r slot {narrow} (first_one e w) i n = ap (λ (z : List ℕ). get_or z i 0) w ∙ get_or-set_other narrow slot i r 0 n
noted_miss r slot {narrow} (lighter _ h w) i n = ap (λ (z : List ℕ). get_or z i 0) w ∙ get_or-set_other narrow slot i r 0 n
noted_miss r slot {narrow} (no_lighter _ h w) i n = ap (λ (z : List ℕ). get_or z i 0) w

-- what is noted at all of them --------------------------------------------------------------------------------------------------------------------

-- r is a row from a to b whose ends stand in v's turn
record Meets (ranks : List ℕ) (read : ℕ → Row) (v a b r : ℕ) : Type 0 where
  tail_stands : Before ranks (read r).tail v → ⊥
  head_stands : Before ranks (read r).head v → ⊥
  leaves : (read r).tail ≡ a
  enters : (read r).head ≡ b

-- the least of the rows below `bound` into v and out of v, told by `read`
record NeighboursBelow (ranks : List ℕ) (read : ℕ → Row) (n v bound : ℕ) (narrow : List ℕ) : Type 0 where
  into_below : (x : ℕ) → x < n → SlotBelow (Meets ranks read v x v) (λ s. cost (read s)) bound (get_or narrow (into_at n x) 0)
  out_below : (x : ℕ) → x < n → SlotBelow (Meets ranks read v v x) (λ s. cost (read s)) bound (get_or narrow (out_at n x) 0)

-- what holds of a row whose ends are two nodes
record Apart (read : ℕ → Row) (n r : ℕ) : Type 0 where
  tail_in : (read r).tail < n
  head_in : (read r).head < n
  apart : (read r).tail ≡ (read r).head → ⊥

module _ (ranks : List ℕ) (read : ℕ → Row) (n v r : ℕ) (narrow narrow' : List ℕ) (small : r < 4096) (room : 4 * n ≤ length narrow)
    (fine : Apart read n r) (b : NeighboursBelow ranks read n v r narrow) where
  -- nothing is noted: the row belongs nowhere
  unnoted : ((x : ℕ) → Meets ranks read v x v r → ⊥) → ((x : ℕ) → Meets ranks read v v x r → ⊥) → narrow' ≡ narrow
      → NeighboursBelow ranks read n v (r + 1) narrow'
  unnoted p q e = subst (NeighboursBelow ranks read n v (r + 1)) (sym e) (record {
    into_below = λ x l. other_row (Meets ranks read v x v) (λ s. cost (read s)) r _ (p x) (b.into_below x l);
    out_below = λ x l. other_row (Meets ranks read v v x) (λ s. cost (read s)) r _ (q x) (b.out_below x l);
  })

  noted_into : (read r).head ≡ v → (Before ranks (read r).tail v → ⊥)
      → Noted (λ s. cost (read s)) (cost (read r)) r (into_at n (read r).tail) narrow narrow' → NeighboursBelow ranks read n v (r + 1) narrow'
  noted_into e k t = record {
    into_below = λ x l. at_into x l (ℕ_discrete x (read r).tail);
    out_below = λ x l. subst (SlotBelow (Meets ranks read v v x) (λ s. cost (read s)) (r + 1))
        (sym (noted_miss r (into_at n (read r).tail) t (out_at n x) (λ z. omega (arith, fine.tail_in))))
        (other_row (Meets ranks read v v x) (λ s. cost (read s)) r _ (λ m. fine.apart (m.leaves ∙ sym e)) (b.out_below x l));
  }
    where
      at_into : (x : ℕ) → x < n → Dec (x ≡ (read r).tail)
          → SlotBelow (Meets ranks read v x v) (λ s. cost (read s)) (r + 1) (get_or narrow' (into_at n x) 0)
      at_into x l (yes h) =
          row_there (Meets ranks read v x v) (λ s. cost (read s)) r (into_at n x) narrow narrow' small (omega arith)
          (record { tail_stands = k; head_stands = λ q. before_irrefl (subst (λ z. Before ranks z v) e q); leaves = sym h; enters = e })
          (subst (λ z. Noted (λ s. cost (read s)) (cost (read r)) r (into_at n z) narrow narrow') (sym h) t)
          (b.into_below x l)
      at_into x l (no h) =
          subst (SlotBelow (Meets ranks read v x v) (λ s. cost (read s)) (r + 1))
          (sym (noted_miss r (into_at n (read r).tail) t (into_at n x) (λ z. h (omega arith))))
          (other_row (Meets ranks read v x v) (λ s. cost (read s)) r _ (λ m. h (sym m.leaves)) (b.into_below x l))

  noted_out : (read r).tail ≡ v → (Before ranks (read r).head v → ⊥)
      → Noted (λ s. cost (read s)) (cost (read r)) r (out_at n (read r).head) narrow narrow' → NeighboursBelow ranks read n v (r + 1) narrow'
  noted_out e k t = record {
    into_below = λ x l. subst (SlotBelow (Meets ranks read v x v) (λ s. cost (read s)) (r + 1))
        (sym (noted_miss r (out_at n (read r).head) t (into_at n x) (λ z. omega arith)))
        (other_row (Meets ranks read v x v) (λ s. cost (read s)) r _ (λ m. fine.apart (e ∙ sym m.enters)) (b.into_below x l));
    out_below = λ x l. at_out x l (ℕ_discrete x (read r).head);
  }
    where
      at_out : (x : ℕ) → x < n → Dec (x ≡ (read r).head)
          → SlotBelow (Meets ranks read v v x) (λ s. cost (read s)) (r + 1) (get_or narrow' (out_at n x) 0)
      at_out x l (yes h) =
          row_there (Meets ranks read v v x) (λ s. cost (read s)) r (out_at n x) narrow narrow' small (omega arith)
          (record { tail_stands = λ q. before_irrefl (subst (λ z. Before ranks z v) e q); head_stands = k; leaves = e; enters = sym h })
          (subst (λ z. Noted (λ s. cost (read s)) (cost (read r)) r (out_at n z) narrow narrow') (sym h) t)
          (b.out_below x l)
      at_out x l (no h) =
          subst (SlotBelow (Meets ranks read v v x) (λ s. cost (read s)) (r + 1))
          (sym (noted_miss r (out_at n (read r).head) t (out_at n x) (λ z. h (omega arith))))
          (other_row (Meets ranks read v v x) (λ s. cost (read s)) r _ (λ m. h (sym m.enters)) (b.out_below x l))

  below_one_more : RowNoted ranks read n v r narrow narrow' → NeighboursBelow ranks read n v (r + 1) narrow'
  below_one_more (into e (stands k t)) = noted_into e k t
  below_one_more (into e (gone q same)) = unnoted (λ x m. m.tail_stands q) (λ x m. m.tail_stands q) same
  below_one_more (out e (stands k t)) = noted_out e k t
  below_one_more (out e (gone q same)) = unnoted (λ x m. m.head_stands q) (λ x m. m.head_stands q) same
  below_one_more (elsewhere p q e) = unnoted (λ x m. p m.enters) (λ x m. q m.leaves) e

end_noted_size : {ranks : List ℕ} {price : ℕ → Weight} {v other : ℕ} {new : Weight} (r slot : ℕ) {narrow narrow' : List ℕ}
    → EndNoted ranks price v other new r slot narrow narrow' → length narrow' ≡ length narrow
end_noted_size r slot (stands k t) = noted_size r slot t
end_noted_size r slot (gone q e) = ap length e

row_noted_size : {ranks : List ℕ} {read : ℕ → Row} (n v r : ℕ) {narrow narrow' : List ℕ} → RowNoted ranks read n v r narrow narrow'
    → length narrow' ≡ length narrow
row_noted_size {read = read} n v r (into e t) = end_noted_size r (into_at n (read r).tail) t
row_noted_size {read = read} n v r (out e t) = end_noted_size r (out_at n (read r).head) t
row_noted_size n v r (elsewhere p q e) = ap length e

-- the pass ----------------------------------------------------------------------------------------------------------------------------------------

-- the rows below r have been read, in a room that is `size` long
pub record Noting (N : Network) (T : Columns) (v size : ℕ) (narrow : List ℕ) (r : ℕ) : Type 0 where
  pub within : r ≤ edges N + length T.tails
  pub same_size : length narrow ≡ size
  so_far : NeighboursBelow N.node_ranks (λ s. row_read N T s) (nodes N) v r narrow

pub noting_start : (N : Network) (T : Columns) (v : ℕ) {narrow₀ narrow : List ℕ} → Cleared (nodes N) narrow₀ narrow
    → Noting N T v (length narrow) narrow 0
noting_start N T v c = record {
  within = omega arith;
  same_size = refl;
  so_far = record {
    into_below = λ x l. none_below (c.none (into_at (nodes N) x) (omega arith) (omega arith)) (λ s m. absurd (omega arith));
    out_below = λ x l. none_below (c.none (out_at (nodes N) x) (omega arith) (omega arith)) (λ s m. absurd (omega arith));
  };
}

pub few_read : {N : Network} {T : Columns} {v wide size : ℕ} → InTurn N T v wide size → edges N + length T.tails ≤ 4096
few_read {N} {T} turn = omega (arith, turn.sound_table.few, table_length T)

pub turn_sized : {N : Network} {T : Columns} {v wide size size' : ℕ} → InTurn N T v wide size → size' ≡ size → InTurn N T v wide size'
turn_sized {N} {T} {v} {wide} turn e = subst (InTurn N T v wide) (sym e) turn

module _ (N : Network) (T : Columns) (v : ℕ) {wide size : ℕ} (turn : InTurn N T v wide size) where
  read_apart : (r : ℕ) → r < rows N (table T) → Apart (λ s. row_read N T s) (nodes N) r
  read_apart r l =
      let f = row_fine turn.sound turn.sound_table r l in
      let e = sym (read_row turn.even N r) in
      record {
        tail_in = subst (λ (x : Row). x.tail < nodes N) e f.tail_in;
        head_in = subst (λ (x : Row). x.head < nodes N) e f.head_in;
        apart = subst (λ (x : Row). x.tail ≡ x.head → ⊥) e f.apart;
      }

  module _ {narrow : List ℕ} {r : ℕ} (c : Noting N T v size narrow r) where
    pub noting_more : {narrow' : List ℕ} → r < edges N + length T.tails
        → RowNoted N.node_ranks (λ s. row_read N T s) (nodes N) v r narrow narrow' → Noting N T v size narrow' (r + 1)
    noting_more {narrow'} l t = record {
      within = omega arith;
      same_size = row_noted_size (nodes N) v r t ∙ c.same_size;
      so_far =
          below_one_more N.node_ranks (λ s. row_read N T s) (nodes N) v r narrow narrow' (omega (arith, turn.sound_table.few, there))
          (omega (arith, turn.roomy.narrow_enough, c.same_size)) (read_apart r there) c.so_far t;
    }
      where
        there : r < rows N (table T)
        there = omega (arith, table_length T)

    pub noting_done : edges N + length T.tails ≤ r → Neighbours N (table T) v narrow
    noting_done l = record { into = λ x h. done x v (b.into_below x h); out = λ x h. done v x (b.out_below x h) }
      where
        all : r ≡ rows N (table T)
        all = omega (arith, table_length T, c.within)

        b : NeighboursBelow N.node_ranks (λ s. row N (table T) s) (nodes N) v (rows N (table T)) narrow
        b = subst (λ (f : ℕ → Row). NeighboursBelow N.node_ranks f (nodes N) v (rows N (table T)) narrow) (λ i s. read_row turn.even N s i)
            (subst (λ (k : ℕ). NeighboursBelow N.node_ranks (λ s. row_read N T s) (nodes N) v k narrow) all c.so_far)

        meets : {x y s : ℕ} → Standing N (table T) v s → (row N (table T) s).tail ≡ x → (row N (table T) s).head ≡ y
            → Meets N.node_ranks (λ s. row N (table T) s) v x y s
        meets d p q = record { tail_stands = d.tail_stands; head_stands = d.head_stands; leaves = p; enters = q }

        done : (x y : ℕ) {k : ℕ}
            → SlotBelow (Meets N.node_ranks (λ s. row N (table T) s) v x y) (λ s. cost (row N (table T) s)) (rows N (table T)) k
            → Slot N (table T) v x y k
        done x y (none_below e n) = nothing e (λ s d p q. n s d.there (meets d p q))
        done x y (least_below m) = least (record {
          stands = record { there = m.below; tail_stands = m.holds.tail_stands; head_stands = m.holds.head_stands };
          leaves = m.holds.leaves;
          enters = m.holds.enters;
          lightest = λ s d p q. m.lightest s d.there (meets d p q);
          lowest = λ s d p q. m.lowest s d.there (meets d p q);
        })
