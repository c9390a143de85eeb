-- One row tried from a place.
use mathlib.Core.Path.{◌≡◌, refl, sym, ap, subst, subst₂, ◌∙◌}
use mathlib.Core.Logic.{inl, inr}
use mathlib.Core.List.{List}
use Prim.Native.Nat.{ℕ, ◌+◌, ◌*◌, ◌/◌, ◌%◌, ◌<◌, ◌≤◌}
use native.Mathlib.Omega.{arith}
use native.Mathlib.Decide.{dec_lt}
use lib.ListN.{length}
use Rattle.network.specs.declared.weight.Weight.{Weight}
use Rattle.network.specs.declared.rows.Row.{Row}
use Rattle.network.specs.Weight.{◌⊕◌, Sum}
use Rattle.network.specs.Network.{Network, nodes, edges}
use Rattle.network.specs.Rows.{Columns, row, rows, cost, table}
use Rattle.network.specs.Answers.{row_read, tail_read}
use Rattle.network.proofs.WeightLaws.{sum_held}
use Rattle.network.proofs.RowLaws.{read_row, tail_read_row, row_fine, table_length}
use Rattle.search.specs.Graph.{Laws}
use Rattle.search.specs.Places.{place, state_of, Useful}
use Rattle.search.specs.Labels.{asked, SameLabels, Offered}
use Rattle.search.specs.Steps.{Arrives}
use Rattle.search.specs.Questions.{roads, table_of, row_count, down, Light, Hinted, Homeward, Worked}
use Rattle.search.specs.declared.question.Question.{Question}
use Rattle.network.specs.Lent.{columns_of}
use Rattle.search.proofs.Places.{phase_down, phase_level, move_to, useful_home, level_at, down_at}
use Rattle.search.proofs.Searches.{search_laws}
use Rattle.search.proofs.Working.{worked_still, worked_offered, worked_join, worked_only, same_labels_refl}

-- the rows that the columns hold
in_table : (N : Network) (T : Columns) {r : ℕ} → r < edges N + length T.tails → r < rows N (table T)
in_table N T l = omega (arith, table_length T)

pub laws_of : (Q : Question) → Laws (asked Q.plain (roads Q) (table_of Q) Q.sheet Q.from Q.to)
laws_of Q = search_laws Q.accepted.sound Q.accepted.sound_table Q.from_in

module _ (Q : Question) (p : ℕ) (w : Weight) (r : ℕ) (wide : List ℕ) (counted : r < row_count Q) (inside : p < 16 * nodes (roads Q))
    {x : Row} (ex : x ≡ row_read (roads Q) (columns_of Q.shortcuts) r) where
  there : r < rows (roads Q) (table_of Q)
  there = in_table (roads Q) (columns_of Q.shortcuts) counted

  read : x ≡ row (roads Q) (table_of Q) r
  read = ex ∙ read_row Q.accepted.even (roads Q) r

  pub attempt_elsewhere : {narrow : List ℕ} {t : ℕ} → t ≡ tail_read Q.network.tails.now Q.shortcuts.tails.now r → (t ≡ p / 16 → ⊥) → Hinted Q narrow
      → Worked Q p w (λ s v. s ≡ r) wide narrow wide narrow
  attempt_elsewhere et n h = worked_still Q.plain (roads Q) (table_of Q) Q.sheet Q.from Q.to p w same_labels_refl h
      (λ s v e u. n (et ∙ tail_read_row (roads Q) (columns_of Q.shortcuts) r ∙ ap (λ y. y.tail) (sym ex ∙ read) ∙ ap (λ y. (row (roads Q) (table_of Q) y).tail) (sym e) ∙ u.move.leaves))

  module _ {t : ℕ} (et : t ≡ tail_read Q.network.tails.now Q.shortcuts.tails.now r) (here : t ≡ p / 16) where
    leaves : x.tail ≡ p / 16
    leaves = ap (λ y. y.tail) ex ∙ sym (et ∙ tail_read_row (roads Q) (columns_of Q.shortcuts) r) ∙ here

    at_tail : (row (roads Q) (table_of Q) r).tail ≡ p / 16
    at_tail = ap (λ y. y.tail) (sym read) ∙ leaves

    -- a row that leads down to where the target cannot be reached
    pub attempt_lost : {narrow narrow₁ : List ℕ} → down Q x.head x.tail
        → (Homeward Q x.head → ⊥) → SameLabels (nodes (roads Q)) narrow narrow₁
        → Hinted Q narrow₁
        → Worked Q p w (λ s v. s ≡ r) wide narrow wide narrow₁
    attempt_lost d n s h = worked_still Q.plain (roads Q) (table_of Q) Q.sheet Q.from Q.to p w s h (λ y v e u. n (subst (λ z. Homeward Q z.head)
        (ap (row (roads Q) (table_of Q)) e ∙ sym read) (useful_home u (subst (λ z. down Q z.head z.tail) (read ∙ ap (row (roads Q) (table_of Q)) (sym e)) d))))

    -- a row that does not lead down, from where the search has begun to descend
    pub attempt_stuck : {narrow : List ℕ} → (down Q x.head x.tail → ⊥) → (p % 2 ≡ 0 → ⊥)
        → Hinted Q narrow → Worked Q p w (λ s v. s ≡ r) wide narrow wide narrow
    attempt_stuck n f h = worked_still Q.plain (roads Q) (table_of Q) Q.sheet Q.from Q.to p w same_labels_refl h (λ y v e u. f (phase_level u.move.phase
        (λ d. n (subst (λ z. down Q z.head z.tail) (ap (row (roads Q) (table_of Q)) e ∙ sym read) d))).0)

    module _ (light : Light Q w) {c new : Weight} (ec : c ≡ cost x) (sum : Sum w c new) where
      is_new : new ≡ w ⊕ cost (row (roads Q) (table_of Q) r)
      is_new = sum_held (subst (λ y. Sum w y new) (ec ∙ ap cost read) sum) (light.each r there)

      q8 : p / 2 % 8 < 8
      q8 = omega arith

      p_parts : place (p / 16) (p / 2 % 8) (p % 2) ≡ p
      p_parts = omega arith

      few : 16 * nodes (roads Q) ≤ 8192
      few = omega (arith, Q.accepted.sound.sized.few_nodes)

      small : r < 4096
      small = omega (arith, there, Q.accepted.sound_table.few)

      -- a row that leads down towards the target
      pub attempt_down : {narrow narrow₁ wide' narrow' : List ℕ} → down Q x.head x.tail
          → Homeward Q x.head → SameLabels (nodes (roads Q)) narrow narrow₁
          → Hinted Q narrow₁
          → Offered (Arrives Q.sheet x.mode (p / 2 % 8) (16 * x.head + 1)) 8192 new r (p % 16) wide narrow₁ wide' narrow'
          → Worked Q p w (λ s v. s ≡ r) wide narrow wide' narrow'
      attempt_down {narrow} {narrow₁} {wide'} {narrow'} d homing s h o =
          worked_offered Q.plain (roads Q) (table_of Q) Q.sheet Q.from Q.to p w (laws_of Q) r (Arrives Q.sheet (row (roads Q) (table_of Q) r).mode (p / 2 % 8) (16 * (row (roads Q) (table_of Q) r).head + 1))
          new wide narrow narrow₁ few inside small at_tail is_new to_arc from_arc s h
          (subst (λ y. Offered (Arrives Q.sheet y.mode (p / 2 % 8) (16 * y.head + 1)) 8192 new r (p % 16) wide narrow₁ wide' narrow') read o)
        where
          down_row : down Q (row (roads Q) (table_of Q) r).head (row (roads Q) (table_of Q) r).tail
          down_row = subst (λ z. down Q z.head z.tail) read d

          to_arc : (v : ℕ) → Arrives Q.sheet (row (roads Q) (table_of Q) r).mode (p / 2 % 8) (16 * (row (roads Q) (table_of Q) r).head + 1) v
              → Useful (roads Q) (table_of Q) Q.sheet (down Q) Q.to p r v
          to_arc v a =
              let e : place (row (roads Q) (table_of Q) r).head a.state 1 ≡ v = omega (arith, a.there) in
              subst₂ (λ y z. Useful (roads Q) (table_of Q) Q.sheet (down Q) Q.to y r z) p_parts e
              (down_at there at_tail refl a.shift q8 a.small (omega arith) down_row
              (subst (λ z. Homeward Q z.head) read homing))

          from_arc : (v : ℕ) → Useful (roads Q) (table_of Q) Q.sheet (down Q) Q.to p r v
              → Arrives Q.sheet (row (roads Q) (table_of Q) r).mode (p / 2 % 8) (16 * (row (roads Q) (table_of Q) r).head + 1) v
          from_arc v u = record {
            state = state_of v;
            small = omega arith;
            shift = u.move.shift;
            there = omega (arith, move_to u.move, phase_down u.move.phase down_row);
          }

      -- a row that does not lead down
      pub attempt_level : {narrow wide' narrow' : List ℕ} → (down Q x.head x.tail → ⊥) → p % 2 ≡ 0
          → Hinted Q narrow
          → Offered (Arrives Q.sheet x.mode (p / 2 % 8) (16 * x.head)) 8192 new r (p % 16) wide narrow wide' narrow'
          → Worked Q p w (λ s v. s ≡ r) wide narrow wide' narrow'
      attempt_level {narrow} {wide'} {narrow'} n f h o =
          worked_offered Q.plain (roads Q) (table_of Q) Q.sheet Q.from Q.to p w (laws_of Q) r (Arrives Q.sheet (row (roads Q) (table_of Q) r).mode (p / 2 % 8) (16 * (row (roads Q) (table_of Q) r).head))
          new wide narrow narrow few inside small at_tail is_new to_arc from_arc same_labels_refl h
          (subst (λ y. Offered (Arrives Q.sheet y.mode (p / 2 % 8) (16 * y.head)) 8192 new r (p % 16) wide narrow wide' narrow') read o)
        where
          not_down : down Q (row (roads Q) (table_of Q) r).head (row (roads Q) (table_of Q) r).tail → ⊥
          not_down d = n (subst (λ z. down Q z.head z.tail) (sym read) d)

          to_arc : (v : ℕ) → Arrives Q.sheet (row (roads Q) (table_of Q) r).mode (p / 2 % 8) (16 * (row (roads Q) (table_of Q) r).head) v
              → Useful (roads Q) (table_of Q) Q.sheet (down Q) Q.to p r v
          to_arc v a =
              let e : place (row (roads Q) (table_of Q) r).head a.state 0 ≡ v = omega (arith, a.there) in
              let g : place (p / 16) (p / 2 % 8) 0 ≡ p = omega arith in
              subst₂ (λ y z. Useful (roads Q) (table_of Q) Q.sheet (down Q) Q.to y r z) g e
              (level_at there at_tail refl a.shift q8 a.small not_down)

          from_arc : (v : ℕ) → Useful (roads Q) (table_of Q) Q.sheet (down Q) Q.to p r v
              → Arrives Q.sheet (row (roads Q) (table_of Q) r).mode (p / 2 % 8) (16 * (row (roads Q) (table_of Q) r).head) v
          from_arc v u = record {
            state = state_of v;
            small = omega arith;
            shift = u.move.shift;
            there = omega (arith, move_to u.move, (phase_level u.move.phase not_down).1);
          }

-- what holds of a row that was read
module _ (Q : Question) {r : ℕ} (counted : r < row_count Q) where
  pub small_row : r < 4096
  small_row = omega (arith, in_table (roads Q) (columns_of Q.shortcuts) counted, Q.accepted.sound_table.few)

  module _ {x : Row} (ex : x ≡ row_read (roads Q) (columns_of Q.shortcuts) r) where
    pub head_in : x.head < nodes (roads Q)
    head_in = subst (λ y. y.head < nodes (roads Q)) (sym (ex ∙ read_row Q.accepted.even (roads Q) r))
        (row_fine Q.accepted.sound Q.accepted.sound_table r (in_table (roads Q) (columns_of Q.shortcuts) counted)).head_in

    pub mode_known : x.mode ≤ 7
    mode_known = subst (λ y. y.mode ≤ 7) (sym (ex ∙ read_row Q.accepted.even (roads Q) r))
        (row_fine Q.accepted.sound Q.accepted.sound_table r (in_table (roads Q) (columns_of Q.shortcuts) counted)).known_mode

-- all rows below r have been tried
pub record TryingRows (Q : Question) (p : ℕ) (w : Weight) (wide₀ narrow₀ wide narrow : List ℕ) (end r : ℕ) : Type 0 where
  pub within : r ≤ end
  pub worked : Worked Q p w (λ s v. s < r) wide₀ narrow₀ wide narrow

module _ {Q : Question} {p : ℕ} {w : Weight} {wide₀ narrow₀ wide narrow : List ℕ} {end r : ℕ} (t : TryingRows Q p w wide₀ narrow₀ wide narrow end r) where
  pub rows_more : {wide' narrow' : List ℕ} → r < end → Worked Q p w (λ s v. s ≡ r) wide narrow wide' narrow'
      → TryingRows Q p w wide₀ narrow₀ wide' narrow' end (r + 1)
  rows_more l a = record {
    within = omega arith;
    worked = worked_only Q.plain (roads Q) (table_of Q) Q.sheet Q.from Q.to p w
        (worked_join Q.plain (roads Q) (table_of Q) Q.sheet Q.from Q.to p w (laws_of Q) t.worked a)
        (λ s v h. elim (dec_lt s r) [ yes k ↦ inl k | no k ↦ inr (omega arith) ]);
  }

  pub rows_done : end ≤ r → Worked Q p w (λ s v. s < end) wide₀ narrow₀ wide narrow
  rows_done l = worked_only Q.plain (roads Q) (table_of Q) Q.sheet Q.from Q.to p w t.worked (λ s v h. omega (arith, t.within))
