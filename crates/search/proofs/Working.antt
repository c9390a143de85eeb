-- Rows tried from a place, in the rooms.
use mathlib.Core.Path.{◌≡◌, refl, sym, ap, subst, ◌∙◌}
use mathlib.Core.Logic.{◌⊎◌, inl, inr, ⊎_elim}
use mathlib.Core.Bool.{Bool}
use mathlib.Core.List.{List}
use Prim.Native.Nat.{ℕ, ◌+◌, ◌*◌, ◌/◌, ◌%◌, ◌<◌, ◌≤◌}
use native.Mathlib.Omega.{arith}
use Rattle.network.specs.declared.weight.Weight.{Weight}
use Rattle.network.specs.declared.rows.Row.{Row}
use Rattle.network.specs.Weight.{◌⊕◌}
use Rattle.network.specs.Network.{Network, nodes}
use Rattle.network.specs.declared.sheet.Sheet.{Sheet}
use Rattle.network.specs.Rows.{row, cost}
use Rattle.network.proofs.WeightLaws.{◌≼◌, ≼-not_lighter, ≡-≼, ≼_trans, weight-≡}
use Rattle.search.specs.Graph.{Laws, Same, Better}
use Rattle.search.specs.Places.{Useful}
use Rattle.search.specs.Labels.{
  label,
  word,
  word_by,
  mark,
  row_before,
  place_before,
  hint,
  Falls,
  asked,
  Hinted,
  SameLabels,
  Worked,
  SamePlace,
  NewPlace,
  Offered,
}
use Rattle.search.proofs.Relaxing.{relax_only, relax_join}

-- what a place's new word tells
word_row : (old r low : ℕ) → r < 4096 → low < 16 → word_by old r low / 32 % 4096 ≡ r
word_row old r low a b = let h : word_by old r low / 32 ≡ 4096 * (old / 131072) + r = omega arith in rw h (omega arith)

word_low : (old r low : ℕ) → r < 4096 → low < 16 → word_by old r low / 2 % 16 ≡ low
word_low old r low a b = let h : word_by old r low / 2 ≡ 16 * (4096 * (old / 131072) + r) + low = omega arith in rw h (omega arith)

-- what `SameLabels` keeps
module _ (N : Network) (ss : List Row) (wide : List ℕ) {narrow narrow' : List ℕ} (s : SameLabels (nodes N) narrow narrow') where
  pub labels_label : (v : ℕ) → v < 16 * nodes N → label wide narrow' v ≡ label wide narrow v
  labels_label v l = weight-≡ refl (s.edges_same v l)

  pub labels_row : (v : ℕ) → v < 16 * nodes N → row_before narrow' v ≡ row_before narrow v
  labels_row v l = omega (arith, s.word_same v l)

  labels_low : (v : ℕ) → v < 16 * nodes N → word narrow' v / 2 % 16 ≡ word narrow v / 2 % 16
  labels_low v l = omega (arith, s.word_same v l)

  pub labels_place : (v : ℕ) → v < 16 * nodes N → place_before N ss narrow' v ≡ place_before N ss narrow v
  labels_place v l = rw (labels_row v l, labels_low v l) refl

  pub labels_mark : (v : ℕ) → v < 16 * nodes N → mark narrow' v ≡ mark narrow v
  labels_mark v l = omega (arith, s.word_same v l)

pub same_labels_refl : {n : ℕ} {narrow : List ℕ} → SameLabels n narrow narrow
same_labels_refl = record { size = refl; edges_same = λ p l. refl; word_same = λ p l. refl }

module _ (plain : Bool) (N : Network) (ss : List Row) (S : Sheet) (from to p : ℕ) (w : Weight) where
  -- no arc is asked for: the hints alone have changed
  pub worked_still : {T : ℕ → ℕ → Type 0} {wide narrow narrow' : List ℕ} → SameLabels (nodes N) narrow narrow'
      → Hinted N ss (Falls plain N.node_ranks) to narrow' → ((r v : ℕ) → T r v → Useful N ss S (Falls plain N.node_ranks) to p r v → ⊥)
      → Worked plain N ss S from to p w T wide narrow wide narrow'
  worked_still {T} {wide} {narrow} {narrow'} s h none = record {
    wide_size = refl;
    narrow_size = s.size;
    relaxed = record {
      lower = λ v l. inl (record {
        label = labels_label N ss wide s v l;
        by_row = labels_row N ss wide s v l;
        by_place = labels_place N ss wide s v l;
      });
      bound = λ r v a t. absurd (none r v t a);
    };
    marks = labels_mark N ss wide s;
    hinted = h;
  }

  -- A label is offered to all places that row r leads to from p: `new` is the label on arrival there, and A says which places those are.
  module _ (laws : Laws (asked plain N ss S from to)) (r : ℕ) (A : ℕ → Type 0) (new : Weight) (wide narrow narrow₁ : List ℕ) {wide' narrow' : List ℕ} (few : 16 * nodes N ≤ 8192) (inside : p < 16 * nodes N)
      (small : r < 4096) (leaves : (row N ss r).tail ≡ p / 16) (is_new : new ≡ w ⊕ cost (row N ss r))
      (to_arc : (v : ℕ) → A v → Useful N ss S (Falls plain N.node_ranks) to p r v)
      (from_arc : (v : ℕ) → Useful N ss S (Falls plain N.node_ranks) to p r v → A v)
      (s : SameLabels (nodes N) narrow narrow₁) (h : Hinted N ss (Falls plain N.node_ranks) to narrow₁)
      (o : Offered A 8192 new r (p % 16) wide narrow₁ wide' narrow') where
    word_kept : (v : ℕ) → v < 16 * nodes N → (word narrow' v / 131072 ≡ word narrow₁ v / 131072) × (word narrow' v % 2 ≡ word narrow₁ v % 2)
    word_kept v l = ⊎_elim
        (λ m. (ap (λ (x : ℕ). x / 131072) m.word_same, ap (λ (x : ℕ). x % 2) m.word_same))
        (λ m. (omega (arith, m.1.word_new), omega (arith, m.1.word_new)))
        (o.each v (omega arith))

    hint_kept : (v : ℕ) → v < nodes N → hint narrow' v ≡ hint narrow₁ v
    hint_kept v l = omega (arith, (word_kept (16 * v) (omega arith)).0)

    lower : (v : ℕ) → v < 16 * nodes N → SamePlace wide narrow₁ wide' narrow' v ⊎ (A v × NewPlace new r (p % 16) wide narrow₁ wide' narrow' v)
        → Same (asked plain N ss S from to) (label wide narrow) (label wide' narrow') (row_before narrow) (row_before narrow')
        (place_before N ss narrow) (place_before N ss narrow') v
        ⊎ Better (asked plain N ss S from to) p w (label wide narrow) (label wide' narrow') (row_before narrow') (place_before N ss narrow') v
    lower v l (inl m) = inl (record {
      label = m.label_same ∙ labels_label N ss wide s v l;
      by_row = ap (λ (x : ℕ). x / 32 % 4096) m.word_same ∙ labels_row N ss wide s v l;
      by_place = ap (λ (x : ℕ). 16 * (row N ss (x / 32 % 4096)).tail + x / 2 % 16) m.word_same ∙ labels_place N ss wide s v l;
    })
    lower v l (inr (a, m)) = inr (record {
      row = r;
      arc = to_arc v a;
      label = m.label_new ∙ is_new;
      lighter = λ k. ≼-not_lighter (≼_trans (≡-≼ (labels_label N ss wide s v l)) (≼_trans k (≡-≼ m.label_new))) m.lighter;
      by_row = the_row;
      by_place = rw (the_row, leaves, the_low) (omega arith);
    })
      where
        the_row : row_before narrow' v ≡ r
        the_row = ap (λ (x : ℕ). x / 32 % 4096) m.word_new ∙ word_row (word narrow₁ v) r (p % 16) small (omega arith)

        the_low : word narrow' v / 2 % 16 ≡ p % 16
        the_low = ap (λ (x : ℕ). x / 2 % 16) m.word_new ∙ word_low (word narrow₁ v) r (p % 16) small (omega arith)

    pub worked_offered : Worked plain N ss S from to p w (λ x v. x ≡ r) wide narrow wide' narrow'
    worked_offered = record {
      wide_size = o.wide_size;
      narrow_size = o.narrow_size ∙ s.size;
      relaxed = record {
        lower = λ v l. lower v l (o.each v (omega arith));
        bound = λ x v a e. subst (λ (y : ℕ). label wide' narrow' v ≼ w ⊕ cost (row N ss y)) (sym e)
            (≼_trans (o.bound v (omega (arith, laws.head_in p x v a)) (from_arc v (subst (λ (y : ℕ). Useful N ss S (Falls plain N.node_ranks) to p y v) e a)))
            (≡-≼ is_new));
      };
      marks = λ v l. (word_kept v l).1 ∙ labels_mark N ss wide s v l;
      hinted = record {
        truly = λ v l k. h.truly v l (sym (hint_kept v l) ∙ k);
        falsely = λ v l k. h.falsely v l (sym (hint_kept v l) ∙ k);
      };
    }

  -- some rows tried, and then some more
  pub worked_join : Laws (asked plain N ss S from to) → {T T' : ℕ → ℕ → Type 0} {wide narrow wide' narrow' wide'' narrow'' : List ℕ}
      → Worked plain N ss S from to p w T wide narrow wide' narrow' → Worked plain N ss S from to p w T' wide' narrow' wide'' narrow''
      → Worked plain N ss S from to p w (λ r v. T r v ⊎ T' r v) wide narrow wide'' narrow''
  worked_join laws a b = record {
    wide_size = b.wide_size ∙ a.wide_size;
    narrow_size = b.narrow_size ∙ a.narrow_size;
    relaxed = relax_join laws a.relaxed b.relaxed;
    marks = λ v l. b.marks v l ∙ a.marks v l;
    hinted = b.hinted;
  }

  pub worked_only : {T T' : ℕ → ℕ → Type 0} {wide narrow wide' narrow' : List ℕ} → Worked plain N ss S from to p w T wide narrow wide' narrow'
      → ((r v : ℕ) → T' r v → T r v) → Worked plain N ss S from to p w T' wide narrow wide' narrow'
  worked_only a f = record {
    wide_size = a.wide_size;
    narrow_size = a.narrow_size;
    relaxed = relax_only a.relaxed (λ r v _. f r v);
    marks = a.marks;
    hinted = a.hinted;
  }
