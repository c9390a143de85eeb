-- What an offered label does to the rooms.
use mathlib.Core.Path.{◌≡◌, refl, sym, ap, subst, subst₂, ◌∙◌}
use mathlib.Core.Logic.{◌⊎◌, inl, inr, ⊎_elim}
use mathlib.Core.List.{List}
use Prim.Native.Nat.{ℕ, ◌+◌, ◌*◌, ◌<◌}
use native.Mathlib.Omega.{arith}
use native.Mathlib.Decide.{ℕ_discrete}
use lib.ListN.{length, get_or, set, length-set}
use lib.Seq.{get_or-set_same, get_or-set_other}
use Rattle.network.specs.declared.weight.Weight.{Weight}
use Rattle.network.specs.Weight.{Lighter}
use Rattle.network.proofs.WeightLaws.{◌≼◌, ≼_trans, ≡-≼, lighter-≼, not_lighter-≼, weight-≡, lighter_irrefl}
use Rattle.search.specs.Labels.{label, word, word_by, Offer, declined, taken, SamePlace, NewPlace, Offered}

same_place : {wide narrow : List ℕ} {v : ℕ} → SamePlace wide narrow wide narrow v
same_place = record { label_same = refl; word_same = refl }

module _ {n : ℕ} {new : Weight} {r low : ℕ} {wide narrow : List ℕ} where
  -- no place was asked
  pub offer_none : {A : ℕ → Type 0} → ((v : ℕ) → A v → ⊥) → Offered A n new r low wide narrow wide narrow
  offer_none e = record { wide_size = refl; narrow_size = refl; each = λ v l. inl same_place; bound = λ v l a. absurd (e v a) }

  -- the one place has a label that is no heavier
  pub offer_keep : (p : ℕ) → (Lighter new (label wide narrow p) → ⊥) → Offered (λ v. v ≡ p) n new r low wide narrow wide narrow
  offer_keep p h = record {
    wide_size = refl;
    narrow_size = refl;
    each = λ v l. inl same_place;
    bound = λ v l e. subst (λ (x : ℕ). label wide narrow x ≼ new) (sym e) (not_lighter-≼ h);
  }

-- it takes the label
module _ (n : ℕ) (new : Weight) (r low : ℕ) (wide narrow : List ℕ) {wide' narrow' : List ℕ} (p : ℕ) (in_wide : p < length wide) (in_narrow : 2 * p + 1 < length narrow)
    (ew : wide' ≡ set wide p new.time)
    (en : narrow' ≡ set (set narrow (2 * p) new.edges) (2 * p + 1) (word_by (word narrow p) r low)) where
  hit_label : label wide' narrow' p ≡ new
  hit_label = weight-≡
      (ap (λ (l : List ℕ). get_or l p 0) ew ∙ get_or-set_same wide p new.time 0 in_wide)
      (ap (λ (l : List ℕ). get_or l (2 * p) 0) en
      ∙ get_or-set_other (set narrow (2 * p) new.edges) (2 * p + 1) (2 * p) (word_by (word narrow p) r low) 0 (λ z. omega arith)
      ∙ get_or-set_same narrow (2 * p) new.edges 0 (omega arith))

  hit_word : word narrow' p ≡ word_by (word narrow p) r low
  hit_word =
      ap (λ (l : List ℕ). get_or l (2 * p + 1) 0) en
      ∙ get_or-set_same (set narrow (2 * p) new.edges) (2 * p + 1) (word_by (word narrow p) r low) 0 (simp length-set in_narrow)

  miss_narrow : (i : ℕ) → (i ≡ 2 * p → ⊥) → (i ≡ 2 * p + 1 → ⊥) → get_or narrow' i 0 ≡ get_or narrow i 0
  miss_narrow i a b =
      ap (λ (l : List ℕ). get_or l i 0) en
      ∙ get_or-set_other (set narrow (2 * p) new.edges) (2 * p + 1) i (word_by (word narrow p) r low) 0 b
      ∙ get_or-set_other narrow (2 * p) i new.edges 0 a

  miss : (v : ℕ) → (v ≡ p → ⊥) → SamePlace wide narrow wide' narrow' v
  miss v n = record {
    label_same = weight-≡
        (ap (λ (l : List ℕ). get_or l v 0) ew ∙ get_or-set_other wide p v new.time 0 n)
        (miss_narrow (2 * v) (λ z. n (omega arith)) (λ z. omega arith));
    word_same = miss_narrow (2 * v + 1) (λ z. omega arith) (λ z. n (omega arith));
  }

  pub offer_take : Lighter new (label wide narrow p) → Offered (λ v. v ≡ p) n new r low wide narrow wide' narrow'
  offer_take h = record {
    wide_size = ap length ew ∙ length-set wide p new.time;
    narrow_size = ap length en ∙ simp length-set;
    each = λ v l. go v (ℕ_discrete v p);
    bound = λ v l e. ≡-≼ (ap (label wide' narrow') e ∙ hit_label);
  }
    where
      go : (v : ℕ) → Dec (v ≡ p) → SamePlace wide narrow wide' narrow' v ⊎ ((v ≡ p) × NewPlace new r low wide narrow wide' narrow' v)
      go v (yes e) = inr (
        e,
        subst (λ (x : ℕ). NewPlace new r low wide narrow wide' narrow' x) (sym e)
            (record { label_new = hit_label; lighter = h; word_new = hit_word }),
      )
      go v (no m) = inl (miss v m)

-- so the place that a label is offered to has it, or one that is no heavier
pub offer_place : {n : ℕ} {new : Weight} {r low : ℕ} {wide narrow wide' narrow' : List ℕ} (p : ℕ) → p < length wide → 2 * p + 1 < length narrow
    → Offer p new r low wide narrow wide' narrow' → Offered (λ v. v ≡ p) n new r low wide narrow wide' narrow'
offer_place {n} {new} {r} {low} {wide} {narrow} p a b (declined h ew en) =
    subst₂ (λ (x y : List ℕ). Offered (λ v. v ≡ p) n new r low wide narrow x y) (sym ew) (sym en) (offer_keep p h)
offer_place {n} {new} {r} {low} {wide} {narrow} p a b (taken h s) = offer_take n new r low wide narrow p a b s.wide_set s.narrow_set h

-- the same places, said in another way
pub offer_as : {A B : ℕ → Type 0} {n : ℕ} {new : Weight} {r low : ℕ} {wide narrow wide' narrow' : List ℕ} → Offered A n new r low wide narrow wide' narrow'
    → ((v : ℕ) → A v → B v) → ((v : ℕ) → B v → A v) → Offered B n new r low wide narrow wide' narrow'
offer_as o f g = record {
  wide_size = o.wide_size;
  narrow_size = o.narrow_size;
  each = λ v l. ⊎_elim (λ s. inl s) (λ t. inr (f v t.0, t.1)) (o.each v l);
  bound = λ v l b. o.bound v l (g v b);
}

-- one offer after another
module _ {A B : ℕ → Type 0} {n : ℕ} {new : Weight} {r low : ℕ} {wide narrow wide' narrow' wide'' narrow'' : List ℕ}
    (o : Offered A n new r low wide narrow wide' narrow') (o' : Offered B n new r low wide' narrow' wide'' narrow'') where
  join_each : (v : ℕ) → SamePlace wide narrow wide' narrow' v ⊎ (A v × NewPlace new r low wide narrow wide' narrow' v)
      → SamePlace wide' narrow' wide'' narrow'' v ⊎ (B v × NewPlace new r low wide' narrow' wide'' narrow'' v)
      → SamePlace wide narrow wide'' narrow'' v ⊎ ((A v ⊎ B v) × NewPlace new r low wide narrow wide'' narrow'' v)
  join_each v (inl s) (inl t) =
      inl (record { label_same = t.label_same ∙ s.label_same; word_same = t.word_same ∙ s.word_same })
  join_each v (inl s) (inr (b, t)) = inr (
    inr b,
    record {
      label_new = t.label_new;
      lighter = subst (λ (x : Weight). Lighter new x) s.label_same t.lighter;
      word_new = t.word_new ∙ ap (λ (x : ℕ). word_by x r low) s.word_same;
    },
  )
  join_each v (inr (a, s)) (inl t) = inr (
    inl a,
    record {
      label_new = t.label_same ∙ s.label_new;
      lighter = s.lighter;
      word_new = t.word_same ∙ s.word_new;
    },
  )
  join_each v (inr (a, s)) (inr (b, t)) = absurd (lighter_irrefl (subst (λ (x : Weight). Lighter new x) s.label_new t.lighter))

  falls : (v : ℕ) → v < n → label wide'' narrow'' v ≼ label wide' narrow' v
  falls v l = ⊎_elim (λ t. ≡-≼ t.label_same) (λ t. ≼_trans (≡-≼ t.1.label_new) (lighter-≼ t.1.lighter)) (o'.each v l)

  pub offer_join : Offered (λ v. A v ⊎ B v) n new r low wide narrow wide'' narrow''
  offer_join = record {
    wide_size = o'.wide_size ∙ o.wide_size;
    narrow_size = o'.narrow_size ∙ o.narrow_size;
    each = λ v l. join_each v (o.each v l) (o'.each v l);
    bound = λ v l. ⊎_elim (λ a. ≼_trans (falls v l) (o.bound v l a)) (λ b. o'.bound v l b);
  }
