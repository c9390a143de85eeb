-- Two results that the promise of the witness search allows for one input are equal: the answer and both rooms, whole.
use mathlib.Core.Path.{◌≡◌, sym, ap, subst, ◌∙◌}
use mathlib.Core.Bool.{Bool}
use mathlib.Core.List.{List}
use Prim.Native.Nat.{ℕ, ◌+◌, ◌*◌, ◌/◌, ◌%◌, ◌<◌}
use native.Mathlib.Omega.{arith}
use native.Mathlib.Decide.{dec_lt, ℕ_discrete}
use lib.ListN.{get_or}
use lib.Seq.{ext_get_or}
use Rattle.network.specs.declared.weight.Weight.{Weight}
use Rattle.network.specs.Weight.{Lighter}
use Rattle.network.proofs.WeightLaws.{neither_lighter}
use Rattle.search.specs.Witness.{Turn, node_count, LeastPath, Reported, within, beyond, told_at, Found, Witnessed, unfit, searched}

pub record SameWitness (answer₁ answer₂ : Bool) (wide₁ wide₂ narrow₁ narrow₂ : List ℕ) : Type 0 where
  pub answer_same : answer₁ ≡ answer₂
  pub wide_same : wide₁ ≡ wide₂
  pub narrow_same : narrow₁ ≡ narrow₂

module _ {Q : Turn} {from : ℕ} where
  least_unique : {x : ℕ} {a b : Weight} → LeastPath Q from x a → LeastPath Q from x b → a ≡ b
  least_unique {x} {a} {b} p q = neither_lighter
      (λ h. q.least p.rows p.path (subst (λ (w : Weight). Lighter w b) (sym p.weighs) h))
      (λ h. p.least q.rows q.path (subst (λ (w : Weight). Lighter w a) (sym q.weighs) h))

module _ {Q : Turn} {from : ℕ} {bound : Weight} where
  reported_unique : {x : ℕ} {a b : Weight} → Reported Q from bound x a → Reported Q from bound x b → a ≡ b
  reported_unique (within p n) (within q m) = least_unique p q
  reported_unique (within p n) (beyond f e) = absurd (n (subst (λ (w : Weight). Lighter bound w) p.weighs (f p.rows p.path)))
  reported_unique (beyond f e) (within q m) = absurd (m (subst (λ (w : Weight). Lighter bound w) q.weighs (f q.rows q.path)))
  reported_unique (beyond f e) (beyond g k) = e ∙ sym k

  module _ {wide narrow wide₁ narrow₁ wide₂ narrow₂ : List ℕ} (f : Found Q from bound wide narrow wide₁ narrow₁)
      (g : Found Q from bound wide narrow wide₂ narrow₂) where
    told_same : (x : ℕ) → x < node_count Q → told_at wide₁ narrow₁ x ≡ told_at wide₂ narrow₂ x
    told_same x l = reported_unique (f.told x l) (g.told x l)

    wide_at : (i : ℕ) → get_or wide₁ i 0 ≡ get_or wide₂ i 0
    wide_at i = elim (dec_lt i (node_count Q)) [
      | yes l ↦ ap (λ (w : Weight). w.time) (told_same i l)
      | no l ↦ f.rest_same.wide_rest i (omega arith) ∙ sym (g.rest_same.wide_rest i (omega arith))
    ]

    narrow_even : (x i : ℕ) → i ≡ 2 * x → x < node_count Q → get_or narrow₁ i 0 ≡ get_or narrow₂ i 0
    narrow_even x i e l = subst (λ (j : ℕ). get_or narrow₁ j 0 ≡ get_or narrow₂ j 0) (sym e) (ap (λ (w : Weight). w.edges) (told_same x l))

    narrow_odd : (x i : ℕ) → i ≡ 2 * x + 1 → x < node_count Q → get_or narrow₁ i 0 ≡ get_or narrow₂ i 0
    narrow_odd x i e l = subst (λ (j : ℕ). get_or narrow₁ j 0 ≡ get_or narrow₂ j 0) (sym e) (f.zeroed x l ∙ sym (g.zeroed x l))

    narrow_at : (i : ℕ) → get_or narrow₁ i 0 ≡ get_or narrow₂ i 0
    narrow_at i = go (dec_lt i (2 * node_count Q)) (ℕ_discrete (i % 2) 0)
      where
        go : Dec (i < 2 * node_count Q) → Dec (i % 2 ≡ 0) → get_or narrow₁ i 0 ≡ get_or narrow₂ i 0
        go (yes l) (yes e) = narrow_even (i / 2) i (omega arith) (omega arith)
        go (yes l) (no n) = narrow_odd (i / 2) i (omega arith) (omega arith)
        go (no l) d = f.rest_same.narrow_rest i (omega arith) ∙ sym (g.rest_same.narrow_rest i (omega arith))

    found_wide : wide₁ ≡ wide₂
    found_wide = ext_get_or 0 wide₁ wide₂ (f.rest_same.wide_size ∙ sym g.rest_same.wide_size) (λ i l. wide_at i)

    found_narrow : narrow₁ ≡ narrow₂
    found_narrow = ext_get_or 0 narrow₁ narrow₂ (f.rest_same.narrow_size ∙ sym g.rest_same.narrow_size) (λ i l. narrow_at i)

  pub witness_unique : {wide narrow wide₁ narrow₁ wide₂ narrow₂ : List ℕ} {answer₁ answer₂ : Bool}
      → Witnessed Q from bound wide narrow wide₁ narrow₁ answer₁ → Witnessed Q from bound wide narrow wide₂ narrow₂ answer₂
      → SameWitness answer₁ answer₂ wide₁ wide₂ narrow₁ narrow₂
  witness_unique (unfit n e s) (unfit m k t) = record {
    answer_same = e ∙ sym k;
    wide_same = s.wide_same ∙ sym t.wide_same;
    narrow_same = s.narrow_same ∙ sym t.narrow_same;
  }
  witness_unique (unfit n e s) (searched m k t) = absurd (n m)
  witness_unique (searched n e s) (unfit m k t) = absurd (m n)
  witness_unique (searched n e s) (searched m k t) =
      record { answer_same = e ∙ sym k; wide_same = found_wide s t; narrow_same = found_narrow s t }
