-- A place is left: it is settled, and every row is tried from it.
use mathlib.Core.Path.{◌≡◌, refl, sym, ap, subst₂, ◌∙◌}
use mathlib.Core.Bool.{Bool}
use mathlib.Core.List.{List}
use Prim.Native.Nat.{ℕ, ◌+◌, ◌*◌, ◌/◌, ◌%◌, ◌<◌}
use native.Mathlib.Omega.{arith}
use native.Mathlib.Decide.{ℕ_discrete}
use lib.ListN.{length, get_or, set, length-set}
use lib.Seq.{get_or-set_same, get_or-set_other}
use Rattle.network.specs.declared.weight.Weight.{Weight}
use Rattle.network.specs.declared.rows.Row.{Row}
use Rattle.network.specs.Network.{Network, nodes}
use Rattle.network.specs.declared.sheet.Sheet.{Sheet}
use Rattle.network.specs.Rows.{rows}
use Rattle.network.proofs.WeightLaws.{weight-≡}
use Rattle.search.specs.Labels.{label, word, row_before, Worked}
use Rattle.search.specs.Steps.{Left}
use Rattle.search.proofs.Relaxing.{relax_from}

module _ (narrow : List ℕ) {narrow₁ : List ℕ} (p : ℕ) (inside : 2 * p + 1 < length narrow) (e : narrow₁ ≡ set narrow (2 * p + 1) (word narrow p / 2 * 2)) where
  here : word narrow₁ p ≡ word narrow p / 2 * 2
  here = ap (λ (x : List ℕ). word x p) e ∙ get_or-set_same narrow (2 * p + 1) (word narrow p / 2 * 2) 0 inside

  there : (v : ℕ) → (v ≡ p → ⊥) → word narrow₁ v ≡ word narrow v
  there v n = ap (λ (x : List ℕ). word x v) e ∙ get_or-set_other narrow (2 * p + 1) (2 * v + 1) (word narrow p / 2 * 2) 0 (λ z. n (omega arith))

  -- the waiting bit apart, every word is as it was
  but_the_bit : (v : ℕ) → word narrow₁ v / 2 ≡ word narrow v / 2
  but_the_bit v = elim (ℕ_discrete v p) [
    | yes z ↦ ap (λ (x : ℕ). word narrow₁ x / 2) z ∙ ap (λ (x : ℕ). x / 2) here ∙ let h : word narrow p / 2 * 2 / 2 ≡ word narrow p / 2 = omega arith in h ∙ ap (λ (x : ℕ). word narrow x / 2) (sym z)
    | no n ↦ ap (λ (x : ℕ). x / 2) (there v n)
  ]

  edges_same : (v : ℕ) → get_or narrow₁ (2 * v) 0 ≡ get_or narrow (2 * v) 0
  edges_same v = ap (λ (x : List ℕ). get_or x (2 * v) 0) e ∙ get_or-set_other narrow (2 * p + 1) (2 * v) (word narrow p / 2 * 2) 0 (λ z. omega arith)

  row_same : (v : ℕ) → row_before narrow₁ v ≡ row_before narrow v
  row_same v = omega (arith, but_the_bit v)

  low_same : (v : ℕ) → word narrow₁ v / 2 % 16 ≡ word narrow v / 2 % 16
  low_same v = ap (λ (x : ℕ). x % 16) (but_the_bit v)

  pub settled_size : length narrow₁ ≡ length narrow
  settled_size = ap length e ∙ length-set narrow (2 * p + 1) (word narrow p / 2 * 2)

  pub left : (plain : Bool) {N : Network} {ss : List Row} {S : Sheet} {from to : ℕ} {w : Weight} {wide wide' narrow' : List ℕ} (n : ℕ) → n ≡ rows N ss → p < 16 * nodes N → w ≡ label wide narrow p
      → Worked plain N ss S from to p w (λ r v. r < n) wide narrow₁ wide' narrow' → Left plain N ss S from to p wide narrow wide' narrow'
  left plain {N} {ss} {S} {from} {to} {w} {wide} {wide'} {narrow'} n en l ew k = record {
    wide_size = k.wide_size;
    narrow_size = k.narrow_size ∙ settled_size;
    relaxed = relax_from
        (subst₂ (λ x m. Worked plain N ss S from to p x (λ r v. r < m) wide narrow₁ wide' narrow') ew en k).relaxed
        (λ v m. record {
          label = weight-≡ refl (edges_same v);
          by_row = row_same v;
          by_place = rw (row_same v, low_same v) refl;
        });
    settles = record {
      hit = k.marks p l ∙ ap (λ (x : ℕ). x % 2) here ∙ omega arith;
      miss = λ v m n. k.marks v m ∙ ap (λ (x : ℕ). x % 2) (there v n);
    };
    hinted = k.hinted;
  }
