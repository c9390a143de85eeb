-- A walk has one that repeats no node, and what such a walk weighs.
use mathlib.Core.Path.{◌≡◌, refl, sym, ap, subst}
use mathlib.Core.List.{List, [], ◌∷◌}
use Prim.Native.Nat.{ℕ, suc, ◌*◌, ◌≤◌, ◌<◌}
use native.Mathlib.Omega.{arith}
use native.Mathlib.Decide.{ℕ_discrete}
use lib.ListN.{length}
use Rattle.network.specs.declared.weight.Weight.{Weight}
use Rattle.network.specs.Weight.{zero_weight, ◌⊕◌}
use Rattle.network.proofs.WeightLaws.{◌≼◌, ≼_refl, ≼_trans, zero-≼, ≼-more, ⊕-time, ⊕-edges}
use Rattle.network.proofs.Pigeonhole.{Absent, Distinct, no_more, and, AllBelow, pigeonhole}
use Rattle.preparation.proofs.WeightMore.{≼-behind}
use Rattle.preparation.proofs.Walks.{Walk, stay, step}

-- a walk of weight c that visits the nodes l
pub data Visits (E : ℕ → ℕ → Weight → Type 0) : ℕ → ℕ → Weight → List ℕ → Type 0 where
  stop : {u w : ℕ} {c : Weight} → u ≡ w → c ≡ zero_weight → Visits E u w c (u ∷ [])
  on : {u x w : ℕ} {a b c : Weight} {l : List ℕ} → E u x a → Visits E x w b l → c ≡ a ⊕ b → Visits E u w c (u ∷ l)

-- a walk from u to w that repeats no node, no heavier than c
pub record Lightened (E : ℕ → ℕ → Weight → Type 0) (u w : ℕ) (c : Weight) : Type 0 where
  pub weighs : Weight
  pub nodes : List ℕ
  pub visits : Visits E u w weighs nodes
  pub distinct : Distinct nodes
  pub within : weighs ≼ c

-- y is none of the nodes, or a walk that visits it is cut to start there
data Found (E : ℕ → ℕ → Weight → Type 0) (y w : ℕ) (c : Weight) (l : List ℕ) : Type 0 where
  absent : Absent y l → Found E y w c l
  there : Lightened E y w c → Found E y w c l

module _ {E : ℕ → ℕ → Weight → Type 0} where
  pub visits_walk : {u w : ℕ} {c : Weight} {l : List ℕ} → Visits E u w c l → Walk E u w c
  visits_walk (stop e z) = stay e
  visits_walk (on {a = a} {b = b} e s z) = step e (visits_walk s) (subst (λ y. a ⊕ b ≼ y) (sym z) ≼_refl)

  lighter_still : {u w : ℕ} {c d : Weight} → Lightened E u w c → c ≼ d → Lightened E u w d
  lighter_still t h = record {
    weighs = t.weighs;
    nodes = t.nodes;
    visits = t.visits;
    distinct = t.distinct;
    within = ≼_trans t.within h;
  }

  find : {u w : ℕ} {c : Weight} {l : List ℕ} (y : ℕ) → Visits E u w c l → Distinct l → Found E y w c l
  find {u} {w} {c} y (stop e z) d = go (ℕ_discrete y u)
    where
      go : Dec (y ≡ u) → Found E y w c (u ∷ [])
      go (yes f) = there (subst (λ v. Lightened E v w c) (sym f)
          (record { weighs = c; nodes = u ∷ []; visits = stop e z; distinct = d; within = ≼_refl }))
      go (no n) = absent (n, tt)
  find {u} {w} {c} y (on {x = x} {a = a} {b = b} {l = l} e s z) (and h d) = go (ℕ_discrete y u) (find y s d)
    where
      go : Dec (y ≡ u) → Found E y w b l → Found E y w c (u ∷ l)
      go (yes f) r = there (subst (λ v. Lightened E v w c) (sym f)
          (record { weighs = c; nodes = u ∷ l; visits = on e s z; distinct = and h d; within = ≼_refl }))
      go (no n) (absent r) = absent (n, r)
      go (no n) (there t) = there (lighter_still t (subst (λ v. b ≼ v) (sym z) (≼-more a b)))

  -- a walk has one that repeats no node
  pub lighten : {u w : ℕ} {c : Weight} → Walk E u w c → Lightened E u w c
  lighten {u} {w} {c} (stay e) =
      record { weighs = zero_weight; nodes = u ∷ []; visits = stop e refl; distinct = and tt no_more; within = zero-≼ c }
  lighten {u} {w} {c} (step {x = x} {a = a} {b = b} e p k) = go (lighten p)
    where
      at : (t : Lightened E x w b) → Found E u w t.weighs t.nodes → Lightened E u w c
      at t (there r) = lighter_still r (≼_trans t.within (≼_trans (≼-more a b) k))
      at t (absent n) = record {
        weighs = a ⊕ t.weighs;
        nodes = u ∷ t.nodes;
        visits = on e t.visits refl;
        distinct = and n t.distinct;
        within = ≼-behind a t.within k;
      }

      go : Lightened E x w b → Lightened E u w c
      go t = at t (find u t.visits t.distinct)

  -- edges that count one and last at most 65,535, over the nodes below n
  module _ (n : ℕ) (one : (u x : ℕ) (a : Weight) → E u x a → a.edges ≡ 1) (short : (u x : ℕ) (a : Weight) → E u x a → a.time ≤ 65535)
      (node : (u x : ℕ) (a : Weight) → E u x a → u < n) where
    all_below : {u w : ℕ} {c : Weight} {l : List ℕ} → w < n → Visits E u w c l → AllBelow n l
    all_below h (stop e z) = (omega arith, tt)
    all_below h (on e s z) = (node _ _ _ e, all_below h s)

    counted : {u w : ℕ} {c : Weight} {l : List ℕ} → Visits E u w c l → (length l ≡ suc c.edges) × (c.time ≤ 65535 * c.edges)
    counted (stop e z) = (omega (arith, ap (λ y. y.edges) z), omega (arith, ap (λ y. y.time) z))
    counted (on {a = a} {b = b} e s z) =
        let t = counted s in
        let k : a.edges ≡ 1 = one _ _ _ e in
        let h : a.time ≤ 65535 = short _ _ _ e in (
          omega (arith, t.0, ap (λ y. y.edges) z, ⊕-edges a b),
          omega (arith, t.1, ap (λ y. y.edges) z, ⊕-edges a b, ap (λ y. y.time) z, ⊕-time a b),
        )

    pub lightened_bound : {u w : ℕ} {c : Weight} → w < n → (t : Lightened E u w c)
        → (t.weighs.edges < n) × (t.weighs.time ≤ 65535 * t.weighs.edges)
    lightened_bound h t =
        (omega (arith, (counted t.visits).0, pigeonhole n t.nodes (all_below h t.visits) t.distinct), (counted t.visits).1)
