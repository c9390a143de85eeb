-- Walks over a relation of weighted edges.
use mathlib.Core.Path.{◌≡◌, refl, sym, subst}
use mathlib.Core.Logic.{◌⊎◌, inl, inr}
use Rattle.network.specs.declared.weight.Weight.{Weight}
use Rattle.network.specs.Weight.{zero_weight, ◌⊕◌}
use Rattle.network.proofs.WeightLaws.{◌≼◌, ≼_refl, ≼_trans, ≼-more, ≼-less, ⊕-assoc, ⊕-zero, zero-⊕}
use Rattle.preparation.proofs.WeightMore.{≼-join, ≼-behind}

-- A walk of weight at most c from u to v, over the edges E: `E u x a` is an edge from u to x of weight a.
pub data Walk {A : Type 0} (E : A → A → Weight → Type 0) : A → A → Weight → Type 0 where
  stay : {u v : A} {c : Weight} → u ≡ v → Walk E u v c
  step : {u x v : A} {a b c : Weight} → E u x a → Walk E x v b → a ⊕ b ≼ c → Walk E u v c

module _ {A : Type 0} {E : A → A → Weight → Type 0} where
  pub weaken : {u v : A} {c d : Weight} → Walk E u v c → c ≼ d → Walk E u v d
  weaken (stay e) h = stay e
  weaken (step e p k) h = step e p (≼_trans k h)

  pub from : {u u' v : A} {c : Weight} → u ≡ u' → Walk E u' v c → Walk E u v c
  from {v = v} {c = c} e p = subst (λ x. Walk E x v c) (sym e) p

  pub join : {u x v : A} {a b c : Weight} → Walk E u x a → Walk E x v b → a ⊕ b ≼ c → Walk E u v c
  join {a = a} {b = b} (stay e) q h = weaken (from e q) (≼_trans (≼-more a b) h)
  join {b = b} (step {a = a₁} {b = b₁} e p k) q h = step e (join p q ≼_refl) (≼-join a₁ b₁ b k h)

  -- one edge
  pub single : {u x : A} {a : Weight} → E u x a → Walk E u x a
  single {a = a} e = step {b = zero_weight} {c = a} e (stay refl) (rw ⊕-zero (≼_refl {a = a}))

  -- the last edge taken off
  pub unsnoc : {u v : A} {c : Weight} → Walk E u v c → (u ≡ v) ⊎ ((y : A) × (a : Weight) × (b : Weight) × Walk E u y a × E y v b × a ⊕ b ≼ c)
  unsnoc (stay e) = inl e
  unsnoc {u} {v} {c} (step {x = x} {a = a} {b = b} e p k) = go (unsnoc p)
    where
      go : (x ≡ v) ⊎ ((y : A) × (a' : Weight) × (b' : Weight) × Walk E x y a' × E y v b' × a' ⊕ b' ≼ b)
          → (u ≡ v) ⊎ ((y : A) × (a' : Weight) × (b' : Weight) × Walk E u y a' × E y v b' × a' ⊕ b' ≼ c)
      go (inl f) = inr (u, zero_weight, a, stay refl, subst (λ z. E u z a) f e, rw zero-⊕ (≼_trans (≼-less a b) k))
      go (inr t) = let (y, a', b', q, f, h) = t in inr (y, a ⊕ a', b', step e q ≼_refl, f, rw ⊕-assoc (≼-behind a h k))

-- edges of one relation are walks' edges of another
pub map_walk : {A : Type 0} {E F : A → A → Weight → Type 0} → ((u x : A) (a : Weight) → E u x a → F u x a) → {u v : A} {c : Weight}
    → Walk E u v c → Walk F u v c
map_walk f (stay e) = stay e
map_walk f (step e p k) = step (f _ _ _ e) (map_walk f p) k
