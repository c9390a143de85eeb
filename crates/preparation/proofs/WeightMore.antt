-- More laws of weights.
use mathlib.Core.Path.{◌≡◌, subst}
use Rattle.network.specs.declared.weight.Weight.{Weight}
use Rattle.network.specs.Weight.{◌⊕◌, Lighter}
use Rattle.network.proofs.WeightLaws.{◌≼◌, ≼_refl, ≼_trans, ≼-mono, ⊕-assoc, Compared, lighter, same, heavier, compare, lighter_irrefl}

-- a ⊕ b within c, and c ⊕ d within e
pub ≼-join : (a b d : Weight) {c e : Weight} → a ⊕ b ≼ c → c ⊕ d ≼ e → a ⊕ (b ⊕ d) ≼ e
≼-join a b d h k = rw ⊕-assoc at (≼_trans (≼-mono h (≼_refl {a = d})) k)

-- b within d, and a ⊕ d within c
pub ≼-behind : (a : Weight) {b c d : Weight} → b ≼ d → a ⊕ d ≼ c → a ⊕ b ≼ c
≼-behind a h k = ≼_trans (≼-mono (≼_refl {a = a}) h) k

pub weight_dec : (a b : Weight) → Dec (a ≡ b)
weight_dec a b = go (compare a b)
  where
    go : Compared a b → Dec (a ≡ b)
    go (lighter h) = no (λ e. lighter_irrefl (subst (λ z. Lighter z b) e h))
    go (same e) = yes e
    go (heavier h) = no (λ e. lighter_irrefl (subst (λ z. Lighter b z) e h))
