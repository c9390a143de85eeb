-- What the numbers of rules tell apart.
use mathlib.Core.Path.{◌≡◌, sym, ◌∙◌}
use mathlib.Core.Logic.{inl, inr}
use mathlib.Core.List.{List, [], ◌∷◌}
use Prim.Native.Nat.{ℕ}
use Rattle.network.specs.Refusal.{Rule, Refused}

-- none of the rules has the number m
abbrev pub Avoids : ℕ → List Rule → Type 0
Avoids m [] = Unit {0}
Avoids m (rule ∷ others) = (rule.number ≡ m → ⊥) × Avoids m others

pub refused_avoids : (rules : List Rule) (m n p : ℕ) → Avoids m rules → Refused rules n p → n ≡ m → ⊥
refused_avoids [] m n p v r e = r
refused_avoids (rule ∷ others) m n p v (inl (f, b)) e = v.0 (sym f ∙ e)
refused_avoids (rule ∷ others) m n p v (inr (k, r)) e = refused_avoids others m n p v.1 r e
