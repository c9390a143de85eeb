-- A scan for the lowest number of which a rule does not hold: one loop's invariant, and what `find` over a range finds.
use mathlib.Core.Path.{◌≡◌, subst}
use mathlib.Core.Bool.{Bool, true, false}
use Prim.Native.Nat.{ℕ, ◌<◌, ◌≤◌}
use Rattle.std.specs.Prelude.{Option, None, Some}
use Rattle.std.specs.Option.{MatchOption}
use Rattle.network.specs.Answers.{Decides, Found}

-- the rule holds from start on and below i
abbrev pub Scanning : (ℕ → Type 0) → (start i : ℕ) → Type 0
Scanning P start i = (k : ℕ) → start ≤ k → k < i → P k

pub decided_true : {P : Type 0} {r : Bool} → Decides r P → r ≡ true → P
decided_true {P} d e = subst (λ b. Decides b P) e d

pub decided_false : {P : Type 0} {r : Bool} → Decides r P → r ≡ false → P → ⊥
decided_false {P} d e = subst (λ b. Decides b P) e d

pub decides_map : {P Q : Type 0} (r : Bool) → (P → Q) → (Q → P) → Decides r P → Decides r Q
decides_map true f g p = f p
decides_map false f g n = λ q. n (g q)

-- what the library's `first_from_Range` says of a `find`
pub found : (P : ℕ → Type 0) (start n : ℕ) (r : Option ℕ)
    → MatchOption r (Scanning P start n) (λ i. (start ≤ i) × (i < n) × (P i → ⊥) × Scanning P start i) → Found P start n r
found P start n None h = h
found P start n (Some i) h = record { from_start = h.0; below = h.1; broken = h.2; before_fine = h.3 }
