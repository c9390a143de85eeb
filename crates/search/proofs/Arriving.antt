-- The places at a row's head to which a label is offered.
use mathlib.Core.Path.{◌≡◌, refl}
use mathlib.Core.List.{List}
use Prim.Native.Nat.{ℕ, ◌+◌, ◌*◌, ◌<◌, ◌≤◌}
use native.Mathlib.Omega.{arith}
use Rattle.network.specs.declared.weight.Weight.{Weight}
use Rattle.network.specs.declared.sheet.Sheet.{Sheet}
use Rattle.network.specs.Sheet.{MayRide}
use Rattle.search.specs.Places.{Shift, riding, changing}
use Rattle.search.specs.Labels.{Offered}
use Rattle.search.specs.Steps.{ToStates, Arrives}
use Rattle.search.proofs.Offering.{offer_as}

-- the label was offered to the places of the first j states
pub record Offering (base next states : ℕ) (new : Weight) (r low : ℕ) (wide₀ narrow₀ wide narrow : List ℕ) (j : ℕ) : Type 0 where
  pub within : j ≤ states
  pub offered : Offered (ToStates base next j) 8192 new r low wide₀ narrow₀ wide narrow

-- a ride keeps the state
module _ {S : Sheet} {mode q base : ℕ} {new : Weight} {r low : ℕ} {wide narrow wide' narrow' : List ℕ} where
  pub ride_arrives : q < 8 → (mode ≡ 0 → ⊥) → MayRide S q mode → Offered (λ v. v ≡ base + 2 * q) 8192 new r low wide narrow wide' narrow'
      → Offered (Arrives S mode q base) 8192 new r low wide narrow wide' narrow'
  ride_arrives few n may o = offer_as o (λ v e. record { state = q; small = few; shift = riding n may refl; there = e }) (λ v a. at a.state a.shift a.there)
    where
      at : (i : ℕ) {v : ℕ} → Shift S mode q i → v ≡ base + 2 * i → v ≡ base + 2 * q
      at i (riding m k e) t = omega arith
      at i (changing z k l) t = absurd (n z)
