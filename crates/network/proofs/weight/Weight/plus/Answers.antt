-- `network::weight::Weight::plus` answers the sum, or none where it is too large. Assumes nothing.
use mathlib.Core.Path.{refl}
use native.Mathlib.Omega.{arith}
use Rattle.network.specs.Weight.{◌⊕◌, whole, too_large}
use Rattle.network.proofs.WeightLaws.{weight-≡}
use Rattle.network.proofs.weight.Weight.plus.Goals as goal

pub returns-in_default : goal.returns-in_default
unfolding ◌⊕◌
returns-in_default c = too_large (λ h. c.in_default.ensures (omega (arith, h.time_held))) refl

pub returns-in_default-checked_add : goal.returns-in_default-checked_add
unfolding ◌⊕◌
returns-in_default-checked_add c = too_large (λ h. c.in_default-checked_add.ensures (omega (arith, h.edges_held))) refl

pub returns : goal.returns
unfolding ◌⊕◌
returns c =
    let time = c.in-Some.ensures in
    let edges = c.in-Some-checked_add.ensures in
    whole record { time_held = omega (arith, time.0); edges_held = omega (arith, edges.0) } (weight-≡ time.1 edges.1)
