-- Deciding what has parts.
use Prim.Native.Nat.{ℕ, ◌/◌, ◌%◌, ◌^◌}
use native.Mathlib.Decide.{ℕ_discrete}
use Rattle.network.specs.Sheet.{Bit}

infixr 6 ◌&◌
pub ◌&◌ : {A B : Type 0} → Dec A → Dec B → Dec (A × B)
◌&◌ (yes a) (yes b) = yes (a, b)
◌&◌ (yes a) (no n) = no (λ h. n h.1)
◌&◌ (no n) b = no (λ h. n h.0)

pub bit_known : (byte i : ℕ) → Dec (Bit byte i)
bit_known byte i = ℕ_discrete (byte / 2 ^ i % 2) 1
