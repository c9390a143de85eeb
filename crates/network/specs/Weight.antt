-- Weights (01, "Network and sheet"): "The weight of a path is (sum of lengths, number of edges), compared by time first. Weights have one
-- addition, one order, a zero and a 'none yet' above all others".
use Rattle.std.specs.Prelude.{◌≡◌, ◌+◌, ◌<◌, ◌≤◌}
use Rattle.network.specs.declared.weight.Weight.{Weight}

-- the weight of the empty path
abbrev pub zero_weight : Weight
zero_weight = record { time = 0; edges = 0 }

-- "none yet": both numbers at the largest that their types hold
abbrev pub none_yet : Weight
none_yet = record { time = 18446744073709551615; edges = 4294967295 }

infixl 65 ◌⊕◌
-- the weight of two stretches, one behind the other
unfoldable pub ◌⊕◌ : Weight → Weight → Weight
◌⊕◌ a b = record { time = a.time + b.time; edges = a.edges + b.edges }

-- a is lighter than b: "compared by time first"
pub data Lighter (a b : Weight) : Type 0 where
  sooner : a.time < b.time → Lighter a b
  shorter : a.time ≡ b.time → a.edges < b.edges → Lighter a b

-- the weight fits its number types
pub record Held (w : Weight) : Type 0 where
  pub time_held : w.time ≤ 18446744073709551615
  pub edges_held : w.edges ≤ 4294967295

-- r is what the unit adds a and b to: "A sum with none, or one too large for its number types, is none."
pub data Sum (a b r : Weight) : Type 0 where
  whole : Held (a ⊕ b) → r ≡ a ⊕ b → Sum a b r
  too_large : (Held (a ⊕ b) → ⊥) → r ≡ none_yet → Sum a b r
