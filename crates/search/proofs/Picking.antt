-- The scan for a lightest waiting place, over the labels `d` and the marks `s`.
use mathlib.Core.Path.{◌≡◌, refl, sym, subst}
use Prim.Native.Nat.{ℕ, ◌+◌, ◌<◌, ◌≤◌}
use native.Mathlib.Omega.{arith}
use borrow.Author.Count.{below_more}
use Rattle.std.specs.Prelude.{Option, None, Some}
use Rattle.network.specs.declared.weight.Weight.{Weight}
use Rattle.network.specs.Weight.{none_yet, Lighter}
use Rattle.network.proofs.WeightLaws.{◌≼◌, ≡-≼, ≼_trans, lighter-≼, ≼-lighter, not_lighter-≼}
use Rattle.search.specs.declared.pick.Choice.{Choice}
use Rattle.search.specs.Steps.{chosen, Looked, passed_by, heavier, taken, Picked}

-- a choice is a place that waits, with the label that it has
record Stands (places : ℕ) (d : ℕ → Weight) (s : ℕ → ℕ) (choice : Choice) : Type 0 where
  inside : choice.place < places
  waits : s choice.place ≡ 0 → ⊥
  its_label : choice.label ≡ d choice.place
  labelled : Lighter choice.label none_yet

abbrev Holds : ℕ → (ℕ → Weight) → (ℕ → ℕ) → Option Choice → Type 0
Holds places d s None = Unit {0}
Holds places d s (Some choice) = Stands places d s choice

-- the places below `v` have been looked at
pub record Looking (places : ℕ) (d : ℕ → Weight) (s : ℕ → ℕ) (so_far : Option Choice) (v : ℕ) : Type 0 where
  pub within : v ≤ places
  pub passed : (k : ℕ) → k < v → (s k ≡ 0 → ⊥) → chosen so_far ≼ d k
  held : Holds places d s so_far

pub look_start : (places : ℕ) (d : ℕ → Weight) (s : ℕ → ℕ) → Looking places d s None 0
look_start places d s = record { within = omega arith; passed = λ k l. absurd (omega arith); held = tt }

-- what is lighter than the choice so far is lighter than none at all
labelled_still : (places : ℕ) (d : ℕ → Weight) (s : ℕ → ℕ) (so_far : Option Choice) → Holds places d s so_far → {w : Weight}
    → Lighter w (chosen so_far) → Lighter w none_yet
labelled_still places d s None held h = h
labelled_still places d s (Some choice) held h = ≼-lighter (lighter-≼ h) held.labelled

module _ {places : ℕ} {d : ℕ → Weight} {s : ℕ → ℕ} {v : ℕ} {so_far r : Option Choice} (p : Looking places d s so_far v) (l : v < places) where
  -- one place more, whose label is no lighter or which does not wait
  keep : r ≡ so_far → ((s v ≡ 0 → ⊥) → chosen so_far ≼ d v) → Looking places d s r (v + 1)
  keep e h = subst (λ (x : Option Choice). Looking places d s x (v + 1)) (sym e)
      (record { within = omega arith; passed = below_more _ _ p.passed h; held = p.held })

  take : (s v ≡ 0 → ⊥) → Lighter (d v) (chosen so_far) → r ≡ Some (record { place = v; label = d v }) → Looking places d s r (v + 1)
  take n h e = subst (λ (x : Option Choice). Looking places d s x (v + 1)) (sym e) (record {
    within = omega arith;
    passed = below_more _ _ (λ k m w. ≼_trans (lighter-≼ h) (p.passed k m w)) (λ _. ≡-≼ refl);
    held = record { inside = l; waits = n; its_label = refl; labelled = labelled_still places d s so_far p.held h };
  })

  pub look_more : Looked d s v so_far r → Looking places d s r (v + 1)
  look_more (passed_by z e) = keep e (λ n. absurd (n z))
  look_more (heavier h e) = keep e (λ _. not_lighter-≼ h)
  look_more (taken n h e) = take n h e

abbrev pub place_of : Option Choice → Option ℕ
place_of None = None
place_of (Some choice) = Some choice.place

-- all places have been looked at
pub look_done : (places : ℕ) (d : ℕ → Weight) (s : ℕ → ℕ) (so_far : Option Choice) {v : ℕ} → Looking places d s so_far v → places ≤ v
    → Picked places d s (place_of so_far)
look_done places d s None {v} p m = λ k l. p.passed k (omega arith)
look_done places d s (Some choice) {v} p m = record {
  inside = p.held.inside;
  waits = p.held.waits;
  labelled = subst (λ (x : Weight). Lighter x none_yet) p.held.its_label p.held.labelled;
  least = λ k l w. subst (λ (x : Weight). x ≼ d k) p.held.its_label (p.passed k (omega arith) w);
}
