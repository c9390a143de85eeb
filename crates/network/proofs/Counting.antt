-- Counting by marks: how many of the numbers below `k` still wait, those whose mark in `s` is not 0. It is a loop's measure, a bound on how many
-- turns it has had, and the pigeonhole.
use mathlib.Core.Path.{◌≡◌, refl, sym, ap, ap₂, ◌∙◌}
use Prim.Native.Nat.{ℕ, zero, suc, ◌+◌, ◌<◌, ◌≤◌}
use native.Mathlib.Omega.{arith}
use native.Mathlib.Decide.{ℕ_discrete}

pub bit : ℕ → ℕ
bit zero = 0
bit (suc n) = 1

pub waiting : (ℕ → ℕ) → ℕ → ℕ
waiting s zero = 0
waiting s (suc k) = bit (s k) + waiting s k

bit_le : (n : ℕ) → bit n ≤ 1
unfolding bit
bit_le zero = omega arith
bit_le (suc n) = omega arith

bit_some : (n : ℕ) → (n ≡ 0 → ⊥) → bit n ≡ 1
unfolding bit
bit_some zero h = absurd (h refl)
bit_some (suc n) h = refl

bit_none : (n : ℕ) → n ≡ 0 → bit n ≡ 0
unfolding bit
bit_none n e = ap bit e

pub waiting_le : (s : ℕ → ℕ) (k : ℕ) → waiting s k ≤ k
unfolding waiting
waiting_le s zero = omega arith
waiting_le s (suc k) = omega (arith, waiting_le s k, bit_le (s k))

pub waiting_same : (s s' : ℕ → ℕ) (k : ℕ) → ((v : ℕ) → v < k → s' v ≡ s v) → waiting s' k ≡ waiting s k
unfolding waiting
waiting_same s s' zero h = refl
waiting_same s s' (suc k) h = ap₂ ◌+◌ (ap bit (h k (omega arith))) (waiting_same s s' k (λ v l. h v (omega arith)))

pub waiting_drop : (s s' : ℕ → ℕ) (k u : ℕ) → u < k → (s u ≡ 0 → ⊥) → s' u ≡ 0 → ((v : ℕ) → v < k → (v ≡ u → ⊥) → s' v ≡ s v) → waiting s' k + 1 ≡ waiting s k
unfolding waiting
waiting_drop s s' zero u l w hit miss = absurd (omega arith)
waiting_drop s s' (suc k) u l w hit miss = go (waiting_drop s s' k u) (ℕ_discrete k u)
  where
    go : (u < k → (s u ≡ 0 → ⊥) → s' u ≡ 0 → ((v : ℕ) → v < k → (v ≡ u → ⊥) → s' v ≡ s v) → waiting s' k + 1 ≡ waiting s k) → Dec (k ≡ u)
        → bit (s' k) + waiting s' k + 1 ≡ bit (s k) + waiting s k
    go ih (yes e) = omega (
      arith,
      bit_some (s k) (λ z. w (ap s (sym e) ∙ z)),
      bit_none (s' k) (ap s' e ∙ hit),
      waiting_same s s' k (λ v m. miss v (omega arith) (λ f. omega arith)),
    )
    go ih (no n) = omega (arith, ap bit (miss k (omega arith) n), ih (omega arith) w hit (λ v m. miss v (omega arith)))

pub waiting_full : (s : ℕ → ℕ) (k : ℕ) → ((v : ℕ) → v < k → s v ≡ 0 → ⊥) → waiting s k ≡ k
unfolding waiting
waiting_full s zero h = refl
waiting_full s (suc k) h = omega (arith, bit_some (s k) (h k (omega arith)), waiting_full s k (λ v l. h v (omega arith)))
