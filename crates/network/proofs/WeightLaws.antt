-- Laws of weights: everything above this file goes by these and never looks into a weight.
-- `Lighter` is a strict total order with `◌≼◌` beside it; `◌⊕◌` is a commutative monoid, monotone and cancellative; `none_yet` is on top of
-- all weights that their number types hold.
use mathlib.Core.Path.{◌≡◌, refl, ◌∙◌, ap, subst}
use mathlib.Core.Logic.{◌⊎◌, inl, inr}
use Prim.Native.Nat.{ℕ, zero, suc, ◌+◌, ◌≤◌, ◌<◌}
use native.Mathlib.Omega.{arith}
use native.Mathlib.Decide.{dec_lt}
use Rattle.network.specs.declared.weight.Weight.{Weight}
use Rattle.network.specs.Weight.{zero_weight, none_yet, ◌⊕◌, Lighter, sooner, shorter, Held, Sum, whole, too_large}

infix 4 ◌≼◌
-- a is not heavier than b
pub data ◌≼◌ (a b : Weight) : Type 0 where
  below : a.time < b.time → a ≼ b
  level : a.time ≡ b.time → a.edges ≤ b.edges → a ≼ b

pub weight-≡ : {a b : Weight} → a.time ≡ b.time → a.edges ≡ b.edges → a ≡ b
weight-≡ t e = λ i. record { time = t i; edges = e i }

-- the strict order
pub lighter_irrefl : {a : Weight} → Lighter a a → ⊥
lighter_irrefl (sooner h) = omega arith
lighter_irrefl (shorter e h) = omega arith

pub lighter_trans : {a b c : Weight} → Lighter a b → Lighter b c → Lighter a c
lighter_trans (sooner h) (sooner k) = sooner (omega arith)
lighter_trans (sooner h) (shorter e k) = sooner (omega arith)
lighter_trans (shorter e h) (sooner k) = sooner (omega arith)
lighter_trans (shorter e h) (shorter f k) = shorter (omega arith) (omega arith)

pub lighter_asym : {a b : Weight} → Lighter a b → Lighter b a → ⊥
lighter_asym h k = lighter_irrefl (lighter_trans h k)

-- of two weights, by their numbers: what a test that found none of the others knows
pub not_lighter : {a b : Weight} → b.time ≤ a.time → (a.time ≡ b.time → b.edges ≤ a.edges) → Lighter a b → ⊥
not_lighter t e (sooner h) = omega arith
not_lighter t e (shorter f h) = omega (arith, e f)

-- one of three
pub data Compared (a b : Weight) : Type 0 where
  lighter : Lighter a b → Compared a b
  same : a ≡ b → Compared a b
  heavier : Lighter b a → Compared a b

pub compare : (a b : Weight) → Compared a b
compare a b = go (dec_lt a.time b.time) (dec_lt b.time a.time) (dec_lt a.edges b.edges) (dec_lt b.edges a.edges)
  where
    go : Dec (a.time < b.time) → Dec (b.time < a.time) → Dec (a.edges < b.edges) → Dec (b.edges < a.edges) → Compared a b
    go (yes h) x y z = lighter (sooner h)
    go (no h) (yes k) y z = heavier (sooner k)
    go (no h) (no k) (yes l) z = lighter (shorter (omega arith) l)
    go (no h) (no k) (no l) (yes m) = heavier (shorter (omega arith) m)
    go (no h) (no k) (no l) (no m) = same (weight-≡ (omega arith) (omega arith))

pub dec_lighter : (a b : Weight) → Dec (Lighter a b)
dec_lighter a b = go (compare a b)
  where
    go : Compared a b → Dec (Lighter a b)
    go (lighter h) = yes h
    go (same e) = no (λ h. lighter_irrefl (subst (λ z. Lighter z b) e h))
    go (heavier h) = no (λ k. lighter_asym h k)

-- two weights of which neither is lighter are one
pub neither_lighter : {a b : Weight} → (Lighter a b → ⊥) → (Lighter b a → ⊥) → a ≡ b
neither_lighter {a} {b} n m = go (compare a b)
  where
    go : Compared a b → a ≡ b
    go (lighter h) = absurd (n h)
    go (same e) = e
    go (heavier h) = absurd (m h)

-- the order that goes with it
pub ≼_refl : {a : Weight} → a ≼ a
≼_refl = level refl (omega arith)

pub ≡-≼ : {a b : Weight} → a ≡ b → a ≼ b
≡-≼ {a} e = subst (λ z. a ≼ z) e ≼_refl

pub ≼_trans : {a b c : Weight} → a ≼ b → b ≼ c → a ≼ c
≼_trans (below h) (below k) = below (omega arith)
≼_trans (below h) (level k k') = below (omega arith)
≼_trans (level h h') (below k) = below (omega arith)
≼_trans (level h h') (level k k') = level (omega arith) (omega arith)

pub ≼-time : {a b : Weight} → a ≼ b → a.time ≤ b.time
≼-time (below h) = omega arith
≼-time (level h k) = omega arith

pub ≼-not_lighter : {a b : Weight} → a ≼ b → Lighter b a → ⊥
≼-not_lighter (below h) (sooner k) = omega arith
≼-not_lighter (below h) (shorter e k) = omega arith
≼-not_lighter (level f h) (sooner k) = omega arith
≼-not_lighter (level f h) (shorter e k) = omega arith

pub ≼-antisym : {a b : Weight} → a ≼ b → b ≼ a → a ≡ b
≼-antisym h k = neither_lighter (≼-not_lighter k) (≼-not_lighter h)

pub lighter-≼ : {a b : Weight} → Lighter a b → a ≼ b
lighter-≼ (sooner h) = below h
lighter-≼ (shorter e h) = level e (omega arith)

pub ≼-or : (a b : Weight) → a ≼ b ⊎ Lighter b a
≼-or a b = go (compare a b)
  where
    go : Compared a b → a ≼ b ⊎ Lighter b a
    go (lighter h) = inl (lighter-≼ h)
    go (same e) = inl (≡-≼ e)
    go (heavier h) = inr h

pub not_lighter-≼ : {a b : Weight} → (Lighter b a → ⊥) → a ≼ b
not_lighter-≼ {a} {b} n = go (≼-or a b)
  where
    go : a ≼ b ⊎ Lighter b a → a ≼ b
    go (inl h) = h
    go (inr h) = absurd (n h)

pub not-≼-lighter : {a b : Weight} → (a ≼ b → ⊥) → Lighter b a
not-≼-lighter {a} {b} n = go (≼-or a b)
  where
    go : a ≼ b ⊎ Lighter b a → Lighter b a
    go (inl h) = absurd (n h)
    go (inr h) = h

pub ≼-lighter : {a b c : Weight} → a ≼ b → Lighter b c → Lighter a c
≼-lighter (below h) (sooner k) = sooner (omega arith)
≼-lighter (below h) (shorter e k) = sooner (omega arith)
≼-lighter (level e h) (sooner k) = sooner (omega arith)
≼-lighter (level e h) (shorter f k) = shorter (omega arith) (omega arith)

pub lighter-≼-trans : {a b c : Weight} → Lighter a b → b ≼ c → Lighter a c
lighter-≼-trans (sooner h) (below k) = sooner (omega arith)
lighter-≼-trans (sooner h) (level e k) = sooner (omega arith)
lighter-≼-trans (shorter e h) (below k) = sooner (omega arith)
lighter-≼-trans (shorter e h) (level f k) = shorter (omega arith) (omega arith)

-- sums
pub ⊕-time : (a b : Weight) → (a ⊕ b).time ≡ a.time + b.time
unfolding ◌⊕◌
⊕-time a b = refl

pub ⊕-edges : (a b : Weight) → (a ⊕ b).edges ≡ a.edges + b.edges
unfolding ◌⊕◌
⊕-edges a b = refl

pub ⊕-assoc : (a b c : Weight) → a ⊕ b ⊕ c ≡ a ⊕ (b ⊕ c)
unfolding ◌⊕◌
⊕-assoc a b c = weight-≡ (omega arith) (omega arith)

pub ⊕-comm : (a b : Weight) → a ⊕ b ≡ b ⊕ a
unfolding ◌⊕◌
⊕-comm a b = weight-≡ (omega arith) (omega arith)

pub zero-⊕ : (a : Weight) → zero_weight ⊕ a ≡ a
unfolding ◌⊕◌
zero-⊕ a = weight-≡ (omega arith) (omega arith)

pub ⊕-zero : (a : Weight) → a ⊕ zero_weight ≡ a
⊕-zero a = ⊕-comm a zero_weight ∙ zero-⊕ a

pub zero-≼ : (a : Weight) → zero_weight ≼ a
zero-≼ a = go (dec_lt 0 a.time)
  where
    go : Dec (0 < a.time) → zero_weight ≼ a
    go (yes h) = below h
    go (no h) = level (omega arith) (omega arith)

pub ≼-mono : {a b c d : Weight} → a ≼ b → c ≼ d → a ⊕ c ≼ b ⊕ d
unfolding ◌⊕◌
≼-mono (below h) (below k) = below (omega arith)
≼-mono (below h) (level k k') = below (omega arith)
≼-mono (level h h') (below k) = below (omega arith)
≼-mono (level h h') (level k k') = level (omega arith) (omega arith)

pub ≼-more : (a b : Weight) → b ≼ a ⊕ b
≼-more a b = rw zero-⊕ at (≼-mono (zero-≼ a) (≼_refl {a = b}))

pub ≼-less : (a b : Weight) → a ≼ a ⊕ b
≼-less a b = rw ⊕-zero at (≼-mono (≼_refl {a = a}) (zero-≼ b))

module _ (a b c : Weight) where
  pub lighter_mono_l : Lighter b c → Lighter (a ⊕ b) (a ⊕ c)
  unfolding ◌⊕◌
  lighter_mono_l (sooner h) = sooner (omega arith)
  lighter_mono_l (shorter e h) = shorter (omega arith) (omega arith)

  pub lighter_mono_r : Lighter b c → Lighter (b ⊕ a) (c ⊕ a)
  lighter_mono_r h = rw (⊕-comm b a, ⊕-comm c a) (lighter_mono_l h)

  pub lighter_cancel_l : Lighter (a ⊕ b) (a ⊕ c) → Lighter b c
  unfolding ◌⊕◌
  lighter_cancel_l (sooner h) = sooner (omega arith)
  lighter_cancel_l (shorter e h) = shorter (omega arith) (omega arith)

  pub lighter_cancel_r : Lighter (b ⊕ a) (c ⊕ a) → Lighter b c
  lighter_cancel_r h = lighter_cancel_l (rw (⊕-comm b a, ⊕-comm c a) at h)

  pub ≼-cancel_l : a ⊕ b ≼ a ⊕ c → b ≼ c
  unfolding ◌⊕◌
  ≼-cancel_l (below h) = below (omega arith)
  ≼-cancel_l (level h k) = level (omega arith) (omega arith)

  pub ≼-cancel_r : b ⊕ a ≼ c ⊕ a → b ≼ c
  ≼-cancel_r h = ≼-cancel_l (rw (⊕-comm b a, ⊕-comm c a) at h)

  pub ⊕-cancel_l : a ⊕ b ≡ a ⊕ c → b ≡ c
  ⊕-cancel_l e =
      weight-≡
      (omega (arith, ap (λ z. z.time) e, ⊕-time a b, ⊕-time a c))
      (omega (arith, ap (λ z. z.edges) e, ⊕-edges a b, ⊕-edges a c))

  pub ⊕-cancel_r : b ⊕ a ≡ c ⊕ a → b ≡ c
  ⊕-cancel_r e = ⊕-cancel_l (⊕-comm a b ∙ e ∙ ⊕-comm c a)

-- a stretch that takes time makes a path heavier: behind it, and in front of it
pub lighter_more : (a b : Weight) → 1 ≤ b.time → Lighter a (a ⊕ b)
lighter_more a b t = sooner (omega (arith, ⊕-time a b))

pub rest_lighter : (a b : Weight) {c : Weight} → 1 ≤ a.time → a ⊕ b ≼ c → Lighter b c
rest_lighter a b t h = sooner (omega (arith, ⊕-time a b, ≼-time h))

-- induction over lighter weights: by the time, and within a time by the edges
module _ (P : Weight → Type 0) (step : (c : Weight) → ((d : Weight) → Lighter d c → P d) → P c) where
  next : (c : Weight) → ((d : Weight) → d.time < c.time → P d) → ((d : Weight) → d.time ≡ c.time → d.edges < c.edges → P d)
      → (d : Weight) → Lighter d c → P d
  next c f g d (sooner k) = f d k
  next c f g d (shorter e k) = g d e k

  within : (t : ℕ) → ((d : Weight) → d.time < t → P d) → (n : ℕ) (c : Weight) → c.time ≡ t → c.edges < n → P c
  within t lower zero c e h = absurd (omega arith)
  within t lower (suc n) c e h = step c (next c (λ d k. lower d (omega arith)) (λ d f k. within t lower n d (f ∙ e) (omega arith)))

  up_to : (t : ℕ) (c : Weight) → c.time < t → P c
  up_to zero c h = absurd (omega arith)
  up_to (suc t) c h =
      elim (dec_lt c.time t) [ yes k ↦ up_to t c k | no k ↦ within t (λ d l. up_to t d l) (suc c.edges) c (omega arith) (omega arith) ]

  pub by_lighter : (c : Weight) → P c
  by_lighter c = up_to (suc c.time) c (omega arith)

-- "none yet" and the unit's addition
pub held-≼-none : {a : Weight} → Held a → a ≼ none_yet
held-≼-none {a} h = go (dec_lt a.time none_yet.time)
  where
    go : Dec (a.time < none_yet.time) → a ≼ none_yet
    go (yes k) = below k
    go (no k) = level (omega (arith, h.time_held)) h.edges_held

-- what ends before the largest time is lighter than none
pub early_lighter_none : {a : Weight} → a.time < none_yet.time → Lighter a none_yet
early_lighter_none l = sooner l

-- the unit's sum is the sum, where that fits its number types
pub sum_held : {a b r : Weight} → Sum a b r → Held (a ⊕ b) → r ≡ a ⊕ b
sum_held (whole h e) k = e
sum_held (too_large n e) k = absurd (n k)

-- "A sum with none .. is none"
pub none_sum : {b r : Weight} → Sum none_yet b r → r ≡ none_yet
none_sum {b} (whole h e) =
    e
    ∙ weight-≡
    (omega (arith, ⊕-time none_yet b, h.time_held))
    (omega (arith, ⊕-edges none_yet b, h.edges_held))
none_sum (too_large n e) = e

pub sum_comm : {a b r : Weight} → Sum a b r → Sum b a r
sum_comm {a} {b} (whole h e) = whole (rw ⊕-comm h) (e ∙ ⊕-comm a b)
sum_comm {a} {b} (too_large n e) = too_large (λ h. n (rw ⊕-comm h)) e

pub sum_none : {a r : Weight} → Sum a none_yet r → r ≡ none_yet
sum_none s = none_sum (sum_comm s)
