-- The contraction of one node v keeps the weights of walks between other nodes. Said as a double negation: what rests on it are statements that
-- no walk is lighter.
use mathlib.Core.Path.{◌≡◌, refl, sym, subst}
use Prim.Native.Nat.{ℕ, ◌≤◌}
use native.Mathlib.Decide.{ℕ_discrete}
use Rattle.network.specs.declared.weight.Weight.{Weight}
use Rattle.network.specs.Weight.{◌⊕◌, Lighter}
use Rattle.network.proofs.WeightLaws.{◌≼◌, ≼_trans, ≼-more, ≼-less, ⊕-assoc, lighter-≼, lighter-≼-trans, rest_lighter, by_lighter}
use Rattle.preparation.proofs.WeightMore.{≼-behind}
use Rattle.preparation.proofs.Walks.{Walk, stay, step, weaken, from, join, single, map_walk}

-- the edges that avoid v
abbrev pub Avoid : (ℕ → ℕ → Weight → Type 0) → ℕ → ℕ → ℕ → Weight → Type 0
Avoid E v u x a = E u x a × (u ≡ v → ⊥) × (x ≡ v → ⊥)

-- What a shortcut u → w of weight s past v is: an edge u → v and an edge v → w together; no walk u → w is lighter; each that avoids v is heavier.
pub record Past (E : ℕ → ℕ → Weight → Type 0) (v u w : ℕ) (s : Weight) : Type 0 where
  pub apart : u ≡ w → ⊥
  pub into : Weight
  pub out : Weight
  pub into_edge : E u v into
  pub out_edge : E v w out
  pub sum : s ≡ into ⊕ out
  pub least : (c : Weight) → Walk E u w c → Lighter c s → ⊥
  pub alone : (c : Weight) → Walk (Avoid E v) u w c → c ≼ s → ⊥

module _ (E E' : ℕ → ℕ → Weight → Type 0) (v : ℕ) (timed : (u x : ℕ) (a : Weight) → E u x a → 1 ≤ a.time)
    (off : (u x : ℕ) (a : Weight) → E u x a → u ≡ x → ⊥)
    (keep : (u x : ℕ) (a : Weight) → Avoid E v u x a → E' u x a)
    (add : (u w : ℕ) (s : Weight) → Past E v u w s → (E' u w s → ⊥) → ⊥) where
  -- walks of weight c are kept
  abbrev Kept : Weight → Type 0
  Kept c = (u w : ℕ) → (u ≡ v → ⊥) → (w ≡ v → ⊥) → Walk E u w c → (Walk E' u w c → ⊥) → ⊥

  module _ (c : Weight) (lower : (d : Weight) → Lighter d c → Kept d) where
    pair : (u y : ℕ) (a b : Weight) → (u ≡ v → ⊥) → (y ≡ v → ⊥) → (u ≡ y → ⊥) → E u v a → E v y b → a ⊕ b ≼ c → (Walk E' u y (a ⊕ b) → ⊥) → ⊥
    pair u y a b uv yv n e f h no_walk =
        add u y (a ⊕ b)
        (record {
          apart = n;
          into = a;
          out = b;
          into_edge = e;
          out_edge = f;
          sum = refl;
          least = λ d r l. lower d (lighter-≼-trans l h) u y uv yv r (λ q. no_walk (weaken q (lighter-≼ l)));
          alone = λ d r l. no_walk (weaken (map_walk keep r) l);
        })
        (λ g. no_walk (single g))

    through : (u w : ℕ) (a b : Weight) → (u ≡ v → ⊥) → (w ≡ v → ⊥) → E u v a → Walk E v w b → a ⊕ b ≼ c → (Walk E' u w c → ⊥) → ⊥
    through u w a b uv wv e (stay f) h no_walk = wv (sym f)
    through u w a b uv wv e (step {x = y} {a = a'} {b = b'} f p k) h no_walk =
        lower b' (rest_lighter a b' (timed u v a e) (≼-behind a (≼_trans (≼-more a' b') k) h)) y w yv wv p (λ q. go q (ℕ_discrete u y))
      where
        yv : y ≡ v → ⊥
        yv g = off v y a' f (sym g)

        all : a ⊕ a' ⊕ b' ≼ c
        all = rw ⊕-assoc (≼-behind a k h)

        go : Walk E' y w b' → Dec (u ≡ y) → ⊥
        go q (yes g) = no_walk (weaken (from g q) (≼_trans (≼-more (a ⊕ a') b') all))
        go q (no n) = pair u y a a' uv yv n e f (≼_trans (≼-less (a ⊕ a') b') all) (λ r. no_walk (join r q all))

    kept_at : Kept c
    kept_at u w uv wv (stay e) no_walk = no_walk (stay e)
    kept_at u w uv wv (step {x = x} {a = a} {b = b} e p k) no_walk = go (ℕ_discrete x v)
      where
        go : Dec (x ≡ v) → ⊥
        go (yes f) = through u w a b uv wv (subst (λ z. E u z a) f e) (from (sym f) p) k no_walk
        go (no n) = lower b (rest_lighter a b (timed u x a e) k) x w n wv p (λ q. no_walk (step (keep u x a (e, uv, n)) q k))

  pub kept : (c : Weight) → Kept c
  kept = by_lighter Kept kept_at
