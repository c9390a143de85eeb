-- Walks without a repetition: a walk to a target goes through no key twice, or there is a lighter one beside it.
use mathlib.Core.Path.{◌≡◌, refl, sym, subst, ◌∙◌}
use mathlib.Core.Logic.{◌⊎◌, inl, inr, ⊎_elim}
use mathlib.Core.List.{List, [], ◌∷◌}
use Prim.Native.Nat.{ℕ, ◌+◌, ◌<◌, ◌≤◌}
use native.Mathlib.Omega.{arith}
use native.Mathlib.Decide.{ℕ_discrete}
use lib.ListN.{length}
use Rattle.network.proofs.Pigeonhole.{Absent, Distinct, no_more, and, AllBelow, pigeonhole}
use Rattle.search.specs.Graph.{Graph, Trail, halt, on, after_all, Laws}
use Rattle.search.proofs.Greedy.{after_all_mono}

-- Each place has a key below K, and a turn that no arc lowers. Of two places with one key, the one of the lower turn can do all that the
-- other can.
pub record Keyed (G : Graph) (K : ℕ) (key turn : ℕ → ℕ) : Type 0 where
  pub key_in : (p : ℕ) → p < G.places → key p < K
  pub turn_on : (p r q : ℕ) → G.Arc p r q → turn p ≤ turn q
  pub same_arc : (p p' r q : ℕ) → key p ≡ key p' → turn p ≤ turn p' → G.Arc p' r q → G.Arc p r q
  pub same_target : (p p' : ℕ) → key p ≡ key p' → turn p ≤ turn p' → G.Target p' → G.Target p

-- no row is free, and of two labels the lighter one stays lighter by a row
pub record Costly (G : Graph) : Type 0 where
  pub not_free : (p r q : ℕ) (a : G.Label) → G.Arc p r q → G.Le (G.after a r) a → ⊥
  pub after_cancel : (a b : G.Label) (r : ℕ) → G.Le (G.after a r) (G.after b r) → G.Le a b

-- a walk with the keys of its places, both ends included
pub data Visit (G : Graph) (key : ℕ → ℕ) : (p q : ℕ) → List ℕ → List ℕ → Type 0 where
  last : {p q k : ℕ} → p ≡ q → k ≡ key p → Visit G key p q [] (k ∷ [])
  next : {p x q r k : ℕ} {rs ks : List ℕ} → G.Arc p r x → k ≡ key p → Visit G key x q rs ks → Visit G key p q (r ∷ rs) (k ∷ ks)

-- a walk from p to a target that is lighter than rs
pub record Lightened (G : Graph) (p : ℕ) (rs : List ℕ) : Type 0 where
  pub to : ℕ
  pub rows : List ℕ
  pub targets : G.Target to
  pub trail : Trail G p to rows
  pub lighter : (w : G.Label) → G.Le (after_all G w rs) (after_all G w rows) → ⊥

-- the part of a walk from x that begins at a place with the key k
record Found (G : Graph) (key turn : ℕ → ℕ) (x k q : ℕ) (rs : List ℕ) : Type 0 where
  at : ℕ
  rows : List ℕ
  trail : Trail G at q rows
  hit : key at ≡ k
  later : turn x ≤ turn at
  no_heavier : (w : G.Label) → G.Le (after_all G w rows) (after_all G w rs)

pub visit_trail : {G : Graph} {key : ℕ → ℕ} {p q : ℕ} {rs ks : List ℕ} → Visit G key p q rs ks → Trail G p q rs
visit_trail (last e f) = halt e
visit_trail (next a e v) = on a (visit_trail v)

pub visit_length : {G : Graph} {key : ℕ → ℕ} {p q : ℕ} {rs ks : List ℕ} → Visit G key p q rs ks → length ks ≡ length rs + 1
visit_length (last e f) = omega arith
visit_length (next a e v) = omega (arith, visit_length v)

after_all_cancel : {G : Graph} → Costly G → (a b : G.Label) (rs : List ℕ) → G.Le (after_all G a rs) (after_all G b rs) → G.Le a b
after_all_cancel costly a b [] h = h
after_all_cancel {G} costly a b (r ∷ rs) h = costly.after_cancel a b r (after_all_cancel costly (G.after a r) (G.after b r) rs h)

module _ {G : Graph} (laws : Laws G) {K : ℕ} {key turn : ℕ → ℕ} (keyed : Keyed G K key turn) where
  key_below : {k p : ℕ} → k ≡ key p → p < G.places → k < K
  key_below {k} {p} e l = subst (λ (x : ℕ). x < K) (sym e) (keyed.key_in p l)

  pub visit_below : {p q : ℕ} {rs ks : List ℕ} → Visit G key p q rs ks → p < G.places → AllBelow K ks
  visit_below (last e f) l = (key_below f l, tt)
  visit_below (next {p = p} {x = x} {r = r} a f v) l = (key_below f l, visit_below v (laws.head_in p r x a))

  -- a walk that goes through no key twice has fewer rows than there are keys
  pub visit_short : {p q : ℕ} {rs ks : List ℕ} → Visit G key p q rs ks → p < G.places → Distinct ks → length rs < K
  visit_short {ks = ks} v l d = omega (arith, visit_length v, pigeonhole K ks (visit_below v l) d)

  -- a walk begins at its own first place
  whole : {x q k : ℕ} {rs ks : List ℕ} → Visit G key x q rs ks → key x ≡ k → Found G key turn x k q rs
  whole {x} {rs = rs} v e = record {
    at = x;
    rows = rs;
    trail = visit_trail v;
    hit = e;
    later = omega arith;
    no_heavier = λ w. laws.le_refl (after_all G w rs);
  }

  find : {x q : ℕ} {rs ks : List ℕ} → Visit G key x q rs ks → (k : ℕ) → Absent k ks ⊎ Found G key turn x k q rs
  find (last {p = p} {q = q} {k = k'} e f) k = go (ℕ_discrete k k')
    where
      go : Dec (k ≡ k') → Absent k (k' ∷ []) ⊎ Found G key turn p k q []
      go (yes h) = inr (whole (last e f) (sym f ∙ sym h))
      go (no n) = inl (n, tt)
  find (next {p = p} {x = y} {q = q} {r = r} {k = k'} {rs = rs} {ks = ks} a f v) k = go (ℕ_discrete k k') (find v k)
    where
      go : Dec (k ≡ k') → Absent k ks ⊎ Found G key turn y k q rs → Absent k (k' ∷ ks) ⊎ Found G key turn p k q (r ∷ rs)
      go (yes e) _ = inr (whole (next a f v) (sym f ∙ sym e))
      go (no n) (inl m) = inl (n, m)
      go (no n) (inr o) = inr record {
        at = o.at;
        rows = o.rows;
        trail = o.trail;
        hit = o.hit;
        later = omega (arith, keyed.turn_on p r y a, o.later);
        no_heavier = λ w. laws.le_trans _ _ _
            (after_all_mono laws w (G.after w r) o.rows (laws.after_more w r))
            (o.no_heavier (G.after w r));
      }

  -- the same rows from a place of the same key and a lower turn
  from_other : {p p' q : ℕ} {rs : List ℕ} → Trail G p' q rs → key p ≡ key p' → turn p ≤ turn p' → G.Target q
      → (to : ℕ) × G.Target to × Trail G p to rs
  from_other {p} {p'} (halt e) same l t = (p, keyed.same_target p p' same l (subst (λ (x : ℕ). G.Target x) (sym e) t), halt refl)
  from_other {p} {p'} {q} (on {x = x} {r = r} a b) same l t = (q, t, on (keyed.same_arc p p' r x same l a) b)

  module _ (costly : Costly G) where
    -- a walk that comes back to the key of its first place is lighter without the round
    without_round : {p x q r : ℕ} {rs : List ℕ} → G.Arc p r x → G.Target q → Found G key turn x (key p) q rs → Lightened G p (r ∷ rs)
    without_round {p} {x} {q} {r} {rs} a t f =
        let o = from_other {p = p} f.trail (sym f.hit) (omega (arith, keyed.turn_on p r x a, f.later)) t in
        record {
          to = o.0;
          rows = f.rows;
          targets = o.1;
          trail = o.2;
          lighter = λ w h. costly.not_free p r x w a
              (after_all_cancel costly (G.after w r) w f.rows (laws.le_trans _ _ _ (f.no_heavier (G.after w r)) h));
        }

    pub simple_or_lightened : {p q : ℕ} {rs ks : List ℕ} → Visit G key p q rs ks → G.Target q → Distinct ks ⊎ Lightened G p rs
    simple_or_lightened (last e f) t = inl (and tt no_more)
    simple_or_lightened (next {p = p} {x = x} {q = q} {r = r} {k = k} {rs = rs} {ks = ks} a e v) t = go (simple_or_lightened v t)
      where
        go : Distinct ks ⊎ Lightened G x rs → Distinct (k ∷ ks) ⊎ Lightened G p (r ∷ rs)
        go (inl d) = ⊎_elim
            (λ m. inl (and m d))
            (λ f. inr (without_round a t (subst (λ (y : ℕ). Found G key turn x y q rs) e f)))
            (find v k)
        go (inr o) = inr record {
          to = o.to;
          rows = r ∷ o.rows;
          targets = o.targets;
          trail = on a o.trail;
          lighter = λ w. o.lighter (G.after w r);
        }
