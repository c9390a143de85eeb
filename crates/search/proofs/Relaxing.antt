-- Trying the arcs of one place, one after the other.
use mathlib.Core.Path.{◌≡◌, refl, sym, ap, subst, ◌∙◌}
use mathlib.Core.Logic.{◌⊎◌, inl, inr, ⊎_elim}
use Prim.Native.Nat.{ℕ, ◌<◌}
use native.Mathlib.Decide.{ℕ_discrete}
use Rattle.search.specs.Graph.{Graph, Laws, Same, Better, Relaxed}
use Rattle.search.proofs.Greedy.{le_eq, relaxed_falls}

-- the arcs of T, and that by row r₀ to v₀
pub data Also (T : ℕ → ℕ → Type 0) (r₀ v₀ r v : ℕ) : Type 0 where
  earlier : T r v → Also T r₀ v₀ r v
  this : r ≡ r₀ → v ≡ v₀ → Also T r₀ v₀ r v

module _ {G : Graph} {u : ℕ} {w : G.Label} {d : ℕ → G.Label} {pr pp : ℕ → ℕ} where
  -- nothing tried
  pub relax_start : {T : ℕ → ℕ → Type 0} → ((r v : ℕ) → T r v → ⊥) → Relaxed G u w T d d pr pr pp pp
  relax_start n = record {
    lower = λ v l. inl record { label = refl; by_row = refl; by_place = refl };
    bound = λ r v a t. absurd (n r v t);
  }

  module _ {T : ℕ → ℕ → Type 0} {d' : ℕ → G.Label} {pr' pp' : ℕ → ℕ} (p : Relaxed G u w T d d' pr pr' pp pp') where
    -- the same, of arcs that are among those
    pub relax_only : {T' : ℕ → ℕ → Type 0} → ((r v : ℕ) → G.Arc u r v → T' r v → T r v) → Relaxed G u w T' d d' pr pr' pp pp'
    relax_only f = record { lower = p.lower; bound = λ r v a t. p.bound r v a (f r v a t) }

    -- the same, of labels and parents before that are equal at the places
    pub relax_from : {e : ℕ → G.Label} {re pe : ℕ → ℕ} → ((v : ℕ) → v < G.places → Same G e d re pr pe pp v)
        → Relaxed G u w T e d' re pr' pe pp'
    relax_from {e} f = record {
      lower = λ v l.
          let m = f v l in
          ⊎_elim
          (λ o. inl record { label = o.label ∙ m.label; by_row = o.by_row ∙ m.by_row; by_place = o.by_place ∙ m.by_place })
          (λ b. inr record {
            row = b.row;
            arc = b.arc;
            label = b.label;
            lighter = subst (λ (y : G.Label). G.Le y (d' v) → ⊥) m.label b.lighter;
            by_row = b.by_row;
            by_place = b.by_place;
          })
          (p.lower v l);
      bound = p.bound;
    }

    -- where v has the label and the parent after that it had
    module _ {d'' : ℕ → G.Label} {pr'' pp'' : ℕ → ℕ} {v : ℕ} (m : Same G d' d'' pr' pr'' pp' pp'' v) where
      lower_to : v < G.places → Same G d d'' pr pr'' pp pp'' v ⊎ Better G u w d d'' pr'' pp'' v
      lower_to l = ⊎_elim
          (λ o. inl record { label = m.label ∙ o.label; by_row = m.by_row ∙ o.by_row; by_place = m.by_place ∙ o.by_place })
          (λ b. inr record {
            row = b.row;
            arc = b.arc;
            label = m.label ∙ b.label;
            lighter = subst (λ (y : G.Label). G.Le (d v) y → ⊥) (sym m.label) b.lighter;
            by_row = m.by_row ∙ b.by_row;
            by_place = m.by_place ∙ b.by_place;
          })
          (p.lower v l)

      bound_to : (r : ℕ) → G.Arc u r v → T r v → G.Le (d'' v) (G.after w r)
      bound_to r a t = subst (λ (y : G.Label). G.Le y (G.after w r)) (sym m.label) (p.bound r v a t)

    -- one more, by which the label of v₀ does not fall
    pub relax_keep : (r₀ v₀ : ℕ) → (G.Arc u r₀ v₀ → G.Le (d' v₀) (G.after w r₀)) → Relaxed G u w (Also T r₀ v₀) d d' pr pr' pp pp'
    relax_keep r₀ v₀ h = record { lower = p.lower; bound = λ r v a t. go r v a t }
      where
        go : (r v : ℕ) → G.Arc u r v → Also T r₀ v₀ r v → G.Le (d' v) (G.after w r)
        go r v a (earlier t) = p.bound r v a t
        go r v a (this e f) =
            subst (λ (x : ℕ). G.Le (d' x) (G.after w r)) (sym f)
            (subst (λ (x : ℕ). G.Le (d' v₀) (G.after w x)) (sym e)
            (h (subst (λ (x : ℕ). G.Arc u r₀ x) f (subst (λ (x : ℕ). G.Arc u x v) e a))))

    -- one more, by which it falls
    module _ (laws : Laws G) {r₀ v₀ : ℕ} {x : G.Label} {d'' : ℕ → G.Label} {pr'' pp'' : ℕ → ℕ} (arc : G.Arc u r₀ v₀) (new : x ≡ G.after w r₀)
        (lighter : G.Le (d' v₀) x → ⊥) (hit : d'' v₀ ≡ x) (hit_row : pr'' v₀ ≡ r₀) (hit_place : pp'' v₀ ≡ u)
        (miss : (v : ℕ) → v < G.places → (v ≡ v₀ → ⊥) → Same G d' d'' pr' pr'' pp' pp'' v) where
      lower' : (v : ℕ) → v < G.places → Dec (v ≡ v₀) → Same G d d'' pr pr'' pp pp'' v ⊎ Better G u w d d'' pr'' pp'' v
      lower' v l (yes e) = inr record {
        row = r₀;
        arc = subst (λ (y : ℕ). G.Arc u r₀ y) (sym e) arc;
        label = ap d'' e ∙ hit ∙ new;
        lighter = λ h. lighter (laws.le_trans _ _ _ (le_eq laws (ap d' (sym e)))
            (laws.le_trans _ _ _ (relaxed_falls laws p v l) (laws.le_trans _ _ _ h (le_eq laws (ap d'' e ∙ hit)))));
        by_row = ap pr'' e ∙ hit_row;
        by_place = ap pp'' e ∙ hit_place;
      }
      lower' v l (no n) = lower_to (miss v l n) l

      tried : (r v : ℕ) → G.Arc u r v → Dec (v ≡ v₀) → T r v → G.Le (d'' v) (G.after w r)
      tried r v a (yes e) t = laws.le_trans _ _ _ (le_eq laws (ap d'' e ∙ hit)) (laws.le_trans _ _ _ (laws.le_total _ _ lighter)
          (laws.le_trans _ _ _ (le_eq laws (ap d' (sym e))) (p.bound r v a t)))
      tried r v a (no n) t = bound_to (miss v (laws.head_in u r v a) n) r a t

      bound' : (r v : ℕ) → G.Arc u r v → Also T r₀ v₀ r v → G.Le (d'' v) (G.after w r)
      bound' r v a (earlier t) = tried r v a (ℕ_discrete v v₀) t
      bound' r v a (this e f) = le_eq laws (ap d'' f ∙ hit ∙ new ∙ ap (G.after w) (sym e))

      pub relax_store : Relaxed G u w (Also T r₀ v₀) d d'' pr pr'' pp pp''
      relax_store = record { lower = λ v l. lower' v l (ℕ_discrete v v₀); bound = bound' }

-- some tried, and then some more
module _ {G : Graph} (laws : Laws G) {u : ℕ} {w : G.Label} {T T' : ℕ → ℕ → Type 0} {d d' d'' : ℕ → G.Label} {pr pr' pr'' pp pp' pp'' : ℕ → ℕ}
    (p : Relaxed G u w T d d' pr pr' pp pp') (q : Relaxed G u w T' d' d'' pr' pr'' pp' pp'') where
  join_lower : (v : ℕ) → v < G.places → Same G d' d'' pr' pr'' pp' pp'' v ⊎ Better G u w d' d'' pr'' pp'' v
      → Same G d d'' pr pr'' pp pp'' v ⊎ Better G u w d d'' pr'' pp'' v
  join_lower v l (inl m) = lower_to p m l
  join_lower v l (inr b) = inr (record {
    row = b.row;
    arc = b.arc;
    label = b.label;
    lighter = λ h. b.lighter (laws.le_trans _ _ _ (relaxed_falls laws p v l) h);
    by_row = b.by_row;
    by_place = b.by_place;
  })

  pub relax_join : Relaxed G u w (λ r v. T r v ⊎ T' r v) d d'' pr pr'' pp pp''
  relax_join = record {
    lower = λ v l. join_lower v l (q.lower v l);
    bound = λ r v a. ⊎_elim
        (λ t. laws.le_trans _ _ _ (relaxed_falls laws q v (laws.head_in u r v a)) (p.bound r v a t))
        (λ t. q.bound r v a t);
  }
