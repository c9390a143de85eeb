-- The nodes that are still to be contracted, and which are contracted already.
use mathlib.Core.Path.{◌≡◌, refl, sym, subst}
use mathlib.Core.Logic.{⊎_elim}
use mathlib.Core.List.Memᴰ
use mathlib.Core.List.{List, [], ◌∷◌, Memᴰ}
use Prim.Native.Nat.{ℕ, ◌<◌}
use Rattle.network.specs.Order.{Core, Before}
use Rattle.network.specs.Network.{Network, nodes, Sound}
use Rattle.network.proofs.OrderLaws.{before_trans, before_irrefl, before_asym, before_not_core}
use Rattle.preparation.specs.Contraction.{Order}
use Rattle.preparation.proofs.SortedLists.{Sorted, turns_sorted}

-- x is contracted when the nodes vs are still to come: it is before the first of them, or, where none is to come, it is not core
abbrev pub Gone : Network → List ℕ → ℕ → Type 0
Gone N [] x = Core N.node_ranks x → ⊥
Gone N (v ∷ vs) x = Before N.node_ranks x v

-- vs are the nodes to come, in their order
pub record Remaining (N : Network) (vs : List ℕ) : Type 0 where
  pub sorted : Sorted (Before N.node_ranks) vs
  pub contractible : (x : ℕ) → Memᴰ x vs → (x < nodes N) × (Core N.node_ranks x → ⊥)
  pub rest : (x : ℕ) → x < nodes N → (Core N.node_ranks x → ⊥) → (Gone N vs x → ⊥) → Memᴰ x vs

pub order_remaining : {N : Network} {vs : List ℕ} → Order N vs → Remaining N vs
order_remaining o = record { sorted = turns_sorted o.turns; contractible = o.contractible; rest = λ x h n g. o.complete x h n }

module _ {N : Network} (s : Sound N) where
  gone_not_core : (vs : List ℕ) → Remaining N vs → (x : ℕ) → Gone N vs x → Core N.node_ranks x → ⊥
  gone_not_core [] r x g = g
  gone_not_core (v ∷ vs) r x g = before_not_core (s.node_fine v (r.contractible v (Memᴰ.head refl)).0).known_rank g

  -- what is contracted is not to come
  gone_not_in : (vs : List ℕ) → Remaining N vs → (x : ℕ) → Gone N vs x → Memᴰ x vs → ⊥
  gone_not_in [] r x g m = Memᴰ.not-nil m
  gone_not_in (v ∷ vs) r x g m =
      ⊎_elim (λ e. before_irrefl (subst (λ z. Before N.node_ranks z v) e g)) (λ l. before_asym (r.sorted.0 x l) g) (Memᴰ.cases_cons m)

  -- at the start no node is contracted
  pub start_left : {vs : List ℕ} → Order N vs → (x : ℕ) → x < nodes N → Gone N vs x → ⊥
  start_left {vs} o x h g =
      gone_not_in vs (order_remaining o) x g (o.complete x h (gone_not_core vs (order_remaining o) x g))

  -- v comes next
  module _ (v : ℕ) (vs : List ℕ) (r : Remaining N (v ∷ vs)) where
    pub turn_node : v < nodes N
    turn_node = (r.contractible v (Memᴰ.head refl)).0

    pub turn_not_core : Core N.node_ranks v → ⊥
    turn_not_core = (r.contractible v (Memᴰ.head refl)).1

    -- after v's turn it is contracted, and so are those before it, and no others
    pub gone_now : Gone N vs v
    gone_now = go vs r
      where
        go : (ws : List ℕ) → Remaining N (v ∷ ws) → Gone N ws v
        go [] q = (q.contractible v (Memᴰ.head refl)).1
        go (w ∷ ws) q = q.sorted.0 w (Memᴰ.head refl)

    pub gone_still : (x : ℕ) → Before N.node_ranks x v → Gone N vs x
    gone_still x b = go vs r
      where
        go : (ws : List ℕ) → Remaining N (v ∷ ws) → Gone N ws x
        go [] q = gone_not_core (v ∷ []) q x b
        go (w ∷ ws) q = before_trans b (q.sorted.0 w (Memᴰ.head refl))

    pub remaining_next : Remaining N vs
    remaining_next = record {
      sorted = r.sorted.1;
      contractible = λ x m. r.contractible x (Memᴰ.tail m);
      rest = λ x h n g. ⊎_elim
          (λ e. absurd (g (subst (Gone N vs) (sym e) gone_now)))
          (λ m. m)
          (Memᴰ.cases_cons (r.rest x h n (λ b. g (gone_still x b))));
    }

    pub left_still : (x : ℕ) → x < nodes N → (Before N.node_ranks x v → ⊥) → (x ≡ v → ⊥) → Gone N vs x → ⊥
    left_still x h b n g =
        ⊎_elim n (gone_not_in vs remaining_next x g)
        (Memᴰ.cases_cons (r.rest x h (gone_not_core vs remaining_next x g) b))
