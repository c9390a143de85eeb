-- The order of contraction: there is one, and the scan for the next turn goes through it.
use mathlib.Core.Path.{◌≡◌, refl, sym, ap, subst, ◌∙◌}
use mathlib.Core.Logic.{◌⊎◌, inl, inr, ⊎_elim}
use mathlib.Core.List.{List, [], ◌∷◌, Memᴰ}
use Prim.Native.Nat.{ℕ, zero, suc, ◌<◌}
use native.Mathlib.Omega.{arith}
use native.Mathlib.Decide.{dec_lt, ℕ_discrete}
use lib.ListN.{get_or}
use Rattle.std.specs.Prelude.{Option, Some, None}
use Rattle.network.specs.Order.{Core, Before}
use Rattle.network.specs.Network.{Network, nodes, Sound}
use Rattle.network.proofs.OrderLaws.{before_dec, before_trans, before_irrefl, before_total}
use Rattle.preparation.specs.Contraction.{Turns, over, last, then, Order}
use Rattle.preparation.specs.Preparing.{Due, NextTurn}
use Rattle.preparation.proofs.SortedLists.{Sorted}
use Rattle.preparation.proofs.RemainingTurns.{Remaining}

-- there is an order -------------------------------------------------------------------------------------------------------------------------------

sorted_turns : {N : Network} (vs : List ℕ) → Sorted (Before N.node_ranks) vs → Turns N vs
sorted_turns [] s = over
sorted_turns (v ∷ []) s = last
sorted_turns (v ∷ w ∷ vs) s = then (s.0 w (mathlib.Core.List.Memᴰ.head refl)) (sorted_turns (w ∷ vs) s.1)

module _ (ranks : List ℕ) where
  -- vs with x among them
  record Inserted (x : ℕ) (vs : List ℕ) : Type 0 where
    list : List ℕ
    sorted : Sorted (Before ranks) list
    new_in : Memᴰ x list
    old_in : (z : ℕ) → Memᴰ z vs → Memᴰ z list
    only : (z : ℕ) → Memᴰ z list → (z ≡ x) ⊎ Memᴰ z vs

  insert : (x : ℕ) (vs : List ℕ) → (Core ranks x → ⊥) → (Memᴰ x vs → ⊥) → Sorted (Before ranks) vs → Inserted x vs
  insert x [] n out s = record {
    list = x ∷ [];
    sorted = (λ y m. absurd (mathlib.Core.List.Memᴰ.not-nil m), tt);
    new_in = mathlib.Core.List.Memᴰ.head refl;
    old_in = λ z m. mathlib.Core.List.Memᴰ.tail m;
    only = λ z m. mathlib.Core.List.Memᴰ.cases_cons m;
  }
  insert x (v ∷ vs) n out s = go (before_dec ranks x v) (insert x vs n (λ m. out (mathlib.Core.List.Memᴰ.tail m)) s.1)
    where
      behind_first : Before ranks x v → (z : ℕ) → (z ≡ v) ⊎ Memᴰ z vs → Before ranks x z
      behind_first b z (inl e) = subst (Before ranks x) (sym e) b
      behind_first b z (inr m) = before_trans b (s.0 z m)

      behind_v : (Before ranks x v → ⊥) → (z : ℕ) → (z ≡ x) ⊎ Memᴰ z vs → Before ranks v z
      behind_v b z (inl e) = subst (Before ranks v) (sym e) (before_total x v n (λ q. out (mathlib.Core.List.Memᴰ.head q)) b)
      behind_v b z (inr m) = s.0 z m

      old : (i : Inserted x vs) (z : ℕ) → (z ≡ v) ⊎ Memᴰ z vs → Memᴰ z (v ∷ i.list)
      old i z (inl e) = mathlib.Core.List.Memᴰ.head e
      old i z (inr m) = mathlib.Core.List.Memᴰ.tail (i.old_in z m)

      only_those : (z : ℕ) → (z ≡ x) ⊎ Memᴰ z vs → (z ≡ x) ⊎ Memᴰ z (v ∷ vs)
      only_those z (inl e) = inl e
      only_those z (inr m) = inr (mathlib.Core.List.Memᴰ.tail m)

      go : Dec (Before ranks x v) → Inserted x vs → Inserted x (v ∷ vs)
      go (yes b) i = record {
        list = x ∷ v ∷ vs;
        sorted = (λ z m. behind_first b z (mathlib.Core.List.Memᴰ.cases_cons m), s);
        new_in = mathlib.Core.List.Memᴰ.head refl;
        old_in = λ z m. mathlib.Core.List.Memᴰ.tail m;
        only = λ z m. mathlib.Core.List.Memᴰ.cases_cons m;
      }
      go (no b) i = record {
        list = v ∷ i.list;
        sorted = (λ z m. behind_v b z (i.only z m), i.sorted);
        new_in = mathlib.Core.List.Memᴰ.tail i.new_in;
        old_in = λ z m. old i z (mathlib.Core.List.Memᴰ.cases_cons m);
        only = λ z m. ⊎_elim (λ e. inr (mathlib.Core.List.Memᴰ.head e)) (λ l. only_those z (i.only z l)) (mathlib.Core.List.Memᴰ.cases_cons m);
      }

  -- the nodes below n that are not core, in the order of contraction
  record Ordered (n : ℕ) : Type 0 where
    list : List ℕ
    sorted : Sorted (Before ranks) list
    contractible : (v : ℕ) → Memᴰ v list → (v < n) × (Core ranks v → ⊥)
    complete : (v : ℕ) → v < n → (Core ranks v → ⊥) → Memᴰ v list

  ordered : (n : ℕ) → Ordered n
  ordered zero = record {
    list = [];
    sorted = tt;
    contractible = λ v m. absurd (mathlib.Core.List.Memᴰ.not-nil m);
    complete = λ v l n. absurd (omega arith);
  }
  ordered (suc n) = go (ordered n) (ℕ_discrete (get_or ranks n 0) 65535)
    where
      go : Ordered n → Dec (Core ranks n) → Ordered (suc n)
      go o (yes c) = record {
        list = o.list;
        sorted = o.sorted;
        contractible = λ v m. (omega (arith, (o.contractible v m).0), (o.contractible v m).1);
        complete = λ v l k. at_core v k (dec_lt v n) l;
      }
        where
          at_core : (v : ℕ) → (Core ranks v → ⊥) → Dec (v < n) → v < suc n → Memᴰ v o.list
          at_core v k (yes h) l = o.complete v h k
          at_core v k (no h) l = let e : n ≡ v = omega arith in absurd (k (subst (Core ranks) e c))
      go o (no c) =
          let i = insert n o.list c (λ m. omega (arith, (o.contractible n m).0)) o.sorted in
          record {
            list = i.list;
            sorted = i.sorted;
            contractible = λ v m. known v (i.only v m);
            complete = λ v l k. all i v k (dec_lt v n) l;
          }
        where
          known : (v : ℕ) → (v ≡ n) ⊎ Memᴰ v o.list → (v < suc n) × (Core ranks v → ⊥)
          known v (inl e) = (omega arith, λ k. c (subst (Core ranks) e k))
          known v (inr m) = (omega (arith, (o.contractible v m).0), (o.contractible v m).1)

          all : (i : Inserted n o.list) (v : ℕ) → (Core ranks v → ⊥) → Dec (v < n) → v < suc n → Memᴰ v i.list
          all i v k (yes h) l = i.old_in v (o.complete v h k)
          all i v k (no h) l = let e : n ≡ v = omega arith in subst (λ z. Memᴰ z i.list) e i.new_in

pub order_exists : (N : Network) → (vs : List ℕ) × Order N vs
order_exists N =
    let o = ordered N.node_ranks (nodes N) in
    (o.list, record { turns = sorted_turns o.list o.sorted; contractible = o.contractible; complete = o.complete })

-- the scan for the next turn goes through it ------------------------------------------------------------------------------------------------------

-- the nodes that are due are those of vs
pub record DueAre (N : Network) (last : Option ℕ) (vs : List ℕ) : Type 0 where
  pub all : (x : ℕ) → x < nodes N → Due N.node_ranks last x → Memᴰ x vs
  pub only : (x : ℕ) → x < nodes N → Memᴰ x vs → Due N.node_ranks last x

pub due_start : {N : Network} {vs : List ℕ} → Order N vs → DueAre N None vs
due_start o =
    record { all = λ x l d. o.complete x l d.not_core; only = λ x l m. record { not_core = (o.contractible x m).1; behind = λ y e. absurd cc } }

-- v comes next: it is the first of those to come, and the others are due behind it
pub record Next (N : Network) (vs : List ℕ) (v : ℕ) : Type 0 where
  pub others : List ℕ
  pub first : vs ≡ v ∷ others
  pub due_are : DueAre N (Some v) others

module _ {N : Network} (s : Sound N) {last : Option ℕ} where
  pub next_none : {vs : List ℕ} → Remaining N vs → DueAre N last vs → NextTurn N.node_ranks last None → vs ≡ []
  next_none {vs} r d b = go vs r d
    where
      go : (ws : List ℕ) → Remaining N ws → DueAre N last ws → ws ≡ []
      go [] r d = refl
      go (w ∷ ws) r d =
          let node : w < nodes N = (r.contractible w (mathlib.Core.List.Memᴰ.head refl)).0 in
          absurd (b w (omega (arith, s.sized.ranks_even)) (d.only w node (mathlib.Core.List.Memᴰ.head refl)))

  module _ {v : ℕ} where
    due_next : (w : ℕ) (ws : List ℕ) → Remaining N (w ∷ ws) → DueAre N last (w ∷ ws) → Due N.node_ranks last v → w ≡ v → Next N (w ∷ ws) v
    due_next w ws r d q e = record {
      others = ws;
      first = ap (λ (z : ℕ). z ∷ ws) e;
      due_are = record {
        all = λ x l f. ⊎_elim
            (λ z. absurd (before_irrefl (subst (Before N.node_ranks v) (z ∙ e) (f.behind v refl))))
            (λ m. m)
            (mathlib.Core.List.Memᴰ.cases_cons (d.all x l (record {
              not_core = f.not_core;
              behind = λ y b. before_trans (q.behind y b) (f.behind v refl);
            })));
        only = λ x l m. record {
          not_core = (r.contractible x (mathlib.Core.List.Memᴰ.tail m)).1;
          behind = λ y b. let k : w ≡ y = cc in subst (λ z. Before N.node_ranks z x) k (r.sorted.0 x m);
        };
      };
    }

    pub next_some : {vs : List ℕ} → Remaining N vs → DueAre N last vs → NextTurn N.node_ranks last (Some v) → Next N vs v
    next_some {vs} r d t = go vs r d (d.all v (omega (arith, t.below, s.sized.ranks_even)) t.due)
      where
        go : (ws : List ℕ) → Remaining N ws → DueAre N last ws → Memᴰ v ws → Next N ws v
        go [] r d m = absurd (mathlib.Core.List.Memᴰ.not-nil m)
        go (w ∷ ws) r d m =
            let node : w < nodes N = (r.contractible w (mathlib.Core.List.Memᴰ.head refl)).0 in
            let sooner : Memᴰ v ws → ⊥ =
            λ k. t.none_before w (omega (arith, s.sized.ranks_even)) (d.only w node (mathlib.Core.List.Memᴰ.head refl)) (r.sorted.0 v k) in
            due_next w ws r d t.due (⊎_elim (λ e. sym e) (λ k. absurd (sooner k)) (mathlib.Core.List.Memᴰ.cases_cons m))
