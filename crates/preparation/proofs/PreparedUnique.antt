-- A network has one table of shortcuts only.
use mathlib.Core.Path.{◌≡◌, refl, sym, ◌∙◌, ap, subst}
use mathlib.Core.List.{List, [], ◌∷◌, ◌++◌, append-nil, append_assoc}
use Prim.Native.Nat.{ℕ}
use native.Mathlib.Omega.{arith}
use Rattle.network.specs.declared.rows.Row.{Row}
use Rattle.network.specs.Weight.{◌⊕◌}
use Rattle.network.specs.Order.{Before}
use Rattle.network.specs.Network.{Network}
use Rattle.network.specs.Rows.{row, cost}
use Rattle.network.proofs.WeightLaws.{neither_lighter}
use Rattle.network.proofs.OrderLaws.{before_trans, before_irrefl}
use Rattle.network.proofs.RowLaws.{row-≡}
use Rattle.preparation.specs.Contraction.{LeastRow, CalledFor, Earlier, Adds, Order, Contracts, done, turn, Prepared}
use Rattle.preparation.proofs.SortedLists.{sorted_unique, turns_sorted, earlier_trans, earlier_irrefl, rising_sorted}

pub order_unique : {N : Network} {vs ws : List ℕ} → Order N vs → Order N ws → vs ≡ ws
order_unique {N} {vs} {ws} o p =
    sorted_unique (Before N.node_ranks) (λ x y z. before_trans) (λ x. before_irrefl) vs ws (turns_sorted o.turns) (turns_sorted p.turns)
    (λ v m. p.complete v (o.contractible v m).0 (o.contractible v m).1)
    (λ v m. o.complete v (p.contractible v m).0 (p.contractible v m).1)

pub adds_unique : {N : Network} {ss : List Row} {v : ℕ} {new new' : List Row} → Adds N ss v new → Adds N ss v new' → new ≡ new'
adds_unique {new = new} {new' = new'} a b =
    sorted_unique Earlier (λ x y z. earlier_trans) (λ x. earlier_irrefl) new new' (rising_sorted a.in_order) (rising_sorted b.in_order)
    (λ x m. b.all x (a.only x m))
    (λ x m. a.all x (b.only x m))

pub contracts_unique : {N : Network} (vs : List ℕ) {ss s₁ s₂ : List Row} → Contracts N vs ss s₁ → Contracts N vs ss s₂ → s₁ ≡ s₂
contracts_unique [] (done e) (done f) = sym e ∙ f
contracts_unique {N} (v ∷ vs) {s₂ = s₂} (turn {ss = ss} a e c) (turn b f d) =
    contracts_unique vs c (subst (λ m. Contracts N vs m s₂) (f ∙ ap (λ n. ss ++ n) (adds_unique b a) ∙ sym e) d)

pub prepared_unique : {N : Network} {ss₁ ss₂ : List Row} → Prepared N ss₁ → Prepared N ss₂ → ss₁ ≡ ss₂
prepared_unique {N} {ss₁} {ss₂} p q =
    contracts_unique p.order p.contracts
    (subst (λ o. Contracts N o [] ss₂) (order_unique q.in_order p.in_order) q.contracts)

-- "take the least-weight row .. (lowest row number if equal)": one row, so one shortcut for a tail and a head
pub least_row_unique : {N : Network} {ss : List Row} {v a b r s : ℕ} → LeastRow N ss v a b r → LeastRow N ss v a b s → r ≡ s
least_row_unique {N} {ss} {r = r} {s = s} p q =
    let e : cost (row N ss r) ≡ cost (row N ss s) =
    neither_lighter (q.lightest r p.stands p.leaves p.enters) (p.lightest s q.stands q.leaves q.enters)
    in
    omega (arith, p.lowest s q.stands q.leaves q.enters (sym e), q.lowest r p.stands p.leaves p.enters e)

pub called_unique : {N : Network} {ss : List Row} {v : ℕ} {x y : Row} → CalledFor N ss v x → CalledFor N ss v y → x.tail ≡ y.tail
    → x.head ≡ y.head → x ≡ y
called_unique {N} {ss} {v} {x} {y} p q t h =
    row-≡ t h (p.mode_kept ∙ sym q.mode_kept) (ap (λ w. w.time) c) (ap (λ w. w.edges) c) f s
  where
    f : x.first ≡ y.first
    f = least_row_unique p.into (subst (λ z. LeastRow N ss v z v y.first) (sym t) q.into)

    s : x.second ≡ y.second
    s = least_row_unique p.out (subst (λ z. LeastRow N ss v v z y.second) (sym h) q.out)

    c : cost x ≡ cost y
    c = p.sums ∙ (λ i. cost (row N ss (f i)) ⊕ cost (row N ss (s i))) ∙ sym q.sums

-- contraction goes on from where it stands: what is there stays in front, and one more turn may follow
pub record Front (ss ss' : List Row) : Type 0 where
  pub rest : List Row
  pub behind : ss' ≡ ss ++ rest

pub contracts_front : {N : Network} {vs : List ℕ} {ss ss' : List Row} → Contracts N vs ss ss' → Front ss ss'
contracts_front (done {ss = s} e) = record { rest = []; behind = sym e ∙ sym (append-nil s) }
contracts_front (turn {ss = s} {new = new} a e c) =
    let f = contracts_front c in
    record { rest = new ++ f.rest; behind = f.behind ∙ ap (λ l. l ++ f.rest) e ∙ append_assoc s new f.rest }

pub contracts_join : {N : Network} {vs ws : List ℕ} {ss mid ss' : List Row} → Contracts N vs ss mid → Contracts N ws mid ss'
    → Contracts N (vs ++ ws) ss ss'
contracts_join {N} {ws = ws} {ss' = ss'} (done e) d = subst (λ m. Contracts N ws m ss') (sym e) d
contracts_join (turn a e c) d = turn a e (contracts_join c d)

contracts_split : {N : Network} (vs : List ℕ) {ws : List ℕ} {ss ss' : List Row} → Contracts N (vs ++ ws) ss ss'
    → (mid : List Row) × Contracts N vs ss mid × Contracts N ws mid ss'
contracts_split [] {ss = ss} c = (ss, done refl, c)
contracts_split (v ∷ vs) (turn a e c) = let (mid, d, f) = contracts_split vs c in (mid, turn a e d, f)

-- every preparation has v's turn behind the same table
pub record TurnIn (N : Network) (mid : List Row) (v : ℕ) (ss : List Row) : Type 0 where
  pub added : List Row
  pub adds : Adds N mid v added
  pub in_front : Front (mid ++ added) ss

pub prepared_turn : {N : Network} (vs : List ℕ) {v : ℕ} (ws : List ℕ) {mid ss : List Row} → Prepared N ss → Order N (vs ++ (v ∷ ws))
    → Contracts N vs [] mid → TurnIn N mid v ss
prepared_turn {N} vs {v} ws {mid} {ss} p o c =
    let (mid', d, f) = contracts_split vs (subst (λ l. Contracts N l [] ss) (order_unique p.in_order o) p.contracts) in
    go (subst (λ m. Contracts N (v ∷ ws) m ss) (contracts_unique vs d c) f)
  where
    go : Contracts N (v ∷ ws) mid ss → TurnIn N mid v ss
    go (turn {new = new} a e r) = record { added = new; adds = a; in_front = subst (λ m. Front m ss) e (contracts_front r) }
