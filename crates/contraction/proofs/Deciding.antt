-- Whether there is an up-down journey of a given weight is decided: the rows are finitely many and each lasts.
use mathlib.Core.Path.{◌≡◌, refl, sym, ap, subst}
use mathlib.Core.Logic.{◌⊎◌, inl, inr, ⊎_elim}
use mathlib.Core.List.{List, [], ◌∷◌}
use Prim.Native.Nat.{ℕ, zero, suc, ◌+◌, ◌<◌, ◌≤◌}
use native.Mathlib.Omega.{arith}
use native.Mathlib.Decide.{dec_lt, ℕ_discrete}
use lib.ListN.{length}
use Rattle.network.specs.declared.weight.Weight.{Weight}
use Rattle.network.specs.declared.rows.Row.{Row}
use Rattle.network.specs.Weight.{zero_weight, ◌⊕◌}
use Rattle.network.specs.Network.{Network, Sound}
use Rattle.network.specs.declared.sheet.Sheet.{Sheet}
use Rattle.network.specs.Sheet.{MayRide, MayChange, Initial, Final}
use Rattle.network.specs.Rows.{row, rows, cost}
use Rattle.network.specs.Journey.{Way, stay, ride, change, along, weight, Journey}
use Rattle.network.proofs.WeightLaws.{⊕-time}
use Rattle.network.proofs.OrderLaws.{before_dec}
use Rattle.network.proofs.Pigeonhole.{AllBelow}
use Rattle.search.specs.UpDown.{UpDown, UpDownJourney}
use Rattle.preparation.proofs.WeightMore.{weight_dec}
use Rattle.legs.proofs.TableLaws.{EachSound, fine_row}
use Rattle.legs.proofs.OpeningLaws.{way_rows}

dec_map : {A B : Type 0} → (A → B) → (B → A) → Dec A → Dec B
dec_map f g (yes a) = yes (f a)
dec_map f g (no n) = no (λ b. n (g b))

dec_not : {A : Type 0} → Dec A → Dec (A → ⊥)
dec_not (yes a) = no (λ n. n a)
dec_not (no n) = yes n

dec_both : {A B : Type 0} → Dec A → Dec B → Dec (A × B)
dec_both (yes a) (yes b) = yes (a, b)
dec_both (yes a) (no n) = no (λ t. n t.1)
dec_both (no n) d = no (λ t. n t.0)

dec_either : {A B : Type 0} → Dec A → Dec B → Dec (A ⊎ B)
dec_either (yes a) d = yes (inl a)
dec_either (no n) (yes b) = yes (inr b)
dec_either (no n) (no m) = no (⊎_elim n m)

-- one of the numbers below n
dec_some : (P : ℕ → Type 0) → ((i : ℕ) → Dec (P i)) → (n : ℕ) → Dec ((i : ℕ) × (i < n) × P i)
dec_some P d zero = no (λ t. omega (arith, t.1))
dec_some P d (suc n) = go (d n) (dec_some P d n)
  where
    go : Dec (P n) → Dec ((i : ℕ) × (i < n) × P i) → Dec ((i : ℕ) × (i < suc n) × P i)
    go (yes p) e = yes (n, omega arith, p)
    go (no m) (yes (i, l, p)) = yes (i, omega arith, p)
    go (no m) (no k) = no (λ t. elim (ℕ_discrete t.0 n) [ yes e ↦ m (subst P e t.2) | no e ↦ k (t.0, omega (arith, t.1), t.2) ])

-- one of the lists of at most n numbers below m
abbrev Lists : ℕ → ℕ → (List ℕ → Type 0) → Type 0
Lists m n P = (l : List ℕ) × (length l ≤ n) × AllBelow m l × P l

dec_list : (m n : ℕ) (P : List ℕ → Type 0) → ((l : List ℕ) → Dec (P l)) → Dec (Lists m n P)
dec_list m zero P d = dec_map (λ p. ([], omega arith, tt, p)) back (d [])
  where
    back : Lists m 0 P → P []
    back ([], h, a, p) = p
    back (i ∷ l, h, a, p) = absurd (omega arith)
dec_list m (suc n) P d =
    dec_map to back (dec_either (d []) (dec_some (λ i. Lists m n (λ l. P (i ∷ l))) (λ i. dec_list m n (λ l. P (i ∷ l)) (λ l. d (i ∷ l))) m))
  where
    to : P [] ⊎ ((i : ℕ) × (i < m) × Lists m n (λ l. P (i ∷ l))) → Lists m (suc n) P
    to (inl p) = ([], omega arith, tt, p)
    to (inr (i, h, (l, k, a, p))) = (i ∷ l, omega arith, (h, a), p)

    back : Lists m (suc n) P → P [] ⊎ ((i : ℕ) × (i < m) × Lists m n (λ l. P (i ∷ l)))
    back ([], k, a, p) = inl p
    back (i ∷ l, k, a, p) = inr (i, a.0, (l, omega arith, a.1, p))

module _ (N : Network) (ss : List Row) (S : Sheet) where
  -- the moves by row r from (u, q), with a way on
  abbrev Moves : (v j u q r : ℕ) → List ℕ → Type 0
  Moves v j u q r rs =
      ((r < rows N ss) × ((row N ss r).tail ≡ u))
      × ((((row N ss r).mode ≡ 0 → ⊥) × (MayRide S q (row N ss r).mode × Way N ss S (row N ss r).head q v j rs))
      ⊎ (((row N ss r).mode ≡ 0) × ((i : ℕ) × (i < S.states) × (MayChange S q i × Way N ss S (row N ss r).head i v j rs))))

  move_way : {v j u q r : ℕ} {rs : List ℕ} → Moves v j u q r rs → Way N ss S u q v j (r ∷ rs)
  move_way ((l, t), inl (n, (m, w))) = ride l t refl n m w
  move_way ((l, t), inr (z, (i, k, (m, w)))) = change l t refl z m k w

  way_move : {v j u q r : ℕ} {rs : List ℕ} → Way N ss S u q v j (r ∷ rs) → Moves v j u q r rs
  way_move {v} {j} {q = q} {rs = rs} (ride l t h n m w) = ((l, t), inl (n, (m, subst (λ x. Way N ss S x q v j rs) (sym h) w)))
  way_move {v} {j} {rs = rs} (change {i = i} l t h z m k w) = ((l, t), inr (z, (i, k, (m, subst (λ x. Way N ss S x i v j rs) (sym h) w))))

  dec_way : (v j u q : ℕ) (rs : List ℕ) → Dec (Way N ss S u q v j rs)
  dec_way v j u q [] = dec_map (λ t. stay t.0 t.1) ends (dec_both (ℕ_discrete u v) (ℕ_discrete q j))
    where
      ends : Way N ss S u q v j [] → (u ≡ v) × (q ≡ j)
      ends (stay e f) = (e, f)
  dec_way v j u q (r ∷ rs) =
      dec_map move_way way_move
      (dec_both (dec_both (dec_lt r (rows N ss)) (ℕ_discrete (row N ss r).tail u))
      (dec_either
      (dec_both (dec_not (ℕ_discrete (row N ss r).mode 0)) (dec_both (ℕ_discrete _ 1) (dec_way v j (row N ss r).head q rs)))
      (dec_both (ℕ_discrete (row N ss r).mode 0)
      (dec_some (λ i. MayChange S q i × Way N ss S (row N ss r).head i v j rs)
      (λ i. dec_both (ℕ_discrete _ 1) (dec_way v j (row N ss r).head i rs)) S.states))))

  dec_up_down : (rs : List ℕ) → Dec (UpDown N ss rs)
  dec_up_down [] = yes tt
  dec_up_down (r ∷ []) = yes tt
  dec_up_down (r ∷ p ∷ rs) =
      dec_both
      (dec_map (λ n b c. n (b, c)) (λ f t. f t.0 t.1)
      (dec_not (dec_both (before_dec N.node_ranks _ _) (before_dec N.node_ranks _ _))))
      (dec_up_down (p ∷ rs))

  module _ (from to : ℕ) where
    abbrev Between : List ℕ → ℕ → ℕ → Type 0
    Between rs q j = Initial S q × (Final S j × Way N ss S from q to j rs)

    dec_journey : (rs : List ℕ) → Dec (Journey N ss S from to rs)
    dec_journey rs =
        dec_map
        (λ t. record {
          start = t.0;
          end = t.2.0;
          start_state = t.1;
          end_state = t.2.1;
          initial = t.2.2.0;
          final = t.2.2.1.0;
          way = t.2.2.1.1;
        })
        (λ j. (j.start, j.start_state, (j.end, j.end_state, (j.initial, (j.final, j.way)))))
        (dec_some (λ q. (j : ℕ) × (j < S.states) × Between rs q j)
        (λ q. dec_some (Between rs q) (λ j. dec_both (ℕ_discrete _ 1) (dec_both (ℕ_discrete _ 1) (dec_way to j from q rs))) S.states) S.states)

    dec_up_down_journey : (rs : List ℕ) → Dec (UpDownJourney N ss S from to rs)
    dec_up_down_journey rs =
        dec_map (λ t. record { journey = t.0; up_down = t.1 }) (λ j. (j.journey, j.up_down)) (dec_both (dec_journey rs) (dec_up_down rs))

-- each row lasts, so there are no more rows than seconds
rows_last : {N : Network} {ss : List Row} → Sound N → EachSound N ss → (w : Weight) (rs : List ℕ) → AllBelow (rows N ss) rs
    → w.time + length rs ≤ (along N ss w rs).time
rows_last s t w [] a = omega arith
rows_last {N} {ss} s t w (r ∷ rs) a =
    omega (arith, rows_last s t (w ⊕ cost (row N ss r)) rs a.1, ⊕-time w (cost (row N ss r)), (fine_row s t r a.0).lasts)

-- an up-down journey of weight w
pub record Weighing (N : Network) (ss : List Row) (S : Sheet) (from to : ℕ) (w : Weight) : Type 0 where
  pub path : List ℕ
  pub allowed : UpDownJourney N ss S from to path
  pub weighs : weight N ss path ≡ w

pub dec_weighing : {N : Network} {ss : List Row} → Sound N → EachSound N ss → (S : Sheet) (from to : ℕ) (w : Weight) → Dec (Weighing N ss S from to w)
dec_weighing {N} {ss} s t S from to w =
    dec_map
    (λ l. record { path = l.0; allowed = l.3.0; weighs = l.3.1 })
    (λ j. (j.path, short j, way_rows j.allowed.journey.way, (j.allowed, j.weighs)))
    (dec_list (rows N ss) w.time (λ rs. UpDownJourney N ss S from to rs × (weight N ss rs ≡ w))
    (λ rs. dec_both (dec_up_down_journey N ss S from to rs) (weight_dec (weight N ss rs) w)))
  where
    short : (j : Weighing N ss S from to w) → length j.path ≤ w.time
    short j = omega (arith, rows_last s t zero_weight j.path (way_rows j.allowed.journey.way), ap (λ z. z.time) j.weighs)
