-- A table that preparation makes is sound: the rows of each turn are, and their counts and lengths keep to 01's bounds, because no walk over edges is
-- lighter than a shortcut.
use mathlib.Core.Path.{◌≡◌, refl, sym, ◌∙◌, ap, subst, subst₂}
use mathlib.Core.Logic.{inl, inr}
use mathlib.Core.List.{List, [], ◌∷◌, ◌++◌, append-nil}
use Prim.Native.Nat.{ℕ, ◌+◌, ◌-◌, ◌*◌, ◌<◌, ◌≤◌}
use native.Mathlib.Omega.{arith}
use native.Mathlib.Decide.{dec_lt}
use lib.ListN.{get_or}
use Rattle.network.specs.declared.weight.Weight.{Weight}
use Rattle.network.specs.declared.rows.Row.{Row}
use Rattle.network.specs.Weight.{zero_weight, Lighter}
use Rattle.network.specs.Order.{Before}
use Rattle.network.specs.Network.{Network, nodes, edges, Sound}
use Rattle.network.specs.Rows.{no_row, row, rows, cost, MeetsLow, Joins, SoundRow, SoundTable}
use Rattle.network.proofs.WeightLaws.{≼-antisym, ≼-lighter, not_lighter-≼, zero-⊕, ≡-≼}
use Rattle.network.proofs.OrderLaws.{before_dec, before_total}
use Rattle.network.proofs.RowLaws.{row_edge}
use Rattle.preparation.specs.Contraction.{CalledFor, Adds, Order, Contracts, done, turn, Prepared}
use Rattle.legs.proofs.TableLaws.{mem_getD, row_append, row_new, rows_append, EachSound, none_sound, sound_by, sound_append, Fine}
use Rattle.legs.proofs.OpeningLaws.{opened_as}
use Rattle.preparation.proofs.Walks.{Walk, map_walk, weaken, join}
use Rattle.preparation.proofs.SimpleWalks.{Lightened, lighten, visits_walk, lightened_bound}
use Rattle.preparation.proofs.RemainingTurns.{Gone, Remaining, order_remaining, turn_not_core, gone_now, gone_still, remaining_next}
use Rattle.preparation.proofs.StandingRows.{Stands, Rides, stands_fine, Edges, start_stands, chain_walk, AtTurn, row_standing, walk_way}
use Rattle.preparation.proofs.OneTurn.{no_link, rides_kept}

-- What holds while the nodes vs are still to come and the table is ss: the shortcuts are sound, and no walk over edges between nodes that are left is
-- lighter than all walks over standing rows.
pub record Stage (N : Network) (vs : List ℕ) (ss : List Row) : Type 0 where
  pub remaining : Remaining N vs
  pub sound : EachSound N ss
  pub keeps : (u w : ℕ) (c : Weight) → (Gone N vs u → ⊥) → (Gone N vs w → ⊥) → Walk (Rides (Edges N)) u w c
      → (Walk (Rides (Stands N ss (Gone N vs))) u w c → ⊥) → ⊥

-- an edge counts one, is short, and leaves a node
edge_one : (N : Network) (u x : ℕ) (a : Weight) → Rides (Edges N) u x a → a.edges ≡ 1
edge_one N u x a (m, n, e) = sym (ap (λ z. z.edges) e.costs) ∙ ap (λ z. z.count) (row_edge N [] e.number (omega (arith, e.there)))

edge_short : {N : Network} → Sound N → (u x : ℕ) (a : Weight) → Rides (Edges N) u x a → a.time ≤ 65535
edge_short {N} s u x a (m, n, e) =
    let l : e.number < edges N = omega (arith, e.there) in
    omega (arith, ap (λ z. z.time) e.costs, ap (λ z. z.length) (row_edge N [] e.number l), (s.edge_fine e.number l).short)

edge_node : {N : Network} → Sound N → (u x : ℕ) (a : Weight) → Rides (Edges N) u x a → u < nodes N
edge_node s u x a (m, n, e) = (stands_fine s none_sound e).tail_node

-- a ride opens to a walk over edges
row_walk : {N : Network} {ss : List Row} → EachSound N ss → (r : ℕ) → r < rows N ss → ((row N ss r).mode ≡ 0 → ⊥)
    → Walk (Rides (Edges N)) (row N ss r).tail (row N ss r).head (cost (row N ss r))
row_walk {N} {ss} t r l n =
    let o = opened_as t r l in
    weaken (chain_walk n o.chain) (≡-≼ (o.weighs zero_weight ∙ zero-⊕ (cost (row N ss r))))

module _ {N : Network} {ss : List Row} (s : Sound N) (v : ℕ) (vs : List ℕ) (T : Stage N (v ∷ vs) ss) where
  -- what stands when v's turn comes is v or later
  later : (y : ℕ) → (Before N.node_ranks y v → ⊥) → (v ≡ y → ⊥) → Before N.node_ranks v y
  later y b n =
      elim (before_dec N.node_ranks v y) [ yes h ↦ h | no h ↦ absurd (b (before_total v y (turn_not_core s v vs T.remaining) n h)) ]

  -- a shortcut that v calls for
  module _ {x : Row} (C : CalledFor N ss v x) where
    first_stands : AtTurn N ss v x.tail v (row N ss x.first).mode (cost (row N ss x.first))
    first_stands = row_standing N ss v x.first C.into.stands C.into.leaves C.into.enters

    second_stands : AtTurn N ss v v x.head (row N ss x.second).mode (cost (row N ss x.second))
    second_stands = row_standing N ss v x.second C.out.stands C.out.leaves C.out.enters

    first_fine : Fine N x.tail v (row N ss x.first).mode (cost (row N ss x.first))
    first_fine = stands_fine s T.sound first_stands

    second_fine : Fine N v x.head (row N ss x.second).mode (cost (row N ss x.second))
    second_fine = stands_fine s T.sound second_stands

    first_rides : (row N ss x.first).mode ≡ 0 → ⊥
    first_rides = no_link s T.sound v vs T.remaining first_stands (inr refl)

    second_rides : (row N ss x.second).mode ≡ 0 → ⊥
    second_rides = no_link s T.sound v vs T.remaining second_stands (inl refl)

    called_walk : Walk (Rides (Edges N)) x.tail x.head (cost x)
    called_walk =
        join
        (subst₂ (λ y z. Walk (Rides (Edges N)) y z (cost (row N ss x.first))) C.into.leaves C.into.enters
        (row_walk T.sound x.first C.into.stands.there first_rides))
        (subst₂ (λ y z. Walk (Rides (Edges N)) y z (cost (row N ss x.second))) C.out.leaves C.out.enters
        (row_walk T.sound x.second C.out.stands.there second_rides))
        (≡-≼ (sym C.sums))

    -- no walk over edges is lighter
    edges_heavier : (d : Weight) → Walk (Rides (Edges N)) x.tail x.head d → Lighter d (cost x) → ⊥
    edges_heavier d p l =
        T.keeps x.tail x.head d first_stands.tail_left second_stands.head_left p
        (λ q. let w = walk_way N ss v q in C.least w.taken w.goes (≼-lighter w.within l))

    pub called_bound : (x.length ≤ 33488385) × (x.count ≤ 511)
    called_bound = bound t.weighs same b.0 b.1
      where
        t : Lightened (Rides (Edges N)) x.tail x.head (cost x)
        t = lighten called_walk

        b : (t.weighs.edges < nodes N) × (t.weighs.time ≤ 65535 * t.weighs.edges)
        b = lightened_bound (nodes N) (edge_one N) (edge_short s) (edge_node s) second_fine.head_node t

        same : t.weighs ≡ cost x
        same = ≼-antisym t.within (not_lighter-≼ (edges_heavier t.weighs (visits_walk t.visits)))

        bound : (d : Weight) → d ≡ cost x → d.edges < nodes N → d.time ≤ 65535 * d.edges → (x.length ≤ 33488385) × (x.count ≤ 511)
        bound d e h k =
            let l : d.time ≡ x.length = ap (λ z. z.time) e in
            let c : d.edges ≡ x.count = ap (λ z. z.edges) e in
            (omega (arith, s.sized.few_nodes), omega (arith, s.sized.few_nodes))

    pub called_joins : Joins N.node_ranks x (row N ss x.first) (row N ss x.second)
    called_joins = record {
      ends_fit = record { starts = C.into.leaves; meets = C.into.enters ∙ sym C.out.leaves; ends = C.out.enters; apart = C.apart };
      meets_low = subst (λ z. MeetsLow N.node_ranks z x) (sym C.into.enters) (record {
        not_core = turn_not_core s v vs T.remaining;
        before_tail = later x.tail first_stands.tail_left (λ e. first_fine.apart (sym e));
        before_head = later x.head second_stands.head_left second_fine.apart;
      });
      one_mode = record {
        first_mode = sym (first_fine.ride first_rides).1 ∙ sym C.mode_kept;
        second_mode = sym (second_fine.ride second_rides).0 ∙ sym C.mode_kept;
      };
      adds_up = record { sums = C.sums; length_bound = called_bound.0; count_bound = called_bound.1 };
    }

  pub stage_turn : {new : List Row} → Adds N ss v new → Stage N vs (ss ++ new)
  stage_turn {new} A = record {
    remaining = remaining_next s v vs T.remaining;
    sound = record { each = λ r h k. go r h k (dec_lt r (rows N ss)) };
    keeps = λ u w c gu gw p none.
        T.keeps u w c (λ b. gu (gone_still s v vs T.remaining u b)) (λ b. gw (gone_still s v vs T.remaining w b)) p
        (λ q. rides_kept s T.sound v vs T.remaining A c u w (off u gu) (off w gw) q none);
  }
    where
      off : (y : ℕ) → (Gone N vs y → ⊥) → y ≡ v → ⊥
      off y g e = g (subst (Gone N vs) (sym e) (gone_now s v vs T.remaining))

      go : (r : ℕ) → edges N ≤ r → r < rows N (ss ++ new) → Dec (r < rows N ss) → SoundRow N (ss ++ new) r
      go r h k (yes l) = sound_append N ss new r l (T.sound.each r h l)
      go r h k (no l) =
          sound_by N (ss ++ new) r x (row N ss x.first) (row N ss x.second) here
          (row_append N ss new x.first C.into.stands.there)
          (row_append N ss new x.second C.out.stands.there)
          (omega (arith, C.into.stands.there)) (omega (arith, C.out.stands.there)) (called_joins C)
        where
          i : ℕ
          i = r - rows N ss

          x : Row
          x = get_or new i no_row

          C : CalledFor N ss v x
          C = A.only x (mem_getD new i no_row (omega (arith, k, l, rows_append N ss new)))

          at : rows N ss + i ≡ r
          at = omega (arith, l)

          here : row N (ss ++ new) r ≡ x
          here = subst (λ z. row N (ss ++ new) z ≡ x) at (row_new N ss new i)

module _ {N : Network} (s : Sound N) where
  pub stage_start : {vs : List ℕ} → Order N vs → Stage N vs []
  stage_start {vs} o = record {
    remaining = order_remaining o;
    sound = none_sound;
    keeps = λ u w c gu gw p none. none (map_walk (λ y z a e. (e.0, e.1, start_stands s o e.2)) p);
  }

  -- after some turns
  pub stage_after : (ws : List ℕ) {vs : List ℕ} {ss ss' : List Row} → Stage N (ws ++ vs) ss → Contracts N ws ss ss' → Stage N vs ss'
  stage_after [] {vs} T (done e) = subst (Stage N vs) e T
  stage_after (w ∷ ws) {vs} T (turn A e c) = stage_after ws (subst (Stage N (ws ++ vs)) (sym e) (stage_turn s w (ws ++ vs) T A)) c

  -- the table of a stage
  pub stage_table : {vs : List ℕ} {ss : List Row} → Stage N vs ss → rows N ss ≤ 4096 → SoundTable N ss
  stage_table T h = record { few = h; each = T.sound.each }

  pub prepared_each : {ss : List Row} → Prepared N ss → EachSound N ss
  prepared_each P =
      (stage_after P.order {vs = []} (subst (λ l. Stage N l []) (sym (append-nil P.order)) (stage_start P.in_order)) P.contracts).sound

  pub prepared_sound : {ss : List Row} → Prepared N ss → rows N ss ≤ 4096 → SoundTable N ss
  prepared_sound P h = record { few = h; each = (prepared_each P).each }
