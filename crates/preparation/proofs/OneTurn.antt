-- One node's turn: the rows that do not touch it stand on, the shortcuts it calls for stand behind them, and so the rides between other nodes keep
-- their weights.
use mathlib.Core.Path.{◌≡◌, refl, sym, ◌∙◌, ap, subst}
use mathlib.Core.Logic.{◌⊎◌, inl, inr}
use mathlib.Core.List.{List, ◌∷◌, ◌++◌}
use Prim.Native.Nat.{ℕ, zero, suc, ◌+◌, ◌<◌, ◌≤◌}
use native.Mathlib.Omega.{arith}
use native.Mathlib.Decide.{dec_le}
use Rattle.network.specs.declared.weight.Weight.{Weight}
use Rattle.network.specs.declared.rows.Row.{Row}
use Rattle.network.specs.Weight.{◌⊕◌, Lighter}
use Rattle.network.specs.Order.{Core}
use Rattle.network.specs.Network.{Network, node_mode, Sound}
use Rattle.network.specs.Rows.{no_row, row, rows, cost}
use Rattle.network.specs.Journey.{weight}
use Rattle.network.proofs.WeightLaws.{≼_refl, not-≼-lighter, lighter_mono_l, lighter_mono_r}
use Rattle.preparation.specs.Contraction.{Standing, LeastRow, CalledFor, Adds}
use Rattle.legs.proofs.TableLaws.{mem_place, row_new, rows_append, EachSound, Fine}
use Rattle.preparation.proofs.RemainingTurns.{Gone, Remaining, turn_node, turn_not_core, left_still}
use Rattle.preparation.proofs.Walks.{Walk, step, single}
use Rattle.preparation.proofs.PastNode.{Past, kept}
use Rattle.preparation.proofs.StandingRows.{Stands, Rides, stands_fine, stands_more, AtTurn, row_standing, standing_row, way_walk, way_avoid}

-- where there is a number of a kind, there is not no lowest one
not_below : (P : ℕ → Type 0) → ((r : ℕ) → P r → ((s : ℕ) → P s → r ≤ s) → ⊥) → (n r : ℕ) → r < n → P r → ⊥
not_below P f zero r h p = omega arith
not_below P f (suc n) r h p =
    f r p (λ s q. elim (dec_le r s) [ yes k ↦ k | no k ↦ absurd (not_below P f n s (omega arith) q) ])

lowest_number : (P : ℕ → Type 0) → ((r : ℕ) → P r → ((s : ℕ) → P s → r ≤ s) → ⊥) → (r : ℕ) → P r → ⊥
lowest_number P f r p = not_below P f (suc r) r (omega arith) p

-- the one shortcut from u past v to w that the rows f and g can make
abbrev pub made_of : (N : Network) (ss : List Row) (v u w f g : ℕ) → Row
made_of N ss v u w f g = record {
  tail = u;
  head = w;
  mode = node_mode N v;
  length = (row N ss f).length + (row N ss g).length;
  count = (row N ss f).count + (row N ss g).count;
  first = f;
  second = g;
}

pub made_cost : (N : Network) (ss : List Row) (v u w f g : ℕ) → cost (made_of N ss v u w f g) ≡ cost (row N ss f) ⊕ cost (row N ss g)
unfolding ◌⊕◌
made_cost N ss v u w f g = refl

module _ {N : Network} {ss : List Row} (s : Sound N) (t : EachSound N ss) (v : ℕ) (vs : List ℕ) (r : Remaining N (v ∷ vs)) where
  -- the rows that stand before the turn
  abbrev Then : ℕ → ℕ → ℕ → Weight → Type 0
  Then = AtTurn N ss v

  fine : {u x m : ℕ} {a : Weight} → Then u x m a → Fine N u x m a
  fine e = stands_fine s t e

  -- no link leads to v or from it
  pub no_link : {u x m : ℕ} {a : Weight} → Then u x m a → (u ≡ v) ⊎ (x ≡ v) → m ≡ 0 → ⊥
  no_link e (inl f) z = turn_not_core s v vs r (subst (Core N.node_ranks) f ((fine e).link z).0)
  no_link e (inr f) z = turn_not_core s v vs r (subst (Core N.node_ranks) f ((fine e).link z).1)

  tail_stays : {u x m : ℕ} {a : Weight} → Then u x m a → (u ≡ v → ⊥) → Gone N vs u → ⊥
  tail_stays {u} e n = left_still s v vs r u (fine e).tail_node e.tail_left n

  head_stays : {u x m : ℕ} {a : Weight} → Then u x m a → (x ≡ v → ⊥) → Gone N vs x → ⊥
  head_stays {x = x} e n = left_still s v vs r x (fine e).head_node e.head_left n

  -- the lowest of the least rows from a to b
  least_row : {a b m : ℕ} {c : Weight} → ((q : ℕ) (d : Weight) → Then a b q d → Lighter d c → ⊥) → Then a b m c
      → ((f : ℕ) → LeastRow N ss v a b f → cost (row N ss f) ≡ c → ⊥) → ⊥
  least_row {a} {b} {m} {c} light e none =
      lowest_number (λ f. Standing N ss v f × ((row N ss f).tail ≡ a) × ((row N ss f).head ≡ b) × (cost (row N ss f) ≡ c))
      (λ f p low.
      none f
      (record {
        stands = p.0;
        leaves = p.1;
        enters = p.2;
        lightest = λ q g o h l. light (row N ss q).mode (cost (row N ss q)) (row_standing N ss v q g o h)
            (subst (Lighter (cost (row N ss q))) p.3 l);
        lowest = λ q g o h k. low q (g, o, h, k ∙ p.3);
      })
      p.3)
      e.number
      (standing_row N ss v e, e.leaves, e.enters, e.costs)

  module _ {new : List Row} (A : Adds N ss v new) where
    -- the rows that stand after it
    abbrev Now : ℕ → ℕ → ℕ → Weight → Type 0
    Now = Stands N (ss ++ new) (Gone N vs)

    pub keep : (u x m : ℕ) (a : Weight) → Then u x m a → (u ≡ v → ⊥) → (x ≡ v → ⊥) → Now u x m a
    keep u x m a e n k = stands_more new (Gone N vs) e (tail_stays e n) (head_stays e k)

    -- a shortcut that v calls for stands among the new ones
    called_stands : {x : Row} → CalledFor N ss v x → (Gone N vs x.tail → ⊥) → (Gone N vs x.head → ⊥)
        → Now x.tail x.head x.mode (cost x)
    called_stands {x} C g h =
        let p = mem_place no_row (A.all x C) in
        let o : row N (ss ++ new) (rows N ss + p.place) ≡ x = row_new N ss new p.place ∙ p.holds in
        record {
          number = rows N ss + p.place;
          there = omega (arith, rows_append N ss new, p.inside);
          leaves = ap (λ y. y.tail) o;
          enters = ap (λ y. y.head) o;
          has_mode = ap (λ y. y.mode) o;
          costs = ap cost o;
          tail_left = g;
          head_left = h;
        }

    add : (u w : ℕ) (c : Weight) → Past (Rides Then) v u w c → (Now u w (node_mode N v) c → ⊥) → ⊥
    add u w c P none =
        least_row light_in P.into_edge.2 (λ f F fc. least_row light_out P.out_edge.2 (λ g G gc. none (made f F fc g G gc)))
      where
        light_in : (q : ℕ) (d : Weight) → Then u v q d → Lighter d P.into → ⊥
        light_in q d e l =
            P.least (d ⊕ P.out) (step (q, no_link e (inr refl), e) (single P.out_edge) ≼_refl)
            (subst (Lighter (d ⊕ P.out)) (sym P.sum) (lighter_mono_r P.out d P.into l))

        light_out : (q : ℕ) (d : Weight) → Then v w q d → Lighter d P.out → ⊥
        light_out q d e l =
            P.least (P.into ⊕ d) (step P.into_edge (single (q, no_link e (inl refl), e)) ≼_refl)
            (subst (Lighter (P.into ⊕ d)) (sym P.sum) (lighter_mono_l P.into d P.out l))

        made : (f : ℕ) → LeastRow N ss v u v f → cost (row N ss f) ≡ P.into → (g : ℕ) → LeastRow N ss v v w g → cost (row N ss g) ≡ P.out
            → Now u w (node_mode N v) c
        made f F fc g G gc =
            subst (Now u w (node_mode N v)) costs
            (called_stands {x = x} C (tail_stays P.into_edge.2 (fine P.into_edge.2).apart)
            (head_stays P.out_edge.2 (λ e. (fine P.out_edge.2).apart (sym e))))
          where
            x : Row
            x = made_of N ss v u w f g

            costs : cost x ≡ c
            costs = made_cost N ss v u w f g ∙ (λ i. fc i ⊕ gc i) ∙ sym P.sum

            C : CalledFor N ss v x
            C = record {
              apart = P.apart;
              into = F;
              out = G;
              mode_kept = refl;
              sums = made_cost N ss v u w f g;
              least = λ rs p l. P.least (weight N ss rs) (way_walk N ss v p) (subst (Lighter (weight N ss rs)) costs l);
              alone = λ rs p a. subst (λ z. Lighter z (weight N ss rs)) (sym costs)
                  (not-≼-lighter (P.alone (weight N ss rs) (way_avoid N ss v p a)));
            }

    pub rides_kept : (c : Weight) (u w : ℕ) → (u ≡ v → ⊥) → (w ≡ v → ⊥) → Walk (Rides Then) u w c → (Walk (Rides Now) u w c → ⊥) → ⊥
    rides_kept =
        kept (Rides Then) (Rides Now) v
        (λ u x a e. (fine e.2).lasts)
        (λ u x a e. (fine e.2).apart)
        (λ u x a e. (e.0.0, e.0.1, keep u x e.0.0 a e.0.2 e.1 e.2))
        (λ u w c P none. add u w c P (λ e. none (node_mode N v, λ z. omega (arith, (s.node_fine v (turn_node s v vs r)).some_mode), e)))
