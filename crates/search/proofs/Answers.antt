-- What a search may say at its end, by the greedy theorem: each lemma takes what holds at the head of the loop.
use mathlib.Core.Path.{◌≡◌, sym, ◌∙◌}
use mathlib.Core.List.{List, []}
use Prim.Native.Nat.{ℕ, ◌<◌, ◌≤◌}
use native.Mathlib.Decide.{map_dec, dec_lt, ℕ_discrete}
use Rattle.network.specs.declared.weight.Weight.{Weight}
use Rattle.network.specs.declared.rows.Row.{Row}
use Rattle.network.specs.Weight.{zero_weight}
use Rattle.network.specs.Network.{Network, nodes, Sound}
use Rattle.network.specs.declared.sheet.Sheet.{Sheet}
use Rattle.network.specs.Sheet.{entry}
use Rattle.network.specs.Rows.{SoundTable}
use Rattle.network.specs.Journey.{weight, Least, None}
use Rattle.search.proofs.Deciding.{◌&◌, bit_known}
use Rattle.search.specs.Graph.{Greedy, Lightest, Nobody, Unmet, back}
use Rattle.search.proofs.Greedy.{greedy_stop, greedy_nowhere, tracing_start, traced}
use Rattle.search.specs.Places.{node_of, state_of, phase_of, StartAt, TargetAt, search_graph}
use Rattle.search.proofs.Places.{after_all_along}
use Rattle.search.proofs.Searches.{Walks, legs, search_laws, search_counts, best_least, nowhere_none}

pub start_known : (S : Sheet) (from p : ℕ) → Dec (StartAt S from p)
start_known S from p = map_dec
    (λ h. record { here = h.0; fresh = h.1.0; known = h.1.1.0; initial = h.1.1.1 })
    (λ s. (s.here, (s.fresh, (s.known, s.initial))))
    (ℕ_discrete (node_of p) from & ℕ_discrete (phase_of p) 0 & dec_lt (state_of p) S.states & bit_known (entry S (state_of p)).ends 0)

pub target_known : (S : Sheet) (to p : ℕ) → Dec (TargetAt S to p)
target_known S to p = map_dec
    (λ h. record { here = h.0; known = h.1.0; final = h.1.1 })
    (λ t. (t.here, (t.known, t.final)))
    (ℕ_discrete (node_of p) to & dec_lt (state_of p) S.states & bit_known (entry S (state_of p)).ends 1)

-- a search of those of P
module _ {N : Network} {ss : List Row} {S : Sheet} {Down : ℕ → ℕ → Type 0} {from to : ℕ} {P : List ℕ → Type 0} (sound : Sound N)
    (table : SoundTable N ss) (inside : from < nodes N) (walks : Walks N ss S Down from to P) {d : ℕ → Weight} {s pr pp : ℕ → ℕ} {k : ℕ}
    (g : Greedy (search_graph N ss S Down from to) d s pr pp k) where
  pub search_found : {u : ℕ} → Lightest (search_graph N ss S Down from to) d s u → Unmet (search_graph N ss S Down from to) s → TargetAt S to u
      → Least N ss P (d u)
  search_found pick unmet t = best_least walks (greedy_stop (search_laws sound table inside) g pick unmet t)

  pub search_none : Nobody (search_graph N ss S Down from to) d s → Unmet (search_graph N ss S Down from to) s → None P
  search_none over unmet = nowhere_none walks (greedy_nowhere (search_laws sound table inside) g over unmet)

  -- the rows by the parents are one of them, of the weight of the label
  pub search_traced : {u : ℕ} → Lightest (search_graph N ss S Down from to) d s u → TargetAt S to u → (n : ℕ) → legs (d u) ≤ n
      → P (back (λ x. legs (d x)) pr pp n u []) × (weight N ss (back (λ x. legs (d x)) pr pp n u []) ≡ d u)
  search_traced {u} pick t n l =
      let laws = search_laws sound table inside in
      let rs = back (λ x. legs (d x)) pr pp n u [] in
      let o = traced laws g (search_counts sound table) n (tracing_start laws g u pick.inside pick.some) l in (
        walks.from_walk rs (record { p = o.from; q = u; starts = o.starts; targets = t; trail = o.trail }),
        sym (after_all_along N ss S Down from to zero_weight rs) ∙ o.weighs,
      )
