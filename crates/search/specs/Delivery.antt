-- What the functions that write a journey promise each other.
use Rattle.std.specs.Prelude.{◌≡◌, Option, None, Some, List, [], ◌∷◌, ◌++◌, ℕ, ◌*◌, ◌<◌, ◌≤◌, length, get_or, drop}
use Rattle.network.specs.declared.answer.Answer.{Answer}
use Rattle.network.specs.declared.weight.Weight.{Weight}
use Rattle.network.specs.declared.rows.Row.{Row}
use Rattle.network.specs.Network.{Network}
use Rattle.network.specs.Answers.{shown}
use Rattle.search.specs.Answers.{told}
use Rattle.search.specs.Graph.{back}
use Rattle.search.specs.Labels.{label, row_before, place_before}

-- the edges of a place's label
abbrev pub edges_to : List ℕ → ℕ → ℕ
edges_to narrow p = get_or narrow (2 * p) 0

-- the rows that lead to the place p, as the 32-bit room tells
abbrev pub rows_to : Network → List Row → List ℕ → ℕ → List ℕ
rows_to N ss narrow p = back (edges_to narrow) (row_before narrow) (place_before N ss narrow) (edges_to narrow p) p []

-- The rows that lead to the place v, and rs behind them, are `all`: each step back leads to fewer edges, until there are none.
pub data Leads (N : Network) (ss : List Row) (narrow : List ℕ) : (v : ℕ) (rs all : List ℕ) → Type 0 where
  begins : {v : ℕ} {rs all : List ℕ} → v < 8192 → edges_to narrow v ≡ 0 → all ≡ rs → Leads N ss narrow v rs all
  steps : {v : ℕ} {rs all : List ℕ} → v < 8192 → edges_to narrow (place_before N ss narrow v) < edges_to narrow v
      → Leads N ss narrow (place_before N ss narrow v) (row_before narrow v ∷ rs) all → Leads N ss narrow v rs all

-- where a search ended: nowhere, or at a place to which rows lead
pub record Reached (N : Network) (ss : List Row) (narrow : List ℕ) (u : ℕ) : Type 0 where
  pub few : edges_to narrow u ≤ 4294967295
  pub leads : Leads N ss narrow u [] (rows_to N ss narrow u)

abbrev pub Reach : Network → List Row → List ℕ → Option ℕ → Type 0
Reach N ss narrow None = Unit {0}
Reach N ss narrow (Some u) = Reached N ss narrow u

-- the answer where a search ended nowhere
pub record NoPlace (journey journey' : List ℕ) (a : Answer) (written : ℕ) : Type 0 where
  pub number : a ≡ shown 7 0
  pub no_rows : written ≡ 0
  pub room_same : journey' ≡ journey

-- the answer from a place labelled w, to which the rows rs lead
pub data FromPlace (w : Weight) (rs journey journey' : List ℕ) (a : Answer) (written : ℕ) : Type 0 where
  too_short : length journey < w.edges → a ≡ told 8 w → written ≡ 0 → journey' ≡ journey → FromPlace w rs journey journey' a written
  delivered : w.edges ≤ length journey → a ≡ told 0 w → written ≡ length rs → journey' ≡ rs ++ drop (length rs) journey
      → FromPlace w rs journey journey' a written

abbrev pub Delivered : Network → List Row → (wide narrow : List ℕ) → Option ℕ → (journey journey' : List ℕ) → Answer → ℕ → Type 0
Delivered N ss wide narrow None = NoPlace
Delivered N ss wide narrow (Some u) = FromPlace (label wide narrow u) (rows_to N ss narrow u)
