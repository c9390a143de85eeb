-- The numbers that the unit shows (01, "Numbers the unit shows"): rules, each with its number and place, and the first that is broken.
use Rattle.std.specs.Prelude.{◌≡◌, ◌⊎◌, List, [], ◌∷◌, ℕ, ◌<◌, ◌≤◌}
use Rattle.network.specs.declared.rows.Row.{Row}
use Rattle.network.specs.Network.{Network, nodes, edges, Sized, NodeFine, EdgeFine, TransferFine}
use Rattle.network.specs.declared.sheet.Sheet.{Sheet}
use Rattle.network.specs.Sheet.{Counted, StateFine, SheetSound}
use Rattle.network.specs.Rows.{Columns, RowsSized, SoundRow, rows, table}

-- A rule with its number: what holds where it is kept, and, where it is broken, of which place.
pub record Rule : Type 1 where
  pub number : ℕ
  pub Kept : Type 0
  pub Broken : ℕ → Type 0

-- "The first that applies is given": the number and place of the first rule that is broken, those before it being kept
abbrev pub Refused : List Rule → ℕ → ℕ → Type 0
Refused [] number place = ⊥
Refused (rule ∷ others) number place = ((number ≡ rule.number) × rule.Broken place) ⊎ (rule.Kept × Refused others number place)

-- all are kept
abbrev pub Passed : List Rule → Type 0
Passed [] = Unit {0}
Passed (rule ∷ others) = rule.Kept × Passed others

-- p is the lowest number from start on and below n of which P does not hold
pub record Lowest (P : ℕ → Type 0) (start n p : ℕ) : Type 0 where
  pub from_start : start ≤ p
  pub below : p < n
  pub broken : P p → ⊥
  pub before_fine : (i : ℕ) → start ≤ i → i < p → P i

-- a rule that asks one thing, place 0 where it is not so
abbrev pub whole_rule : ℕ → Type 0 → Rule
whole_rule number A = record { number = number; Kept = A; Broken = λ p. (p ≡ 0) × (A → ⊥) }

-- a rule that asks P of each number from start on and below n, with the lowest place where it is not so
abbrev pub each_rule : ℕ → (ℕ → Type 0) → (start n : ℕ) → Rule
each_rule number P start n =
    record { number = number; Kept = (i : ℕ) → start ≤ i → i < n → P i; Broken = λ p. Lowest P start n p }

-- "a size is outside the limits .., or columns differ in length"
abbrev pub sizes : Type 0 → Rule
sizes fits = whole_rule 1 fits

-- "node mode 0 or above 7", "lowest node"
abbrev pub node_modes : Network → Rule
node_modes N = each_rule 2 (NodeFine N) 0 (nodes N)

-- "edge breaks a rule above", "lowest edge"
abbrev pub edge_rules : Network → Rule
edge_rules N = each_rule 3 (EdgeFine N) 0 (edges N)

-- "transfer node not core", "lowest node"
abbrev pub transfers : Network → Rule
transfers N = each_rule 4 (TransferFine N) 0 (nodes N)

-- "sheet breaks a rule above", "lowest state; 0 for a wrong state count"
abbrev pub sheet_rules : Sheet → Rule
sheet_rules S = record {
  number = 5;
  Kept = SheetSound S;
  Broken = λ p. ((p ≡ 0) × (Counted S → ⊥)) ⊎ (Counted S × Lowest (StateFine S) 0 S.states p);
}

-- "question names no node", "0 from, else 1 to": a question about n nodes
abbrev pub question : (n from to : ℕ) → Rule
question n from to = record {
  number = 6;
  Kept = (from < n) × (to < n);
  Broken = λ p. ((p ≡ 0) × (n ≤ from)) ⊎ ((p ≡ 1) × (from < n) × (n ≤ to));
}

-- "shortcut row unsound", "lowest row"
abbrev pub shortcut_rows : Network → List Row → Rule
shortcut_rows N ss = each_rule 10 (SoundRow N ss) (edges N) (rows N ss)

-- what each check of this crate goes through, in 01's order
abbrev pub entries_order : Network → List Rule
entries_order N = node_modes N ∷ edge_rules N ∷ transfers N ∷ []

abbrev pub network_order : Network → List Rule
network_order N = sizes (Sized N) ∷ entries_order N

abbrev pub rows_order : Network → Columns → List Rule
rows_order N T = sizes (RowsSized N T) ∷ shortcut_rows N (table T) ∷ []

abbrev pub sheet_order : Sheet → List Rule
sheet_order S = sheet_rules S ∷ []

abbrev pub question_order : (n from to : ℕ) → List Rule
question_order n from to = question n from to ∷ []
