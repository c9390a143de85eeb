-- The numbers a search may show before it searches, in 01's order: "1, 11, 2, 3, 4, 10, 5, 6".
use Rattle.std.specs.Prelude.{List, [], ◌∷◌, ◌++◌, ℕ, ◌*◌, ◌≤◌}
use Rattle.network.specs.Network.{Network, nodes, Sized}
use Rattle.network.specs.declared.sheet.Sheet.{Sheet}
use Rattle.network.specs.Rows.{Columns, RowsSized, table}
use Rattle.network.specs.Refusal.{Rule, whole_rule, sizes, entries_order, shortcut_rows, sheet_rules, question}

-- "64-bit work room below 16 numbers per node, or 32-bit below 32": rooms of so many numbers are large enough
pub record Roomy (N : Network) (wide narrow : ℕ) : Type 0 where
  pub wide_enough : 16 * nodes N ≤ wide
  pub narrow_enough : 32 * nodes N ≤ narrow

abbrev pub work_rooms : Network → (wide narrow : ℕ) → Rule
work_rooms N wide narrow = whole_rule 11 (Roomy N wide narrow)

-- what is asked of a network and of the work rooms: 1, 11, 2, 3, 4
abbrev pub room_order : Network → (wide narrow : ℕ) → List Rule
room_order N wide narrow = sizes (Sized N) ∷ work_rooms N wide narrow ∷ entries_order N

-- the plain search: 1, 11, 2, 3, 4, 5, 6
abbrev pub plain_order : Network → Sheet → (from to wide narrow : ℕ) → List Rule
plain_order N S from to wide narrow = room_order N wide narrow ++ (sheet_rules S ∷ question (nodes N) from to ∷ [])

-- the search over rows: 1, 11, 2, 3, 4, 10, 5, 6
abbrev pub rows_order : Network → Columns → Sheet → (from to wide narrow : ℕ) → List Rule
rows_order N T S from to wide narrow =
    sizes (Sized N × RowsSized N T) ∷ work_rooms N wide narrow
    ∷ (entries_order N ++ (shortcut_rows N (table T) ∷ sheet_rules S ∷ question (nodes N) from to ∷ []))
