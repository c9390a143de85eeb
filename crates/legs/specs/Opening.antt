-- What a row opens to (01, "Contraction"): "Opening a row writes its edge numbers in order: an opened shortcut opens its two children".
use Rattle.std.specs.Prelude.{cond, List, [], ◌∷◌, ◌++◌, ℕ, zero, suc, ltb}
use Rattle.network.specs.declared.rows.Row.{Row}
use Rattle.network.specs.Network.{Network, edges}
use Rattle.network.specs.Rows.{row}

-- by a number above the row: a sound row's children are lower
unfoldable pub opened_by : ℕ → Network → List Row → ℕ → List ℕ
opened_by zero N ss r = []
opened_by (suc n) N ss r =
    cond (ltb r (edges N)) (r ∷ []) (opened_by n N ss (row N ss r).first ++ opened_by n N ss (row N ss r).second)

unfoldable pub opened : Network → List Row → ℕ → List ℕ
opened N ss r = opened_by (suc r) N ss r

-- the edges of rows, one row after the other
abbrev pub opened_all : Network → List Row → List ℕ → List ℕ
opened_all N ss [] = []
opened_all N ss (r ∷ rs) = opened N ss r ++ opened_all N ss rs
