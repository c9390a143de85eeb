-- What the functions that write the lent rows promise each other. No entry point's promise rests on these words.
use Rattle.std.specs.Prelude.{cond, List, [], ◌∷◌, ◌++◌, ℕ, ◌-◌, eqb, length, get_or, take, replicate}
use Rattle.network.specs.declared.rows.Row.{Row}
use Rattle.network.specs.Rows.{Columns, columns}
use Rattle.preparation.specs.declared.called.CalledFrom.{CalledFrom}
use Rattle.preparation.specs.Preparing.{mark_at, row_told, marked_rows}

-- the shortcut from u to w if it is marked
abbrev pub marked_row : (n mode u w : ℕ) (wide narrow : List ℕ) → List Row
marked_row n mode u w wide narrow = cond (eqb (get_or narrow (mark_at n w) 0) 1) (row_told n mode u w wide narrow ∷ []) []

-- the shortcut to w that is told of
abbrev pub row_called : CalledFrom → ℕ → Row
row_called c w = row_told c.nodes c.mode c.from w c.wide.now c.narrow.now

-- the same, if it is called for
abbrev pub called_to : CalledFrom → ℕ → List Row
called_to c w = marked_row c.nodes c.mode c.from w c.wide.now c.narrow.now

-- all that are called for, to the nodes below k
abbrev pub all_called : CalledFrom → ℕ → List Row
all_called c k = marked_rows c.nodes c.mode c.from c.wide.now c.narrow.now k

-- a column with zeroes behind its first n entries
abbrev pub zeroes_behind : ℕ → List ℕ → List ℕ
zeroes_behind n l = take n l ++ replicate (length l - n) 0

-- the columns with zeroes behind their first n rows
abbrev pub zeroed_behind : ℕ → Columns → Columns
zeroed_behind n T =
    columns (zeroes_behind n T.tails) (zeroes_behind n T.heads) (zeroes_behind n T.modes) (zeroes_behind n T.lengths)
    (zeroes_behind n T.counts) (zeroes_behind n T.firsts) (zeroes_behind n T.seconds)
