-- `network::table::first_bad_row` answers the lowest shortcut row that is not sound. Assumes nothing.
use Rattle.std.proofs.Common.{rules}
use Rattle.std.proofs.lemmas.Iterator.{first_from_Range}
use Rattle.network.specs.Lent.{network_of, columns_of}
use Rattle.network.specs.Rows.{table, SoundRow}
use Rattle.network.proofs.RowLaws.{table_length}
use Rattle.network.proofs.Scanning.{found}
use Rattle.network.proofs.table.first_bad_row.Goals as goal

pub returns : goal.returns
returns c =
    rw table_length (found (SoundRow (network_of c.args.network.now) (table (columns_of c.args.shortcuts.now))) _ _ _
    (first_from_Range _ _ _ _ _ _ c.find.ensures.ran (λ r f h. search rules) (λ r f h. search rules)))
