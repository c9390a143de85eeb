-- What checks of rules that passed say.
use native.Mathlib.Omega.{arith}
use Rattle.network.specs.Network.{Network, Sound}
use Rattle.network.specs.Rows.{Columns, SoundTable, table}
use Rattle.network.specs.Refusal.{Passed, network_order, rows_order}
use Rattle.network.proofs.RowLaws.{table_length}

-- an accepted network is a sound one
pub passed_sound : (N : Network) → Passed (network_order N) → Sound N
passed_sound N p = record {
  sized = p.0;
  node_fine = λ v l. p.1.0 v (omega arith) l;
  edge_fine = λ e l. p.1.1.0 e (omega arith) l;
  transfer_fine = λ v l. p.1.1.1.0 v (omega arith) l;
}

-- accepted rows are a sound table
pub passed_table : (N : Network) (T : Columns) → Passed (rows_order N T) → SoundTable N (table T)
passed_table N T p = record { few = omega (arith, table_length T, p.0.few_rows); each = p.1.0 }
