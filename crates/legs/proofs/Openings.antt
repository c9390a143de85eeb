-- When a row may be opened, told by what the code tests; what the opened room holds, and its front.
use mathlib.Core.Path.{◌≡◌, sym, ap, ◌∙◌}
use mathlib.Core.List.{List}
use Prim.Native.Nat.{ℕ, ◌+◌, ◌<◌, ◌≤◌}
use native.Mathlib.Omega.{arith}
use lib.ListN.{length, take}
use lib.Seq.{length-take-le}
use borrow.Author.Tests.{le-ltb}
use Rattle.network.specs.declared.rows.Row.{Row}
use Rattle.network.specs.Network.{Network, edges}
use Rattle.network.specs.Rows.{Columns, Even, row, rows, table, SoundTable}
use Rattle.network.specs.Refusal.{Passed, network_order, rows_order}
use Rattle.std.proofs.Common.{Bool, true, false, leb, ltb, refl}
use Rattle.std.proofs.lemmas.Bool.{leb-true, leb-false}
use Rattle.network.specs.Answers.{row_read, Decides}
use Rattle.network.proofs.RowLaws.{table_length, read_row}
use Rattle.network.proofs.Checking.{passed_table}
use Rattle.legs.specs.Opening.{opened}
use Rattle.legs.specs.Opened.{Openable, OpenedInto, opens, refuses}
use Rattle.legs.specs.Steps.{legs, RowFits, Written}
use Rattle.legs.proofs.OpeningLaws.{opened_length}
use Rattle.legs.proofs.Legs.{opened_legs, table_falling}

-- the row x is read from a table's columns
count_read : {T : Columns} → Even T → (N : Network) (r : ℕ) {x : Row} → x ≡ row_read N T r → x.count ≡ (row N (table T) r).count
count_read v N r e = ap (λ x. x.count) (e ∙ read_row v N r)

-- a row behind the last is not to be opened
pub row_absent : (N : Network) (T : Columns) (r room : ℕ) → edges N + length T.tails ≤ r → Decides (ltb r (edges N + length T.tails)) (Openable N T r room)
row_absent N T r room l =
    let e : ltb r (edges N + length T.tails) ≡ false = le-ltb r (edges N + length T.tails) l in
    rw e (λ o. omega (arith, o.row_there, table_length T))

module _ {N : Network} {T : Columns} {r : ℕ} (room : ℕ) where
  -- whether the room is enough decides, where all else is so
  pub openable_by_room : {x : Row} → Passed (network_order N) → Passed (rows_order N T) → r < edges N + length T.tails → x ≡ row_read N T r
      → Decides (leb x.count room) (Openable N T r room)
  openable_by_room {x} n t l e = go (leb x.count room) refl
    where
      go : (b : Bool) → leb x.count room ≡ b → Decides b (Openable N T r room)
      go true k = record {
        network_accepted = n;
        table_accepted = t;
        row_there = omega (arith, table_length T);
        room_enough = omega (arith, leb-true x.count room k, count_read t.0.even N r e);
      }
      go false k = λ o. omega (arith, leb-false x.count room k, count_read o.table_accepted.0.even N r e, o.room_enough)

-- a row of a sound table: that it may be opened by its columns, and what is written then
module _ {T : Columns} (v : Even T) (N : Network) (r : ℕ) where
  pub row_fits : {room : ℕ} → SoundTable N (table T) → r < rows N (table T) → (row N (table T) r).count ≤ room
      → RowFits (edges N) T.firsts T.seconds r room
  row_fits t l k = record {
    falling = table_falling v N t;
    there = omega (arith, table_length T, v.firsts_even);
    room_enough = omega (arith, opened_length t r l, ap length (opened_legs v N r));
  }

  pub opened_written : {n : ℕ} {room room' : List ℕ} → Written (legs (edges N) T.firsts T.seconds r) room n room'
      → Written (opened N (table T) r) room n room'
  opened_written w = rw (opened_legs v N r) w

-- the same of a row that may be opened
module _ {N : Network} {T : Columns} {r : ℕ} where
  openable_length : {room : ℕ} → Openable N T r room → length (opened N (table T) r) ≡ (row N (table T) r).count
  openable_length o = opened_length (passed_table N T o.table_accepted) r o.row_there

  pub openable_fits : {room : ℕ} → Openable N T r room → RowFits (edges N) T.firsts T.seconds r room
  openable_fits o = row_fits o.table_accepted.0.even N r (passed_table N T o.table_accepted) o.row_there o.room_enough

  pub opened_into : {n : ℕ} {room room' : List ℕ} → Openable N T r (length room) → Written (legs (edges N) T.firsts T.seconds r) room n room'
      → OpenedInto N T r room n room'
  opened_into o w =
      let z = opened_written o.table_accepted.0.even N r w in
      opens o (z.counted ∙ openable_length o) z.holds

-- the front that was written
pub front_length : {N : Network} {T : Columns} {r n : ℕ} {room room' : List ℕ} → OpenedInto N T r room n room' → length room' ≡ length room
    → n ≡ length (take n room')
front_length {n = n} {room' = room'} (opens o c h) k = sym (length-take-le n room' (omega (arith, c, o.room_enough)))
front_length {n = n} {room' = room'} (refuses o c h) k = sym (length-take-le n room' (omega arith))
