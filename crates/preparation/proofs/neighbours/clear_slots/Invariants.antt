-- `preparation::neighbours::clear_slots` notes that there is no row. Assumes nothing.
use Rattle.std.proofs.Common.{◌*◌}
use Rattle.preparation.specs.Noting.{ClearedTo}
use Rattle.preparation.proofs.neighbours.clear_slots.Given as goal

abbrev pub invariant-loop-i : goal.invariant-loop-i
invariant-loop-i l = ClearedTo (2 * l.nodes) l.i l.initial.narrow l.narrow
