-- `preparation::lent::write_from` appends the shortcuts that are called for. Assumes nothing.
use Rattle.network.specs.Lent.{room_columns, SameRoom}
use Rattle.preparation.proofs.LentRows.{Writing}
use Rattle.preparation.proofs.lent.write_from.Given as goal

abbrev pub invariant-loop-w : goal.invariant-loop-w
invariant-loop-w l =
    (Writing l.called.nodes l.called.mode l.called.from l.called.wide.now l.called.narrow.now (room_columns l.initial.shortcuts) l.made l.limit (room_columns l.shortcuts) l.rows l.w)
    × SameRoom l.initial.shortcuts l.shortcuts
