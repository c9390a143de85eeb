-- `preparation::prepare::contract_all` goes through all turns. Rests on `Turning`.
use Rattle.network.specs.Lent.{network_of, room_columns, SameRoom}
use Rattle.preparation.proofs.Turning.{Contracting}
use Rattle.preparation.proofs.prepare.contract_all.Given as goal

abbrev pub invariant-loop-turns : goal.invariant-loop-turns
invariant-loop-turns l =
    (Contracting (network_of l.network) l.limit (room_columns l.initial.shortcuts) (room_columns l.shortcuts) l.initial.wide l.initial.narrow l.wide l.narrow l.made l.last l.turns)
    × SameRoom l.initial.shortcuts l.shortcuts
