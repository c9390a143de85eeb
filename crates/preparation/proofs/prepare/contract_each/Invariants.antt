-- `preparation::prepare::contract_each` goes through the nodes from which a row leads to v. Rests on `Turning`.
use Rattle.network.specs.Lent.{network_of, room_columns, SameRoom}
use Rattle.preparation.proofs.Turning.{Turning}
use Rattle.preparation.proofs.prepare.contract_each.Given as goal

abbrev pub invariant-loop-u : goal.invariant-loop-u
invariant-loop-u l =
    (Turning (network_of l.turn.network) l.turn.node l.turn.stood l.turn.limit (room_columns l.initial.shortcuts) (room_columns l.shortcuts) l.initial.wide l.initial.narrow l.wide l.narrow l.made l.u)
    × SameRoom l.initial.shortcuts l.shortcuts
