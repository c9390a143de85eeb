-- `preparation::prepare::contract_from` adds the shortcuts from one node. Rests on `Turning`.
use Rattle.preparation.proofs.Turning.{tested_from, tested_over}
use Rattle.preparation.proofs.prepare.contract_from.Goals as goal

pub returns-clause-turn_from : goal.returns-clause-turn_from
returns-clause-turn_from c =
    tested_from c.requires.in_turn.sound c.requires.in_turn.sound_table
    (tested_over c.front-stood.ensures c.test_from.ensures) c.at.ensures c.write_from.ensures.appended
