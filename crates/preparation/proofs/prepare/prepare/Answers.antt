-- `preparation::prepare::prepare` writes the shortcuts called for. Rests on `Preparation`.
use mathlib.Core.Path.{refl, ap, ◌∙◌}
use Rattle.network.specs.Answers.{refused}
use Rattle.preparation.proofs.PrepareRefusals.{read_passed, read_refused}
use Rattle.preparation.proofs.Preparation.{prepare_refused, prepare_exceeds, prepare_made}
use Rattle.preparation.proofs.prepare.prepare.Goals as goal

pub returns-in-Err-clause-prepared : goal.returns-in-Err-clause-prepared
returns-in-Err-clause-prepared c = prepare_refused c.in-Err.refusal (read_refused c.read.ensures c.in-Err.ensures) c.into.ensures

pub returns-in_default-made-clause-prepared : goal.returns-in_default-made-clause-prepared
returns-in_default-made-clause-prepared c = prepare_exceeds (read_passed c.read.ensures c.in_default.ensures) c.most_shortcuts-limit.ensures c.contract_all-made.ensures.same_rooms c.clear.ensures c.in_default-made.ensures.all_turned c.zero_rows.ensures.holds (c.into-in_default-made.ensures ∙ ap refused c.at.ensures)

pub returns-clause-prepared : goal.returns-clause-prepared
returns-clause-prepared c = prepare_made (read_passed c.read.ensures c.in_default.ensures) c.most_shortcuts-limit.ensures c.contract_all-made.ensures.same_rooms c.clear.ensures c.in-Some.ensures.all_turned c.zero_rows-2.ensures.holds refl
