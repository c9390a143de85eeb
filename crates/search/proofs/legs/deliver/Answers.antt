-- `search::legs::deliver` answers, and writes the journey. Assumes nothing.
use mathlib.Core.Path.{ap, ◌∙◌}
use Rattle.network.specs.Answers.{refused}
use Rattle.search.specs.Questions.{roads, table_of}
use Rattle.search.proofs.LegLaws.{reach_at, deliver_short, deliver_whole, deliver_nowhere, rows_fit}
use Rattle.search.proofs.legs.deliver.Goals as goal

pub returns-in_default : goal.returns-in_default
returns-in_default c =
    deliver_nowhere (roads c.args.question.now) (table_of c.args.question.now) c.args.wide.now c.args.narrow.now c.args.end
    c.args.journey.now c.in_default.not-Some (c.into.ensures ∙ ap refused c.at.ensures)

pub returns-then-journey-w : goal.returns-then-journey-w
returns-then-journey-w c =
    deliver_short (roads c.args.question.now) (table_of c.args.question.now) c.args.narrow.now c.in-Some.is c.args.wide.now
    c.label_at-w.ensures c.args.journey.now c.if-journey-w.true c.tell.ensures

pub write_back-requires-clause-n_value : goal.write_back-requires-clause-n_value
write_back-requires-clause-n_value c =
    let h = reach_at (roads c.args.question.now) (table_of c.args.question.now) c.args.narrow.now c.in-Some.is c.requires in
    (c.rows_back-n.ensures, rows_fit h.leads c.rows_back-n.ensures (ap (λ w. w.edges) c.label_at-w.ensures) c.if-journey-w.false)

pub returns : goal.returns
returns c =
    deliver_whole (roads c.args.question.now) (table_of c.args.question.now) c.args.narrow.now c.in-Some.is c.args.wide.now
    c.label_at-w.ensures c.args.journey.now c.if-journey-w.false c.tell-2.ensures c.rows_back-n.ensures c.write_back.ensures
