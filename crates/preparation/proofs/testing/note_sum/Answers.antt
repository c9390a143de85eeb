-- `preparation::testing::note_sum` looks at one node. Assumes nothing.
use Rattle.std.proofs.Common.{rules, ap, ◌∙◌, get_or}
use Rattle.preparation.proofs.SiftingLaws.{noted_past}
use Rattle.preparation.proofs.testing.note_sum.Goals as goal

pub returns-in-Some : goal.returns-in-Some
returns-in-Some c =
    noted_past (c.in-Some.ensures.0 ∙ ap (λ i. get_or c.args.narrow.now i 0) c.out_slot.ensures) c.in-Some.ensures.1 c.if-w-u.true c.cost_at.ensures c.plus-sum.ensures c.write_sum.ensures (search rules)
