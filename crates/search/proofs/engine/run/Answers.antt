-- `search::engine::run` searches. Assumes nothing.
use Rattle.search.proofs.SearchLoop.{searching_start, turn_light, turn_again, turn_less, turn_over, ran_from}
use Rattle.search.proofs.engine.run.Goals as goal

pub loop-u-init : goal.loop-u-init
loop-u-init c = searching_start c.args.question.now c.begin.ensures

pub returns-then-is_target : goal.returns-then-is_target
returns-then-is_target c =
    ran_from c.args.question.now (turn_over c.loop-u.invariant c.in-Some.ensures c.if-is_target.ensures)
    c.begin.ensures.wide_size c.begin.ensures.narrow_size

pub leave-requires-clause-light : goal.leave-requires-clause-light
leave-requires-clause-light c = turn_light c.loop-u.invariant c.in-Some.ensures

pub loop-u-smaller : goal.loop-u-smaller
loop-u-smaller c = turn_less c.loop-u.invariant c.in-Some.ensures c.leave.ensures

pub loop-u-preserved : goal.loop-u-preserved
loop-u-preserved c = turn_again c.loop-u.invariant c.in-Some.ensures c.leave.ensures (λ h. c.if-is_target.ensures h)
