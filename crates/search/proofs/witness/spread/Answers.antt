-- `search::witness::spread` searches. Assumes nothing.
use Rattle.search.proofs.WitnessGraph.{spreading_start, turn_addable, turn_again, turn_less, turn_over}
use Rattle.search.proofs.witness.spread.Goals as goal

pub loop-u-init : goal.loop-u-init
loop-u-init c = spreading_start _ c.requires.witness_fits c.requires.narrow c.begin.ensures

pub returns-then-lighter : goal.returns-then-lighter
returns-then-lighter c =
    turn_over c.requires.witness_fits c.requires.narrow c.loop-u.invariant c.in-Some.ensures c.begin.ensures.rest_same c.label_at-w.ensures
    c.if-lighter.ensures

pub leave-requires-clause-addable : goal.leave-requires-clause-addable
leave-requires-clause-addable c = turn_addable c.requires.witness_fits c.requires.narrow c.loop-u.invariant c.in-Some.ensures

pub loop-u-smaller : goal.loop-u-smaller
loop-u-smaller c = turn_less c.requires.witness_fits c.requires.narrow c.loop-u.invariant c.in-Some.ensures c.leave.ensures

pub loop-u-preserved : goal.loop-u-preserved
loop-u-preserved c =
    turn_again c.requires.witness_fits c.requires.narrow c.loop-u.invariant c.in-Some.ensures c.leave.ensures c.label_at-w.ensures
    (λ h. c.if-lighter.ensures h)
