-- `search::legs::rows_back` counts the rows that lead to a place. Assumes nothing.
use Rattle.search.proofs.LegLaws.{steps_more, steps_fall, steps_done}
use Rattle.search.proofs.legs.rows_back.Goals as goal

pub loop-v-smaller : goal.loop-v-smaller
loop-v-smaller c = steps_fall c.args.wide.now c.loop-v.invariant c.label_at.ensures c.loop-v-test.true c.place_before-v.ensures

pub loop-v-preserved : goal.loop-v-preserved
loop-v-preserved c = steps_more c.args.wide.now c.loop-v.invariant c.label_at.ensures c.loop-v-test.true c.place_before-v.ensures

pub returns : goal.returns
returns c = steps_done c.args.wide.now c.loop-v.invariant c.label_at.ensures c.loop-v-test.false
