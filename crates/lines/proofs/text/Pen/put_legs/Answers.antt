-- `lines::text::Pen::put_legs` writes leg by leg. Assumes nothing.
use Rattle.lines.proofs.Storing.{next_leg, next_fits, wrote_both}
use Rattle.lines.proofs.text.Pen.put_legs.Goals as goal

pub put_spaced-requires : goal.put_spaced-requires
put_spaced-requires c = next_fits _ _ c.loop-leg-test.true c.requires c.loop-leg.invariant

pub loop-leg-preserved : goal.loop-leg-preserved
loop-leg-preserved c = rw (next_leg _ _ c.loop-leg-test.true) (wrote_both c.loop-leg.invariant c.put_spaced.ensures)
