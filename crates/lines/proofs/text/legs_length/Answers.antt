-- `lines::text::legs_length` adds up what the legs take. Assumes nothing.
use mathlib.Core.Path.{ap, ◌∙◌}
use lib.ListN.{length, length-append, take}
use Rattle.lines.specs.Text.{spaced}
use native.Mathlib.Omega.{arith}
use Rattle.lines.proofs.Storing.{next_leg}
use Rattle.lines.proofs.text.legs_length.Goals as goal

pub loop-leg-preserved : goal.loop-leg-preserved
loop-leg-preserved c =
    let told = ap length (next_leg c.args.legs.now c.loop-leg.leg-index c.loop-leg-test.true) ∙ length-append (spaced (take c.loop-leg.leg-index c.args.legs.now)) _ in
    (omega (arith, told, c.loop-leg.invariant.0, c.digit_count.ensures.0), omega (arith, c.digit_count.ensures.1, c.loop-leg.invariant.1))
