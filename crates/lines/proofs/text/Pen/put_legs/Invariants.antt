-- `lines::text::Pen::put_legs` writes leg by leg. Assumes nothing.
use lib.ListN.{take}
use Rattle.lines.specs.Text.{spaced}
use Rattle.lines.specs.TextSteps.{Wrote}
use Rattle.lines.proofs.text.Pen.put_legs.Given as goal

abbrev pub invariant-loop-leg : goal.invariant-loop-leg
invariant-loop-leg l = Wrote (spaced (take l.leg-index l.legs)) l.initial.self l.self
