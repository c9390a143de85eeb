-- `lines::text::legs_length` adds up what the legs take. Assumes nothing.
use mathlib.Core.Path.{◌≡◌}
use Prim.Native.Nat.{◌*◌, ◌≤◌}
use lib.ListN.{length, take}
use Rattle.lines.specs.Text.{spaced}
use Rattle.lines.proofs.text.legs_length.Given as goal

abbrev pub invariant-loop-leg : goal.invariant-loop-leg
invariant-loop-leg l = (l.total ≡ length (spaced (take l.leg-index l.legs))) × (l.total ≤ 21 * l.leg-index)
