-- `lines::text::journey_fits` tells whether a journey's line fits. Assumes nothing.
use Prim.Native.Nat.{ℕ, ◌<◌}
use native.Mathlib.Omega.{arith}
use lib.ListN.{length, get_or}
use borrow.Author.Tests.{le-leb}
use Rattle.lines.proofs.Lines.{journey_most}
use Rattle.lines.proofs.text.journey_fits.Goals as goal

pub returns-then-legs-room : goal.returns-then-legs-room
returns-then-legs-room c =
    let legs = c.args.legs.now in
    let legs_small : (i : ℕ) → i < length legs → get_or legs i 0 < 65536 = λ i h. omega (arith, c.type_inv.legs i) in
    rw (le-leb _ _ c.if-legs-room.true) (omega (arith, journey_most c.args.seconds c.args.count legs (omega arith) (omega arith) legs_small))
