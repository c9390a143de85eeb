-- `lines::text::write_journey` writes a journey's line where it fits. Assumes nothing.
use mathlib.Core.Path.{refl}
use Rattle.std.proofs.Common.{rules}
use Rattle.network.proofs.Scanning.{decided_true}
use Rattle.lines.proofs.Storing.{line_written}
use Rattle.lines.proofs.text.write_journey.Goals as goal

pub returns : goal.returns
returns c =
    line_written refl refl (decided_true c.journey_fits.ensures c.if-not-journey_fits.false) c.put_journey.ensures (search rules)
