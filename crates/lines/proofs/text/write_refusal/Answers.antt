-- `lines::text::write_refusal` writes a refusal's line where it fits. Assumes nothing.
use mathlib.Core.Path.{refl}
use Rattle.std.proofs.Common.{rules}
use native.Mathlib.Omega.{arith}
use Rattle.lines.proofs.Storing.{line_written}
use Rattle.lines.proofs.Lines.{length_refusal}
use Rattle.lines.proofs.text.write_refusal.Goals as goal

pub returns : goal.returns
returns c = line_written refl refl (omega (arith, length_refusal c.args.number c.args.place, c.digit_count.ensures.0, c.digit_count-2.ensures.0)) c.put_refusal.ensures (search rules)
