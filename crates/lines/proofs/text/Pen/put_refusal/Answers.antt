-- `lines::text::Pen::put_refusal` writes a refusal's line part by part. Assumes nothing.
use Rattle.lines.proofs.Lines.{refusal_wrote}
use Rattle.lines.proofs.text.Pen.put_refusal.Goals as goal

pub returns : goal.returns
returns c = refusal_wrote c.args.number c.args.place c.put.ensures c.put_spaced.ensures c.put_spaced-2.ensures c.put-2.ensures
