-- `lines::text::Pen::put_journey` writes a journey's line part by part. Assumes nothing.
use Rattle.lines.proofs.Lines.{journey_wrote}
use Rattle.lines.proofs.text.Pen.put_journey.Goals as goal

pub returns : goal.returns
returns c = journey_wrote c.args.seconds c.args.count c.args.legs.now c.put_number.ensures c.put_spaced.ensures c.put_legs.ensures c.put.ensures
