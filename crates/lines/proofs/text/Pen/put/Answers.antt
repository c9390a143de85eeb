-- `lines::text::Pen::put` copies a text into the line. Assumes nothing.
use mathlib.Core.Path.{refl, ap, ◌∙◌}
use lib.ListN.{length}
use lib.Seq.{length-sets}
use Rattle.lines.proofs.Storing.{put_sets}
use Rattle.lines.proofs.text.Pen.put.Goals as goal

pub returns : goal.returns
returns c =
    let pen = c.args.self.now in
    let stored = put_sets pen.line.now pen.at c.requires c.copy_from_slice.ensures.after in
    record { same_line = refl; as_long = ap length stored ∙ length-sets pen.line.now pen.at c.args.text.now; behind = refl; holds = stored }
