-- `search::witness::witness` makes the witness search. Assumes nothing.
use mathlib.Core.Path.{refl}
use Rattle.search.specs.Witness.{searched}
use Rattle.search.proofs.WitnessGraph.{narrow, found}
use Rattle.search.proofs.witness.witness.Goals as goal

pub returns : goal.returns
returns c =
    let w = c.know_widths.ensures in
    let f = c.if-not-fits.ensures in
    searched f refl (found f (narrow _ w.lengths w.shortcut_lengths w.shortcut_counts) c.spread.ensures c.close.ensures)
