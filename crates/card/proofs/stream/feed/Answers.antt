-- `card::stream::feed` takes one byte. Assumes nothing.
use mathlib.Core.Path.{◌≡◌}
use Rattle.records.specs.declared.reader.Stage.TheVariants.{Over}
use Rattle.card.specs.Reading.{held}
use Rattle.card.proofs.stream.feed.Goals as goal

pub returns-clause-fed : goal.returns-clause-fed
returns-clause-fed c =
    held (λ (e : c.args.reader.stage ≡ Over). let h = rw e at c.if-eq.ensures in cc) c.if-misplaced.ensures (rw c.hold.ensures at c.take_held.ensures.held)
