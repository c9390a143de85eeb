-- `card::stream::take_held` takes a record when it is whole. Assumes nothing.
use mathlib.Core.Path.{refl}
use native.Mathlib.Omega.{arith}
use Rattle.card.specs.Reading.{waits, takes}
use Rattle.card.proofs.stream.take_held.Goals as goal

pub returns-in-Ok-clause-held : goal.returns-in-Ok-clause-held
returns-in-Ok-clause-held c = waits c.in-Ok.kind c.in-Ok.ensures (omega arith) refl refl

pub returns-in-Ok-2-clause-held : goal.returns-in-Ok-2-clause-held
returns-in-Ok-2-clause-held c = takes c.in-Ok.kind c.in-Ok.ensures (omega arith) c.take_record.ensures.taken
