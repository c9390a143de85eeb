-- `search::witness::attempt` tries a row. Assumes nothing.
use mathlib.Core.Path.{refl}
use Rattle.search.proofs.WitnessLaws.{attempt_ride}
use Rattle.search.proofs.witness.attempt.Goals as goal

pub returns : goal.returns
returns c = attempt_ride _ _ c.row_at-row.ensures c.requires.spacious c.requires.r_bound c.requires.addable refl c.requires.from (λ e. c.if-row-eq0.false e) c.if-not-open.ensures c.if-not-open-2.ensures c.cost.ensures c.plus-new.ensures c.offer.ensures
