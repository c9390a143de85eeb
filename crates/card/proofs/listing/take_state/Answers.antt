-- `card::listing::take_state` refuses a sheet that breaks a rule. Assumes nothing.
use Rattle.card.proofs.ReadingSteps.{state_refused}
use Rattle.card.proofs.listing.take_state.Goals as goal

pub returns-in-Err : goal.returns-in-Err
returns-in-Err c = state_refused c.list_state-next.ensures c.if-next.false c.in-Err.ensures c.refuse.ensures
