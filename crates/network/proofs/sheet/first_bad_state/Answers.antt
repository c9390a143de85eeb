-- `network::sheet::first_bad_state` answers the lowest state that breaks its rule. Assumes nothing.
use Rattle.std.proofs.Common.{rules}
use Rattle.std.proofs.lemmas.Iterator.{first_from_Range}
use Rattle.network.specs.Sheet.{StateFine}
use Rattle.network.proofs.Scanning.{found}
use Rattle.network.proofs.sheet.first_bad_state.Goals as goal

pub returns : goal.returns
returns c = found (StateFine c.args.sheet.now) _ _ _ (first_from_Range _ _ _ _ _ _ c.find.ensures.ran (λ q f h. search rules) (λ q f h. search rules))
