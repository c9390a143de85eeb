-- `exports::journeys_check` shows what the check found. Assumes nothing.
use mathlib.Core.Path.{sym, subst}
use Rattle.network.specs.Answers.{Checked}
use Rattle.network.specs.Network.{network}
use Rattle.network.specs.Refusal.{network_order}
use Rattle.network.proofs.Unique.{ruled_checked}
use Rattle.exports.proofs.journeys_check.Goals as goal

pub returns : goal.returns
returns c = subst (Checked _) (sym c.into.ensures) (ruled_checked c.check_network.result c.check_network.ensures)
