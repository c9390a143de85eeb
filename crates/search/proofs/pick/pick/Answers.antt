-- `search::pick::pick` finds a lightest waiting place. Assumes nothing.
use Rattle.std.proofs.Common.{rules, ◌≡◌, sym, subst}
use Rattle.search.specs.Labels.{label, mark}
use Rattle.search.specs.Steps.{Picked}
use Rattle.search.proofs.Picking.{place_of, look_start, look_more, look_done}
use Rattle.search.proofs.pick.pick.Goals as goal

pub loop-p-init : goal.loop-p-init
loop-p-init c = look_start _ _ _

pub loop-p-preserved : goal.loop-p-preserved
loop-p-preserved c = look_more c.loop-p.invariant c.loop-p-test.true c.look-so_far.ensures

pub returns : goal.returns
returns c =
    let e : c.map.result ≡ place_of c.loop-p.so_far = search rules in
    subst (Picked c.args.places (label c.args.wide.now c.args.narrow.now) (mark c.args.narrow.now)) (sym e)
    (look_done _ _ _ _ c.loop-p.invariant c.loop-p-test.false)
