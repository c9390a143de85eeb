-- The cycle of calls {homeward, row_home, some_row_home}: along rows that lead down the key falls.
use Rattle.std.proofs.Common.{arith}
use Rattle.network.proofs.Scanning.{decided_true}
use Rattle.search.specs.Places.{home}
use Rattle.search.proofs.HomewardLaws.{falls_key, read_head_in, other_tail, not_down, down_home, looking_more, looking_done}
use Rattle.search.proofs.homeward.+homeward_row_home_some_row_home.Goals as goal

pub homeward-returns-then-x-question-clause-decides : goal.homeward-returns-then-x-question-clause-decides
homeward-returns-then-x-question-clause-decides t c = home c.if-x-question.true

pub row_home-returns-then-tail_at-x-clause-row_home :
    goal.row_home-returns-then-tail_at-x-clause-row_home
row_home-returns-then-tail_at-x-clause-row_home t c =
    other_tail c.args.question.now.accepted _ c.tail_at.ensures c.if-tail_at-x.true

pub row_home-homeward-requires : goal.row_home-homeward-requires
row_home-homeward-requires t c =
    let i = read_head_in c.args.question.now.accepted _ c.row_at-row.ensures c.requires.lengths_in_bounds.2 in
    let d = falls_key c.args.question.now.plain c.args.question.now.network.node_ranks.now c.row_at-row.result.head c.args.x (omega (arith, c.args.question.now.accepted.sound.sized.few_nodes)) (decided_true c.descends.ensures c.if-descends.true) in
    (omega (arith, c.decreases), ((c.requires.lengths_in_bounds.0, i), c.requires.hinted))

pub row_home-returns-then-descends-clause-row_home :
    goal.row_home-returns-then-descends-clause-row_home
row_home-returns-then-descends-clause-row_home t c =
    down_home c.args.question.now.accepted _ c.row_at-row.ensures c.descends.ensures c.if-descends.true c.requires.lengths_in_bounds.2 c.tail_at.ensures c.if-tail_at-x.false _ c.homeward.ensures.decides

pub row_home-returns-else-descends-clause-row_home : goal.row_home-returns-else-descends-clause-row_home
row_home-returns-else-descends-clause-row_home t c =
    not_down c.args.question.now.accepted _ c.row_at-row.ensures c.descends.ensures c.if-descends.false

pub some_row_home-loop-r-preserved : goal.some_row_home-loop-r-preserved
some_row_home-loop-r-preserved t c =
    looking_more c.loop-r.invariant c.row_home.ensures.row_home c.if-row_home.false c.row_home.ensures.hinted_2 c.row_home.ensures.same_labels

pub some_row_home-returns-clause-decides : goal.some_row_home-returns-clause-decides
some_row_home-returns-clause-decides t c =
    looking_done c.loop-r.invariant c.loop-r-test.false c.requires.lengths_in_bounds.2
