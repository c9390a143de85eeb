-- The cycle of calls {homeward, row_home, some_row_home}: along rows that lead down the key falls.
use Rattle.network.specs.Lent.{columns_of}
use Rattle.std.proofs.Common.{◌+◌, ◌*◌}
use Rattle.search.specs.Questions.{roads, down}
use Rattle.search.proofs.HomewardLaws.{key, Looking}
use Rattle.search.proofs.homeward.+homeward_row_home_some_row_home.Given as goal

abbrev pub decreases-homeward : goal.decreases-homeward
decreases-homeward l = 3 * key l.question.now.network.node_ranks.now l.x + 2

abbrev pub decreases-row_home : goal.decreases-row_home
decreases-row_home l = 3 * key l.question.now.network.node_ranks.now l.x

abbrev pub decreases-some_row_home : goal.decreases-some_row_home
decreases-some_row_home l = 3 * key l.question.now.network.node_ranks.now l.x + 1

abbrev pub invariant-some_row_home-loop-r : goal.invariant-some_row_home-loop-r
invariant-some_row_home-loop-r l =
    Looking (roads l.question) (columns_of l.question.shortcuts) (down l.question) l.question.to l.x l.initial.narrow l.narrow l.r
