-- `preparation::testing::test_from` tests the shortcuts from a node. Assumes nothing.
use Rattle.preparation.proofs.SiftingLaws.{search_rows, tested}
use Rattle.preparation.proofs.testing.test_from.Goals as goal

pub weigh-requires-clause-few_rows : goal.weigh-requires-clause-few_rows
weigh-requires-clause-few_rows c = search_rows c.requires.in_turn

pub weigh-requires-2-clause-few_rows : goal.weigh-requires-2-clause-few_rows
weigh-requires-2-clause-few_rows c = search_rows c.requires.in_turn

pub returns : goal.returns
returns c = tested _ _ c.requires.in_turn c.requires.neighbours c.requires.u_bound.0 (λ e. c.requires.u_bound.1 e) c.note_sums-bound.ensures c.weigh.ensures c.bound_marks-left.ensures c.weigh-2.ensures
