-- `search::leave::attempt` tries a row. Assumes nothing.
use mathlib.Core.Path.{refl}
use native.Mathlib.Omega.{arith}
use Rattle.network.proofs.Scanning.{decided_true, decided_false}
use Rattle.search.proofs.Attempting.{attempt_elsewhere, attempt_lost, attempt_stuck, attempt_down, attempt_level, head_in, mode_known, small_row}
use Rattle.search.proofs.leave.attempt.Goals as goal

pub returns-then-tail_at-p : goal.returns-then-tail_at-p
returns-then-tail_at-p c = attempt_elsewhere c.args.question.now c.args.p c.args.w c.args.r c.args.wide.now c.requires.r_bound.0 c.requires.r_bound.1 refl c.tail_at.ensures (λ e. c.if-tail_at-p.true e) c.requires.hinted

pub homeward-requires-clause-lengths_in_bounds : goal.homeward-requires-clause-lengths_in_bounds
homeward-requires-clause-lengths_in_bounds c = (c.requires.roomy.narrow_enough, head_in c.args.question.now c.requires.r_bound.0 c.row_at-row.ensures)

pub returns-then-homeward : goal.returns-then-homeward
returns-then-homeward c = attempt_down c.args.question.now c.args.p c.args.w c.args.r c.args.wide.now c.requires.r_bound.0 c.requires.r_bound.1 c.row_at-row.ensures c.tail_at.ensures c.if-tail_at-p.false c.requires.light c.cost.ensures c.plus-new.ensures c.if-descends.ensures (decided_true c.homeward.ensures.decides c.if-homeward.true) c.homeward.ensures.same_labels c.homeward.ensures.hinted_2 c.arrive.ensures

pub returns-else-homeward : goal.returns-else-homeward
returns-else-homeward c = attempt_lost c.args.question.now c.args.p c.args.w c.args.r c.args.wide.now c.requires.r_bound.0 c.requires.r_bound.1 c.row_at-row.ensures c.tail_at.ensures c.if-tail_at-p.false c.if-descends.ensures (decided_false c.homeward.ensures.decides c.if-homeward.false) c.homeward.ensures.same_labels c.homeward.ensures.hinted_2

pub returns-then-p-eq0 : goal.returns-then-p-eq0
returns-then-p-eq0 c = attempt_level c.args.question.now c.args.p c.args.w c.args.r c.args.wide.now c.requires.r_bound.0 c.requires.r_bound.1 c.row_at-row.ensures c.tail_at.ensures c.if-tail_at-p.false c.requires.light c.cost.ensures c.plus-new.ensures (λ h. c.if-descends.ensures h) c.if-p-eq0.true c.requires.hinted c.arrive-then-p-eq0.ensures

pub returns-else-p-eq0 : goal.returns-else-p-eq0
returns-else-p-eq0 c = attempt_stuck c.args.question.now c.args.p c.args.w c.args.r c.args.wide.now c.requires.r_bound.0 c.requires.r_bound.1 c.row_at-row.ensures c.tail_at.ensures c.if-tail_at-p.false (λ h. c.if-descends.ensures h) c.if-p-eq0.false c.requires.hinted

pub arrive-requires-clause-states_bound : goal.arrive-requires-clause-states_bound
arrive-requires-clause-states_bound c = omega (arith, c.args.question.now.sheet_sound.counted.few_states, mode_known c.args.question.now c.requires.r_bound.0 c.row_at-row.ensures)

pub arrive-requires-clause-base_bound : goal.arrive-requires-clause-base_bound
arrive-requires-clause-base_bound c = omega (arith, head_in c.args.question.now c.requires.r_bound.0 c.row_at-row.ensures, c.args.question.now.accepted.sound.sized.few_nodes, c.requires.roomy.wide_enough, c.requires.roomy.narrow_enough, c.homeward.ensures.same_labels.size)

pub arrive-requires-then-p-eq0-clause-states_bound : goal.arrive-requires-then-p-eq0-clause-states_bound
arrive-requires-then-p-eq0-clause-states_bound c = omega (arith, c.args.question.now.sheet_sound.counted.few_states, mode_known c.args.question.now c.requires.r_bound.0 c.row_at-row.ensures)

pub arrive-requires-then-p-eq0-clause-base_bound : goal.arrive-requires-then-p-eq0-clause-base_bound
arrive-requires-then-p-eq0-clause-base_bound c = omega (arith, head_in c.args.question.now c.requires.r_bound.0 c.row_at-row.ensures, c.args.question.now.accepted.sound.sized.few_nodes, c.requires.roomy.wide_enough, c.requires.roomy.narrow_enough)

pub invariant_of-step-clause-row_fits : goal.invariant_of-step-clause-row_fits
invariant_of-step-clause-row_fits c = small_row c.args.question.now c.requires.r_bound.0

pub invariant_of-step-then-p-eq0-clause-row_fits : goal.invariant_of-step-then-p-eq0-clause-row_fits
invariant_of-step-then-p-eq0-clause-row_fits c = small_row c.args.question.now c.requires.r_bound.0
