use Rattle.rounds.proofs.Turns.{loop_start, going_few, loop_turn}
use Rattle.table_rounds.proofs.Sweeping.{iterate-none, iterate-more}
use mathlib.Core.Path.{refl, ◌∙◌}
use native.Mathlib.Omega.{arith}
use Rattle.table_rounds.proofs.by_rule.settle.Goals as goal

pub loop-changed-init : goal.loop-changed-init
loop-changed-init g c = (refl, iterate-none _ _, loop_start c.requires.ends)

pub one_round-changed-requires : goal.one_round-changed-requires
one_round-changed-requires g c = record { table_len = omega arith; fits = λ v h. rw c.loop-changed.invariant.1 (c.requires.fits c.loop-changed.count v h) }

pub overflow_add-count : goal.overflow_add-count
overflow_add-count g c = omega (arith, going_few (c.loop-changed.invariant.2.moved c.loop-changed-test.true), c.args.edges.now.held.few_vertices)

pub loop-changed-smaller : goal.loop-changed-smaller
loop-changed-smaller g c = omega (arith, going_few (c.loop-changed.invariant.2.moved c.loop-changed-test.true))

pub loop-changed-preserved : goal.loop-changed-preserved
loop-changed-preserved g c = (
  c.one_round-changed.auto.table ∙ c.loop-changed.invariant.0,
  iterate-more _ _ _ _ _ c.loop-changed.invariant.1 c.one_round-changed.ensures.table_after,
  loop_turn c.one_round-changed.new.table (c.loop-changed.invariant.2.moved c.loop-changed-test.true) c.one_round-changed.ensures.table_after c.one_round-changed.ensures.told,
)

pub returns : goal.returns
returns g c = c.loop-changed.invariant.2.still c.loop-changed-test.false
