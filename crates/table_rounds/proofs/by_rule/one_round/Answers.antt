use Rattle.rounds.proofs.Upto.{within}
use Rattle.rounds.proofs.Turns.{swept-start, swept-round}
use Rattle.table_rounds.proofs.Relaxing.{sources_held, renewed}
use Rattle.table_rounds.proofs.Sweeping.{rows_same, rows_moved}
use mathlib.Core.Path.{◌≡◌}
use native.Mathlib.Omega.{arith}
use Rattle.table_rounds.proofs.by_rule.one_round.Goals as goal
use Rattle.table_rounds.proofs.by_rule.one_round.Goals.{else-store_row, then-store_row}

pub loop-v-init : goal.loop-v-init
loop-v-init g c = (omega arith, swept-start _ _ _ _)

pub gathered-row-requires : goal.gathered-row-requires
gathered-row-requires g c =
    record { within = within (omega arith) (omega arith); table_len = omega arith; fits = rw c.loop-v.invariant.1.is (c.requires.fits c.loop-v.v (omega arith)) }

pub store_row-requires : goal.store_row-requires
store_row-requires g c = (omega arith, omega arith)

pub loop-v-preserved : goal.loop-v-preserved
loop-v-preserved g c =
    let e = c.args.edges.now in
    let rules = g.R.EdgeRule.rules c.args.rule.now e.m e.list in
    let from = sources_held e.held (g.met.R.EdgeRule.follows c.args.rule.now e.m e.list) in
    let r = renewed c.loop-v.table rules c.loop-v.v c.row_at-own.ensures c.gathered-row.ensures in
    let u = c.store_row.new.table in (
      omega arith,
      (elim c.if-store_row.branch [
        | then-store_row q ↦ rw q.changed-is (rows_moved e.n rules from u c.gathered-row.result (omega arith) c.loop-v.invariant.1 r c.store_row.ensures.table_after c.store_row.auto.table (c.store_row.ensures.told.moved q.if-store_row.true))
        | else-store_row q ↦ rw q.changed-is (rows_same e.n rules from u c.gathered-row.result (omega arith) c.loop-v.invariant.1 r c.store_row.ensures.table_after (c.store_row.ensures.told.still q.if-store_row.false))
      ]),
    )

pub returns : goal.returns
returns g c =
    let e : c.loop-v.v ≡ c.args.edges.now.n = omega arith in
    let w = rw e at c.loop-v.invariant.1 in
    record { table_after = w.is; told = swept-round w }
