use Rattle.rounds.proofs.Upto.{within}
use Rattle.table_rows.proofs.Linking.{walk_start_lem, walk-on, ahead_less}
use Rattle.table_rounds.proofs.Relaxing.{at_cell, taken_none, taken_turn, taken_end}
use Prim.Native.Nat.{◌+◌}
use mathlib.Core.Path.{refl, sym, subst}
use native.Mathlib.Omega.{arith}
use Rattle.std.proofs.Common.{rules}
use Rattle.table_rounds.proofs.by_rule.gathered.Goals as goal

pub loop-e-init : goal.loop-e-init
loop-e-init g c = walk_start_lem c.first-e.ensures (taken_none _ _ _ _ _ (search rules) (λ i h. refl))

pub source-u-requires : goal.source-u-requires
source-u-requires g c = (walk-on c.loop-e.invariant c.loop-e-test.true).0

pub take_row-next-requires : goal.take_row-next-requires
take_row-next-requires g c =
    let u = c.source-u.ensures.within in
    record {
      row_of_u = (u.low, omega arith);
      can = λ i h. subst (g.R.EdgeRule.Can c.args.rule.now (i + 1) c.source-u.result c.args.v) (sym (at_cell c.source-u.result i c.args.table.now u.low))
          (g.met.R.EdgeRule.fits c.args.rule.now c.args.edges.now.n c.args.table.now c.requires.fits (i + 1) c.source-u.result c.args.v (within (omega arith) (omega arith)) u c.requires.within);
    }

pub next-e-requires : goal.next-e-requires
next-e-requires g c = (walk-on c.loop-e.invariant c.loop-e-test.true).0

pub loop-e-smaller : goal.loop-e-smaller
loop-e-smaller g c = ahead_less _ _ (walk-on c.loop-e.invariant c.loop-e-test.true).0 c.next-e.ensures

pub loop-e-preserved : goal.loop-e-preserved
loop-e-preserved g c =
    taken_turn c.args.table.now _ _ _ (g.met.R.EdgeRule.follows c.args.rule.now c.args.edges.now.m c.args.edges.now.list) c.source-u.result _ c.take_row-next.result
    c.loop-e.invariant c.loop-e-test.true c.source-u.ensures.is c.source-u.ensures.within.low c.take_row-next.ensures c.next-e.ensures

pub returns : goal.returns
returns g c = taken_end c.args.table.now _ _ _ (g.met.R.EdgeRule.follows c.args.rule.now c.args.edges.now.m c.args.edges.now.list) _ c.loop-e.invariant (omega arith)
