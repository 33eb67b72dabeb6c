use mathlib.Core.Path.{sym, ◌∙◌}
use native.Mathlib.Omega.{arith}
use Rattle.steps.proofs.RowTurns.{back_end, back_turn, fits-vertex, fits_sum, fits_turn}
use Rattle.row_parts.proofs.back_along.Goals as goal

pub put_nearer-requires : goal.put_nearer-requires
put_nearer-requires c =
    let l = c.loop-a in
    let a = c.args in
    (rw l.invariant.0 (fits-vertex a.lengths.now a.path.now (omega arith) l.invariant.1), fits_sum a.lengths.now a.path.now (omega arith) l.invariant.1)

pub sum_below-sum-requires : goal.sum_below-sum-requires
sum_below-sum-requires c =
    let l = c.loop-a in
    let a = c.args in
    rw (c.put_nearer.auto.row ∙ l.invariant.0) (fits_turn a.lengths.now a.path.now (omega arith) l.invariant.1)

pub loop-a-preserved : goal.loop-a-preserved
loop-a-preserved c =
    let l = c.loop-a in
    let a = c.args in (
      c.put_nearer.auto.row ∙ l.invariant.0,
      rw c.sum_below-sum.ensures (fits_turn a.lengths.now a.path.now (omega arith) l.invariant.1),
      rw (c.sum_below-sum.ensures, c.put_nearer.ensures) (l.invariant.2 ∙ back_turn a.lengths.now a.path.now l.a l.sum l.row (omega arith)),
    )

pub returns : goal.returns
returns c =
    let l = c.loop-a in
    let a = c.args in
    sym (l.invariant.2 ∙ back_end a.lengths.now a.path.now l.a l.sum l.row (omega arith))
