use Rattle.wire.proofs.Laying.{filled_none, filled_more}
use Rattle.cover.proofs.TableLaws.{table_size}
use Rattle.closed_rounds.specs.Closing.{sixteen_start}
use Rattle.table_starts.proofs.Starts.{filled-all}
use Rattle.closed_rounds.proofs.SixteenStarts.{sixteen_place}
use lib.ListN.{length}
use Prim.Native.Nat.{◌*◌}
use mathlib.Core.Path.{◌≡◌, ◌∙◌}
use native.Mathlib.Omega.{arith}
use Rattle.closed_rounds.proofs.closed.start_sixteen.Goals as goal

pub loop-q-init : goal.loop-q-init
loop-q-init c = (omega arith, filled_none _ _)

pub offset_bounds-table-q : goal.offset_bounds-table-q
offset_bounds-table-q c = omega (arith, c.loop-q.invariant.1.long)

pub bounds-table-q : goal.bounds-table-q
bounds-table-q c = omega (arith, c.loop-q.invariant.1.long)

pub loop-q-preserved : goal.loop-q-preserved
loop-q-preserved c =
    let a = c.args in
    let n : length (sixteen_start a.n a.base) ≡ 16 * a.n = table_size a.n _ in
    (omega arith, filled_more (sixteen_start a.n a.base) c.loop-q.table a.table.now c.loop-q.q c.same_cell.result (omega arith) (omega arith) (c.same_cell.ensures ∙ sixteen_place a.n a.base c.loop-q.q (omega arith)) c.loop-q.invariant.1)

pub returns : goal.returns
returns c =
    let a = c.args in
    let n : length (sixteen_start a.n a.base) ≡ 16 * a.n = table_size a.n _ in
    filled-all (sixteen_start a.n a.base) _ a.table.now c.loop-q.q (omega arith) (omega arith) c.loop-q.invariant.1
