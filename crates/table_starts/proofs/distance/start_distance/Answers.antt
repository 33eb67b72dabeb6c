use Rattle.wire.proofs.Laying.{filled_none, filled_more}
use Rattle.cover.specs.TableRounds.{table_of}
use Rattle.cover.proofs.TableLaws.{table_size}
use Rattle.table_starts.proofs.Starts.{filled-all, homes_in, homes_place}
use mathlib.Core.Path.{◌∙◌}
use native.Mathlib.Omega.{arith}
use Rattle.table_starts.proofs.distance.start_distance.Goals as goal

pub loop-q-init : goal.loop-q-init
loop-q-init c = (omega arith, filled_none _ _)

pub home_cell-requires : goal.home_cell-requires
home_cell-requires c = omega (arith, c.requires.by_index c.loop-q.q)

pub offset_bounds-table-q : goal.offset_bounds-table-q
offset_bounds-table-q c = omega (arith, c.loop-q.invariant.1.long)

pub bounds-table-q : goal.bounds-table-q
bounds-table-q c = omega (arith, c.loop-q.invariant.1.long)

pub loop-q-preserved : goal.loop-q-preserved
loop-q-preserved c =
    let a = c.args in
    let n = table_size a.n (homes_in a.paths.now a.reach.now) in
    (omega arith, filled_more (table_of a.n (homes_in a.paths.now a.reach.now)) c.loop-q.table a.table.now c.loop-q.q c.home_cell.result (omega arith) (omega arith) (c.home_cell.ensures ∙ homes_place a.n a.paths.now a.reach.now c.loop-q.q (omega arith)) c.loop-q.invariant.1)

pub returns : goal.returns
returns c =
    let a = c.args in
    let n = table_size a.n (homes_in a.paths.now a.reach.now) in
    filled-all (table_of a.n (homes_in a.paths.now a.reach.now)) _ a.table.now c.loop-q.q (omega arith) (omega arith) c.loop-q.invariant.1
