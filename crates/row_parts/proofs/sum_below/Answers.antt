use native.Mathlib.Omega.{arith}
use lib.ListN.{get_or}
use Prim.Native.Nat.{◌-◌}
use Rattle.rounds.specs.Rounds.{Within}
use Rattle.steps.proofs.RowTurns.{below-first, below_more, fits-vertex, fits_sum}
use Rattle.row_parts.proofs.sum_below.Goals as goal

pub returns-then-a-eq0 : goal.returns-then-a-eq0
returns-then-a-eq0 c = let a = c.args in below-first a.lengths.now a.path.now a.a a.sum (omega arith)

pub overflow_cast-result : goal.overflow_cast-result
overflow_cast-result c = omega (arith, (let told : let a = c.args in Within a.n (get_or a.path.now (a.a - 1) 0) = let a = c.args in fits-vertex a.lengths.now a.path.now (omega arith) c.requires in told))

pub overflow_sub-result : goal.overflow_sub-result
overflow_sub-result c = omega (arith, (let told : let a = c.args in Within a.n (get_or a.path.now (a.a - 1) 0) = let a = c.args in fits-vertex a.lengths.now a.path.now (omega arith) c.requires in told))

pub offset_bounds-lengths-u : goal.offset_bounds-lengths-u
offset_bounds-lengths-u c = omega (arith, (let told : let a = c.args in Within a.n (get_or a.path.now (a.a - 1) 0) = let a = c.args in fits-vertex a.lengths.now a.path.now (omega arith) c.requires in told))

pub bounds-lengths-u : goal.bounds-lengths-u
bounds-lengths-u c = omega (arith, (let told : let a = c.args in Within a.n (get_or a.path.now (a.a - 1) 0) = let a = c.args in fits-vertex a.lengths.now a.path.now (omega arith) c.requires in told), c.requires.labels)

pub overflow_add-result : goal.overflow_add-result
overflow_add-result c =
    let a = c.args in
    omega (arith, below_more a.lengths.now a.path.now a.a a.sum (omega arith), fits_sum a.lengths.now a.path.now (omega arith) c.requires)

pub returns : goal.returns
returns c = let a = c.args in below_more a.lengths.now a.path.now a.a a.sum (omega arith)
