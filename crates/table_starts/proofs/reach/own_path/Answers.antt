use Rattle.table_starts.proofs.Starts.{owned_none, owned_more}
use lib.ListN.{get_or}
use mathlib.Core.Path.{refl}
use native.Mathlib.Omega.{arith}
use Rattle.table_starts.proofs.reach.own_path.Goals as goal

pub loop-j-init : goal.loop-j-init
loop-j-init c = (omega arith, owned_none _ _ _ c.requires.by_index)

pub loop-j-preserved : goal.loop-j-preserved
loop-j-preserved c =
    let a = c.args in
    let on = c.requires.on_table.on c.loop-j.j (omega arith) in
    (omega arith, owned_more a.path.now c.loop-j.j a.i (get_or a.path.now c.loop-j.j 0) a.table.now c.loop-j.table (omega arith) refl on.0 on.1 c.loop-j.invariant.1)
