use mathlib.Core.Path.{refl}
use native.Mathlib.Omega.{arith}
use Rattle.wire.proofs.Laying.{filled_none, filled_more, filled-done}
use Rattle.wire_letters.proofs.put_letters.Goals as goal

pub loop-i-init : goal.loop-i-init
loop-i-init c = filled_none c.args.letters.now c.args.out.now

pub loop-i-preserved : goal.loop-i-preserved
loop-i-preserved c =
    let a = c.args in
    let l = c.loop-i in
    filled_more a.letters.now l.out a.out.now l.i _ (omega arith) (omega arith) refl l.invariant

pub returns : goal.returns
returns c =
    let a = c.args in
    let l = c.loop-i in
    (refl, filled-done a.letters.now l.out a.out.now l.i (omega arith) l.invariant)
