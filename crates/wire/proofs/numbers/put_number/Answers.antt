use Prim.Native.Nat.{◌<◌}
use mathlib.Core.Path.{◌≡◌}
use lib.ListN.{length}
use native.Mathlib.Omega.{arith}
use Rattle.wire.proofs.Putting.{put-none, put-room, put-length, put-more, put_last}
use Rattle.wire.proofs.numbers.put_number.Goals as goal
use Rattle.wire.proofs.numbers.put_number.Goals.{At-loop-rest}

-- at the loop's head the place is inside the output, which is as long as it was
room : (k : At-loop-rest) → (k.loop-rest.at < length k.loop-rest.out) × (length k.loop-rest.out ≡ length k.args.out.now)
room k =
    let a = k.args in
    let l = k.loop-rest in
    let r = put-room a.out.now a.x l.out l.rest l.at l.invariant k.requires in
    let e = put-length a.out.now a.x l.out l.rest l.at l.invariant k.requires in
    (omega arith, e)

pub loop-rest-init : goal.loop-rest-init
loop-rest-init c = put-none c.args.out.now c.args.x c.ranges.x.fits

pub bounds-out-at : goal.bounds-out-at
bounds-out-at c = (room c.before).0

pub overflow_add-at : goal.overflow_add-at
overflow_add-at c = omega (arith, room c.before)

pub loop-rest-preserved : goal.loop-rest-preserved
loop-rest-preserved c =
    let a = c.args in
    let l = c.loop-rest in
    put-more a.out.now a.x l.out l.rest l.at l.invariant c.requires c.loop-rest-test.true

pub bounds-out-at-2 : goal.bounds-out-at-2
bounds-out-at-2 c = (room c.before).0

pub overflow_add-result : goal.overflow_add-result
overflow_add-result c = omega (arith, room c.before)

pub returns : goal.returns
returns c =
    let a = c.args in
    let l = c.loop-rest in
    put_last a.out.now a.x l.out l.rest l.at l.invariant c.requires (omega arith)
