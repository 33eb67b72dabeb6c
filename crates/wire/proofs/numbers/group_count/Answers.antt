use mathlib.Core.Path.{sym, ap}
use Prim.Native.Nat.{ℕ}
use native.Mathlib.Omega.{arith}
use lib.ListN.{length}
use lib.Count.{leading_le}
use Rattle.wire.specs.Numbers.{encode}
use Rattle.wire.proofs.Encoding.{length-encode}
use Rattle.wire.proofs.numbers.group_count.Goals as goal

pub returns-then-x-eq0 : goal.returns-then-x-eq0
unfolding encode
returns-then-x-eq0 c = ap (λ (x : ℕ). length (encode x)) (sym c.if-x-eq0.true)

pub overflow_sub-result : goal.overflow_sub-result
overflow_sub-result c = omega (arith, leading_le 32 c.args.x)

pub returns : goal.returns
returns c = length-encode c.args.x (omega arith) c.ranges.x.fits
