use native.Mathlib.Omega.{arith}
use Rattle.decimal_text.proofs.Digits.{decimal-some, more-long, digit-put, digits_put}
use Rattle.decimal_text.proofs.+put_decimal.Goals as goal

pub bounds-out-0 : goal.bounds-out-0
bounds-out-0 t c = omega (arith, decimal-some c.args.x, c.requires)

pub returns-then-x-lt10 : goal.returns-then-x-lt10
returns-then-x-lt10 t c = digit-put c.args.out.now c.args.x (omega arith) (omega (arith, decimal-some c.args.x, c.requires))

pub put_decimal-at-requires : goal.put_decimal-at-requires
put_decimal-at-requires t c = let l = more-long c.args.x (omega arith) in (omega (arith, c.decreases), omega (arith, c.requires))

pub bounds-out-at : goal.bounds-out-at
bounds-out-at t c =
    let l = more-long c.args.x (omega arith) in
    omega (arith, c.put_decimal-at.ensures.0, c.put_decimal-at.auto.out, c.requires)

pub returns : goal.returns
returns t c =
    let p = c.put_decimal-at in
    digits_put c.args.out.now p.new.out c.args.x p.result (omega arith) c.requires p.ensures.0 p.ensures.1
