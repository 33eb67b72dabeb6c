use native.Mathlib.Omega.{arith}
use lib.ListN.{length-drop, length-set}
use Rattle.wire.proofs.Rest.{rest_part}
use Rattle.decimal_text.specs.Words.{space}
use Rattle.decimal_text.specs.Decimal.{decimal}
use Rattle.decimal_text.proofs.Ending.{after_byte}
use Rattle.listing_text.proofs.put_spaced.Goals as goal

pub bounds-out-0 : goal.bounds-out-0
bounds-out-0 c = omega (arith, c.requires)

pub slice_bounds-put_decimal-count : goal.slice_bounds-put_decimal-count
slice_bounds-put_decimal-count c = simp length-set (omega (arith, c.requires))

pub slice_bounds-put_decimal-start : goal.slice_bounds-put_decimal-start
slice_bounds-put_decimal-start c = simp length-set (omega (arith, c.requires))

pub put_decimal-requires : goal.put_decimal-requires
put_decimal-requires c = rw (rest_part, length-drop, length-set) (omega (arith, c.requires))

pub overflow_add-result : goal.overflow_add-result
overflow_add-result c = omega (arith, c.put_decimal.ensures.0, c.requires)

pub returns : goal.returns
returns c =
    (omega (arith, c.put_decimal.ensures.0), after_byte space (decimal c.args.n) c.args.out.now c.put_decimal.new.out (omega (arith, c.requires)) c.put_decimal.ensures.1)
