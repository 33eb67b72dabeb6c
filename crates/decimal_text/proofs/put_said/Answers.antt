use mathlib.Core.Path.{refl}
use native.Mathlib.Omega.{arith}
use lib.ListN.{length-append, length-drop}
use Rattle.wire.proofs.Rest.{rest_part}
use Rattle.decimal_text.specs.Decimal.{decimal}
use Rattle.graph_bytes.proofs.Along.{along-first, along-room}
use Rattle.decimal_text.proofs.Ending.{along-last}
use Rattle.decimal_text.proofs.put_said.Goals as goal

pub put_letters-at-requires : goal.put_letters-at-requires
put_letters-at-requires c = omega (arith, c.requires, length-append c.args.word.now (decimal c.args.n))

pub slice_bounds-put_decimal-count : goal.slice_bounds-put_decimal-count
slice_bounds-put_decimal-count c =
    let along = along-first _ c.args.word.now (decimal c.args.n) _ _ _ refl c.requires c.put_letters-at.ensures.0 c.put_letters-at.ensures.1 in
    omega (arith, along-room along)

pub put_decimal-at-requires : goal.put_decimal-at-requires
put_decimal-at-requires c =
    let along = along-first _ c.args.word.now (decimal c.args.n) _ _ _ refl c.requires c.put_letters-at.ensures.0 c.put_letters-at.ensures.1 in
    rw (rest_part, length-drop) (omega (arith, along-room along))

pub returns : goal.returns
returns c =
    let along = along-first _ c.args.word.now (decimal c.args.n) _ _ _ refl c.requires c.put_letters-at.ensures.0 c.put_letters-at.ensures.1 in
    along-last _ _ _ _ c.put_decimal-at.new.out _ _ along c.put_decimal-at.ensures.0 c.put_decimal-at.ensures.1
