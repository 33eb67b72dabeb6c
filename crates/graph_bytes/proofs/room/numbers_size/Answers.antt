use Rattle.std.proofs.Common.{ap, length, get_or, length-append, arith}
use Rattle.wire.proofs.Encoding.{encode_most}
use Rattle.graph_content.proofs.Encoded.{numbers-next, numbers_end}
use Rattle.graph_bytes.proofs.room.numbers_size.Goals as goal

pub overflow_add-total : goal.overflow_add-total
overflow_add-total c = omega (arith, encode_most (get_or c.args.numbers.now c.loop-number.number-index 0))

pub loop-number-preserved : goal.loop-number-preserved
loop-number-preserved c =
    let i = c.loop-number.number-index in
    let xs = c.args.numbers.now in
    let e = simp length-append at (ap length (numbers-next xs i (omega arith))) in
    (omega arith, omega (arith, encode_most (get_or xs i 0)))

pub returns : goal.returns
returns c =
    let e = ap length (numbers_end c.args.numbers.now c.loop-number.number-index (omega arith)) in
    omega arith
