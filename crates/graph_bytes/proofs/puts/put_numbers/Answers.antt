use Rattle.std.proofs.Common.{◌≡◌, ◌+◌, ◌≤◌, length, length-drop, slice_index, arith}
use Rattle.wire.specs.Numbers.{encode}
use Rattle.wire.proofs.Rest.{rest_part}
use Rattle.graph_content.proofs.Encoded.{numbers-next, numbers_end}
use Rattle.graph_bytes.proofs.Along.{along_as, along-fits, along-long, along-more, along-done}
use Rattle.graph_bytes.proofs.puts.put_numbers.Goals as goal

pub put_number-at-requires : goal.put_number-at-requires
put_number-at-requires c =
    let l = c.loop-number in
    let next = along_as _ (numbers-next c.args.numbers.now l.number-index (omega arith)) l.invariant in
    let room : l.at + length (encode (slice_index c.args.numbers.now l.number-index)) ≤ length l.out = along-fits _ _ _ _ _ _ next in
    let long : length l.out ≡ length c.args.out.now = along-long next in
    rw (rest_part, length-drop) (omega (arith, room, long))

pub loop-number-preserved : goal.loop-number-preserved
loop-number-preserved c =
    let l = c.loop-number in
    let next = along_as _ (numbers-next c.args.numbers.now l.number-index (omega arith)) l.invariant in
    let p = c.put_number-at in
    along-more _ _ _ _ l.out p.new.out l.at p.result next p.ensures.0 p.ensures.1

pub returns : goal.returns
returns c = along-done _ _ _ _ _ c.loop-number.invariant (numbers_end c.args.numbers.now c.loop-number.number-index (omega arith))
