use Rattle.std.proofs.Common.{◌≡◌, ◌+◌, ◌*◌, ◌≤◌, length, drop}
use Rattle.graph.specs.Encode.{encode_numbers}
use Rattle.graph_bytes.proofs.room.numbers_size.Given as goal

abbrev pub invariant-loop-number : goal.invariant-loop-number
invariant-loop-number l =
    (l.total + length (encode_numbers (drop l.number-index l.numbers)) ≡ length (encode_numbers l.numbers)) × (l.total ≤ 5 * l.number-index)
