use Rattle.std.proofs.Common.{drop}
use Rattle.graph.specs.Encode.{encode_numbers}
use Rattle.graph_bytes.proofs.Along.{Along}
use Rattle.graph_bytes.proofs.puts.put_numbers.Given as goal

abbrev pub invariant-loop-number : goal.invariant-loop-number
invariant-loop-number l = Along (encode_numbers l.numbers) (encode_numbers (drop l.number-index l.numbers)) l.initial.out l.out l.at
