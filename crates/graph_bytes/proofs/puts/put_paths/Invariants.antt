use Rattle.std.proofs.Common.{◌-◌}
use Rattle.graph.specs.Encode.{encode_paths}
use Rattle.graph.specs.Entries.{paths_in}
use Rattle.graph_bytes.proofs.Along.{Along}
use Rattle.graph_bytes.proofs.puts.put_paths.Given as goal

abbrev pub invariant-loop-i : goal.invariant-loop-i
invariant-loop-i l =
    let g = l.content in
    let b = g.buffers in
    Along (encode_paths (paths_in g.k 0 b.paths b.counts)) (encode_paths (paths_in (g.k - l.i) l.i b.paths b.counts)) l.initial.out l.out l.at
