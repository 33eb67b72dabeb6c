use Rattle.std.proofs.Common.{◌≡◌, ◌+◌, ◌-◌, ◌*◌, ◌≤◌, length}
use Rattle.graph.specs.Encode.{encode_paths}
use Rattle.graph.specs.Entries.{paths_in}
use Rattle.graph_file_bytes.proofs.room.paths_size.Given as goal

abbrev pub invariant-loop-i : goal.invariant-loop-i
invariant-loop-i l =
    let g = l.content in
    let b = g.buffers in
    (l.total + length (encode_paths (paths_in (g.k - l.i) l.i b.paths b.counts)) ≡ length (encode_paths (paths_in g.k 0 b.paths b.counts)))
    × (l.total ≤ 5125 * l.i)
