use Rattle.std.proofs.Common.{◌≡◌, ◌+◌, ◌-◌, ◌*◌, ◌≤◌}
use Rattle.graph_content.specs.Used.{labels_size}
use Rattle.graph_file_bytes.proofs.room.labels_size.Given as goal

abbrev pub invariant-loop-length : goal.invariant-loop-length
invariant-loop-length l =
    let g = l.content in
    let i = l.length-index in
    (l.total + labels_size (g.n - i) i g.buffers.lengths ≡ labels_size g.n 0 g.buffers.lengths) × (l.total ≤ 4294967300 * i)
