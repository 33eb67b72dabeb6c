use Rattle.std.proofs.Common.{◌≡◌, ◌-◌}
use Rattle.graph.specs.Encode.{encode_labels}
use Rattle.graph.specs.Entries.{labels_in}
use Rattle.graph_content.specs.Faults.{labels_fault}
use Rattle.graph_bytes.proofs.Along.{Along}
use Rattle.graph_file_bytes.proofs.puts.put_labels.Given as goal

abbrev pub invariant-loop-length : goal.invariant-loop-length
invariant-loop-length l =
    let g = l.content in
    let b = g.buffers in
    let i = l.length-index in
    record {
      along : Along (encode_labels (labels_in g.n 0 0 b.letters b.lengths)) (encode_labels (labels_in (g.n - i) i l.sum b.letters b.lengths)) l.initial.out l.out l.at;
      faultless : labels_fault (g.n - i) i l.sum b.letters b.lengths ≡ 0;
    }
