use Rattle.std.proofs.Common.{◌≡◌, ◌-◌, ◌≤◌}
use Rattle.wire.specs.Sizes.{most_letters}
use Rattle.graph_content.specs.Faults.{labels_fault}
use Rattle.graph_faults.proofs.sections.labels_fault.Given as goal

abbrev pub invariant-loop-length : goal.invariant-loop-length
invariant-loop-length l =
    let g = l.content in
    let b = g.buffers in
    record {
      told : labels_fault g.n 0 0 b.letters b.lengths ≡ labels_fault (g.n - l.length-index) l.length-index l.sum b.letters b.lengths;
      upto : l.sum ≤ most_letters;
    }
