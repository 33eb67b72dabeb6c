use Rattle.std.proofs.Common.{◌≡◌, ◌-◌}
use Rattle.graph.specs.Entries.{edges_in}
use Rattle.graph_content.specs.Faults.{paths_fault}
use Rattle.graph_faults.proofs.sections.paths_fault.Given as goal

abbrev pub invariant-loop-i : goal.invariant-loop-i
invariant-loop-i l =
    let g = l.content in
    let b = g.buffers in
    paths_fault g.n (edges_in g.m 0 b.edges) g.k 0 b.paths b.counts ≡ paths_fault g.n (edges_in g.m 0 b.edges) (g.k - l.i) l.i b.paths b.counts
