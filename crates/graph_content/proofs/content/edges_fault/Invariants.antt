use Rattle.std.proofs.Common.{◌≡◌, ◌-◌}
use Rattle.graph.specs.Rules.{no_edge}
use Rattle.graph_rules.specs.Edges.{edge_of}
use Rattle.graph_content.specs.Faults.{edges_fault}
use Rattle.graph_content.proofs.content.edges_fault.Given as goal

abbrev pub invariant-loop-i : goal.invariant-loop-i
invariant-loop-i l =
    let g = l.content in
    edges_fault g.n g.m 0 no_edge g.buffers.edges ≡ edges_fault g.n (g.m - l.i) l.i (edge_of l.last) g.buffers.edges
