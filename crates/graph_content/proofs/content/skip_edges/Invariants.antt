use Rattle.graph_content.specs.Search.{Passed}
use Rattle.graph_content.proofs.content.skip_edges.Given as goal

abbrev pub invariant-loop-i : goal.invariant-loop-i
invariant-loop-i l = Passed l.content.m l.content.buffers.edges l.start l.step.from l.step.to l.i
