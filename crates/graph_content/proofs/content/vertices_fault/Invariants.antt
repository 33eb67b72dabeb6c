use Rattle.graph_content.proofs.Walking.{Walked}
use Rattle.graph_content.proofs.content.vertices_fault.Given as goal

abbrev pub invariant-loop-vertex : goal.invariant-loop-vertex
invariant-loop-vertex l = Walked l.content.n l.content.m l.content.buffers.edges l.path l.place l.vertex-index l.last
