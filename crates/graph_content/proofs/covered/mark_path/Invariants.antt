use Rattle.std.proofs.Common.{drop}
use Rattle.graph.specs.Rules.{is_on}
use Rattle.graph_content.proofs.Flagging.{Onward}
use Rattle.graph_content.proofs.covered.mark_path.Given as goal

abbrev pub invariant-loop-vertex : goal.invariant-loop-vertex
invariant-loop-vertex l = Onward l.initial.flags (is_on l.vertices) l.flags (is_on (drop l.vertex-index l.vertices))
