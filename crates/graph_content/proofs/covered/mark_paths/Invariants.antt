use Rattle.std.proofs.Common.{◌-◌}
use Rattle.graph.specs.Rules.{is_on_any}
use Rattle.graph.specs.Entries.{paths_in}
use Rattle.graph_content.proofs.Flagging.{Onward}
use Rattle.graph_content.proofs.covered.mark_paths.Given as goal

abbrev pub invariant-loop-i : goal.invariant-loop-i
invariant-loop-i l =
    let g = l.content in
    let b = g.buffers in
    Onward l.initial.flags (is_on_any (paths_in g.k 0 b.paths b.counts)) l.flags (is_on_any (paths_in (g.k - l.i) l.i b.paths b.counts))
