use Rattle.std.proofs.Common.{sym, ap, ◌∙◌}
use Rattle.graph.specs.Entries.{Given, paths_in}
use Rattle.graph_content.proofs.Flagging.{covers}
use Rattle.graph_content.proofs.covered.cover_fault.Goals as goal

pub returns-then-all_marked : goal.returns-then-all_marked
returns-then-all_marked c =
    let g = c.args.content.now in
    let m = rw (ap (λ (h : Given). h.n) c.content.view_is) at c.all_marked.ensures in
    let f = rw c.no_marks-flags.ensures at c.mark_paths.ensures in
    sym (covers c.mark_paths.new.flags g.n (paths_in g.k 0 g.buffers.paths g.buffers.counts) _ f (sym c.if-all_marked.true ∙ m))

pub returns-else-all_marked : goal.returns-else-all_marked
returns-else-all_marked c =
    let g = c.args.content.now in
    let m = rw (ap (λ (h : Given). h.n) c.content.view_is) at c.all_marked.ensures in
    let f = rw c.no_marks-flags.ensures at c.mark_paths.ensures in
    sym (covers c.mark_paths.new.flags g.n (paths_in g.k 0 g.buffers.paths g.buffers.counts) _ f (sym c.if-all_marked.false ∙ m))
