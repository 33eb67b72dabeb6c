use Rattle.std.proofs.Common.{sym, ap, subst, ◌∙◌}
use Rattle.std.proofs.lemmas.Result.{err_from_is_err_and}
use Rattle.wire.specs.Sizes.{most_vertices, most_edges}
use Rattle.graph.specs.Rules.{vertex_count_fault, edge_count_fault, path_count_fault}
use Rattle.graph.specs.Entries.{Given, edges_in}
use Rattle.graph_content.specs.Used.{Fits}
use Rattle.graph_content.proofs.Faulting.{refused, taken, within}
use Rattle.graph_content.proofs.Givens.{content_fault, given-fault}
use Rattle.graph_content.proofs.Sound.{edges-rise, paths_roomed, paths-inside}
use Rattle.graph_faults.proofs.content_fault.Goals as goal

pub returns-in_err-range_fault : goal.returns-in_err-range_fault
unfolding content_fault
returns-in_err-range_fault c =
    let v = c.content.view_is in
    let g = c.args.content.now in
    let p = err_from_is_err_and c.from_residual.result c.from_residual.ensures.1 in
    rw (p.1, p.2) (sym (given-fault g (subst Fits v c.content.invariant.1) ∙ refused _ _ _ (c.in_err-range_fault.ensures ∙ ap (λ (h : Given). vertex_count_fault h.n) v)))

pub returns-in_err-labels_fault : goal.returns-in_err-labels_fault
unfolding content_fault
returns-in_err-labels_fault c =
    let v = c.content.view_is in
    let g = c.args.content.now in
    let p = err_from_is_err_and c.from_residual-in_err-labels_fault.result c.from_residual-in_err-labels_fault.ensures.1 in
    rw (p.1, p.2) (sym (given-fault g (subst Fits v c.content.invariant.1) ∙ taken _ _ (c.in_ok-range_fault.ensures ∙ ap (λ (h : Given). vertex_count_fault h.n) v) ∙ refused _ _ _ c.in_err-labels_fault.ensures))

pub returns-in_err-range_fault-2 : goal.returns-in_err-range_fault-2
unfolding content_fault
returns-in_err-range_fault-2 c =
    let v = c.content.view_is in
    let g = c.args.content.now in
    let p = err_from_is_err_and c.from_residual-in_err-range_fault-2.result c.from_residual-in_err-range_fault-2.ensures.1 in
    rw (p.1, p.2) (sym (given-fault g (subst Fits v c.content.invariant.1) ∙ taken _ _ (c.in_ok-range_fault.ensures ∙ ap (λ (h : Given). vertex_count_fault h.n) v) ∙ taken _ _ c.in_ok-labels_fault.ensures ∙ refused _ _ _ (c.in_err-range_fault-2.ensures ∙ ap (λ (h : Given). edge_count_fault h.m) v)))

pub returns-in_err-edges_fault : goal.returns-in_err-edges_fault
unfolding content_fault
returns-in_err-edges_fault c =
    let v = c.content.view_is in
    let g = c.args.content.now in
    let p = err_from_is_err_and c.from_residual-in_err-edges_fault.result c.from_residual-in_err-edges_fault.ensures.1 in
    rw (p.1, p.2) (sym (given-fault g (subst Fits v c.content.invariant.1) ∙ taken _ _ (c.in_ok-range_fault.ensures ∙ ap (λ (h : Given). vertex_count_fault h.n) v) ∙ taken _ _ c.in_ok-labels_fault.ensures ∙ taken _ _ (c.in_ok-range_fault-2.ensures ∙ ap (λ (h : Given). edge_count_fault h.m) v) ∙ refused _ _ _ c.in_err-edges_fault.ensures))

pub returns-in_err-range_fault-3 : goal.returns-in_err-range_fault-3
unfolding content_fault
returns-in_err-range_fault-3 c =
    let v = c.content.view_is in
    let g = c.args.content.now in
    let p = err_from_is_err_and c.from_residual-in_err-range_fault-3.result c.from_residual-in_err-range_fault-3.ensures.1 in
    rw (p.1, p.2) (sym (given-fault g (subst Fits v c.content.invariant.1) ∙ taken _ _ (c.in_ok-range_fault.ensures ∙ ap (λ (h : Given). vertex_count_fault h.n) v) ∙ taken _ _ c.in_ok-labels_fault.ensures ∙ taken _ _ (c.in_ok-range_fault-2.ensures ∙ ap (λ (h : Given). edge_count_fault h.m) v) ∙ taken _ _ c.in_ok-edges_fault.ensures ∙ refused _ _ _ (c.in_err-range_fault-3.ensures ∙ ap (λ (h : Given). path_count_fault h.k) v)))

pub paths_fault-requires-clause-rising : goal.paths_fault-requires-clause-rising
paths_fault-requires-clause-rising c =
    let g = c.args.content.now in
    let few = (within 0 c.content.inside.m c.content.inside.m most_edges (sym c.in_ok-range_fault-2.ensures)).1 in
    (rw (ap (λ (h : Given). h.m) c.content.view_is) at few, edges-rise g.n g.m g.buffers.edges (sym c.in_ok-edges_fault.ensures))

pub returns-in_err-paths_fault : goal.returns-in_err-paths_fault
unfolding content_fault
returns-in_err-paths_fault c =
    let v = c.content.view_is in
    let g = c.args.content.now in
    let p = err_from_is_err_and c.from_residual-in_err-paths_fault.result c.from_residual-in_err-paths_fault.ensures.1 in
    rw (p.1, p.2) (sym (given-fault g (subst Fits v c.content.invariant.1) ∙ taken _ _ (c.in_ok-range_fault.ensures ∙ ap (λ (h : Given). vertex_count_fault h.n) v) ∙ taken _ _ c.in_ok-labels_fault.ensures ∙ taken _ _ (c.in_ok-range_fault-2.ensures ∙ ap (λ (h : Given). edge_count_fault h.m) v) ∙ taken _ _ c.in_ok-edges_fault.ensures ∙ taken _ _ (c.in_ok-range_fault-3.ensures ∙ ap (λ (h : Given). path_count_fault h.k) v) ∙ refused _ _ _ c.in_err-paths_fault.ensures))

pub cover_fault-requires-clause-roomed : goal.cover_fault-requires-clause-roomed
cover_fault-requires-clause-roomed c =
    let g = c.args.content.now in
    let b = g.buffers in
    let m = (within 1 c.content.inside.n c.content.inside.n most_vertices (sym c.in_ok-range_fault.ensures)).1 in
    let few = rw (ap (λ (h : Given). h.n) c.content.view_is) at m in
    let z = sym c.in_ok-paths_fault.ensures in
    (paths_roomed g.n (edges_in g.m 0 b.edges) g.k b.paths b.counts few z, paths-inside g.n (edges_in g.m 0 b.edges) g.k b.paths b.counts few z)

pub returns : goal.returns
unfolding content_fault
returns c =
    let v = c.content.view_is in
    let g = c.args.content.now in
    c.cover_fault.ensures ∙ sym (given-fault g (subst Fits v c.content.invariant.1) ∙ taken _ _ (c.in_ok-range_fault.ensures ∙ ap (λ (h : Given). vertex_count_fault h.n) v) ∙ taken _ _ c.in_ok-labels_fault.ensures ∙ taken _ _ (c.in_ok-range_fault-2.ensures ∙ ap (λ (h : Given). edge_count_fault h.m) v) ∙ taken _ _ c.in_ok-edges_fault.ensures ∙ taken _ _ (c.in_ok-range_fault-3.ensures ∙ ap (λ (h : Given). path_count_fault h.k) v) ∙ taken _ _ c.in_ok-paths_fault.ensures)
