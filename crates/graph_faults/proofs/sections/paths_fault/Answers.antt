use Rattle.std.proofs.Common.{◌≡◌, ◌*◌, sym, ap, ◌∙◌, arith, slice_index}
use Rattle.std.proofs.lemmas.Result.{err_from_is_err_and}
use Rattle.wire.specs.Sizes.{path_room}
use Rattle.graph.specs.Rules.{path_length_fault}
use Rattle.graph.specs.Entries.{Given, edges_in}
use Rattle.graph_content.proofs.Cutting.{vertices-cut}
use Rattle.graph_content.proofs.Faulting.{refused, taken, paths-step, paths-over}
use Rattle.graph_faults.proofs.sections.paths_fault.Goals as goal

pub returns-in_err-range_fault : goal.returns-in_err-range_fault
returns-in_err-range_fault c =
    let i = c.loop-i.i in
    let g = c.args.content.now in
    let b = g.buffers in
    let k : c.content.inside.k ≡ g.k = ap (λ (h : Given). h.k) c.content.view_is in
    let f = c.in_err-range_fault.ensures ∙ ap (λ (h : Given). path_length_fault h.n (slice_index h.buffers.counts i)) c.content.view_is in
    let p = err_from_is_err_and c.from_residual.result c.from_residual.ensures.1 in
    rw (p.1, p.2) (sym (c.loop-i.invariant ∙ paths-step g.n (edges_in g.m 0 b.edges) g.k i b.paths b.counts (omega arith) ∙ refused _ _ _ f))

pub returns-in_err-vertices_fault : goal.returns-in_err-vertices_fault
returns-in_err-vertices_fault c =
    let i = c.loop-i.i in
    let g = c.args.content.now in
    let b = g.buffers in
    let k : c.content.inside.k ≡ g.k = ap (λ (h : Given). h.k) c.content.view_is in
    let f = c.in_ok-range_fault.ensures ∙ ap (λ (h : Given). path_length_fault h.n (slice_index h.buffers.counts i)) c.content.view_is in
    let es = edges_in g.m 0 b.edges in
    let v = c.in_err-vertices_fault.ensures ∙ vertices-cut g.n es (slice_index b.counts i) (path_room * i) b.paths _ c.path.ensures in
    let p = err_from_is_err_and c.from_residual-in_err-vertices_fault.result c.from_residual-in_err-vertices_fault.ensures.1 in
    rw (p.1, p.2) (sym (c.loop-i.invariant ∙ paths-step g.n es g.k i b.paths b.counts (omega arith) ∙ taken _ _ f ∙ refused _ _ _ v))

pub loop-i-preserved : goal.loop-i-preserved
loop-i-preserved c =
    let i = c.loop-i.i in
    let g = c.args.content.now in
    let b = g.buffers in
    let k : c.content.inside.k ≡ g.k = ap (λ (h : Given). h.k) c.content.view_is in
    let f = c.in_ok-range_fault.ensures ∙ ap (λ (h : Given). path_length_fault h.n (slice_index h.buffers.counts i)) c.content.view_is in
    let es = edges_in g.m 0 b.edges in
    let v = c.in_ok-vertices_fault.ensures ∙ vertices-cut g.n es (slice_index b.counts i) (path_room * i) b.paths _ c.path.ensures in
    c.loop-i.invariant ∙ paths-step g.n es g.k i b.paths b.counts (omega arith) ∙ taken _ _ f ∙ taken _ _ v

pub returns : goal.returns
returns c =
    let g = c.args.content.now in
    let b = g.buffers in
    let k : c.content.inside.k ≡ g.k = ap (λ (h : Given). h.k) c.content.view_is in
    sym (c.loop-i.invariant ∙ paths-over g.n (edges_in g.m 0 b.edges) g.k c.loop-i.i b.paths b.counts (omega arith))
