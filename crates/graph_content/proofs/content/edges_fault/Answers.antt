use Rattle.std.proofs.Common.{ℕ, ◌≡◌, sym, ap, ap₂, ◌∙◌, arith}
use Rattle.std.proofs.lemmas.Result.{err_from_is_err_and}
use Rattle.graph.specs.Content.{Edge}
use Rattle.graph.specs.Rules.{edge_fault}
use Rattle.graph.specs.Entries.{Given}
use Rattle.graph_rules.specs.Edges.{edge_of}
use Rattle.graph_content.proofs.Faulting.{refused, taken, edges_step, edges-over}
use Rattle.graph_content.proofs.content.edges_fault.Goals as goal

pub returns-in_err-edge_fault : goal.returns-in_err-edge_fault
returns-in_err-edge_fault c =
    let l = c.loop-i in
    let g = c.args.content.now in
    let m : c.content.inside.m ≡ g.m = ap (λ (h : Given). h.m) c.content.view_is in
    let f = c.in_err-edge_fault.ensures
    ∙ ap₂ (λ (n : ℕ) (d : Edge). edge_fault n (edge_of l.last) d) (ap (λ (h : Given). h.n) c.content.view_is) c.edge-edge.ensures in
    let p = err_from_is_err_and c.from_residual.result c.from_residual.ensures.1 in
    rw (p.1, p.2) (sym (l.invariant ∙ edges_step g.n g.m l.i (edge_of l.last) g.buffers.edges (omega arith) ∙ refused _ _ _ f))

pub loop-i-preserved : goal.loop-i-preserved
loop-i-preserved c =
    let l = c.loop-i in
    let g = c.args.content.now in
    let m : c.content.inside.m ≡ g.m = ap (λ (h : Given). h.m) c.content.view_is in
    let f = c.in_ok-edge_fault.ensures
    ∙ ap₂ (λ (n : ℕ) (d : Edge). edge_fault n (edge_of l.last) d) (ap (λ (h : Given). h.n) c.content.view_is) c.edge-edge.ensures in
    rw c.edge-edge.ensures (l.invariant ∙ edges_step g.n g.m l.i (edge_of l.last) g.buffers.edges (omega arith) ∙ taken _ _ f)

pub returns : goal.returns
returns c =
    let l = c.loop-i in
    let g = c.args.content.now in
    let m : c.content.inside.m ≡ g.m = ap (λ (h : Given). h.m) c.content.view_is in
    sym (l.invariant ∙ edges-over g.n g.m l.i (edge_of l.last) g.buffers.edges (omega arith))
