use Rattle.std.proofs.Common.{sym, ap, ◌∙◌, arith}
use Rattle.std.proofs.lemmas.Result.{err_from_is_err_and}
use Rattle.graph.specs.Entries.{Given}
use Rattle.graph_content.proofs.Walking.{walked_end, walked_bad, walked-first, walked_off, walked_more}
use Rattle.graph_content.proofs.content.vertices_fault.Goals as goal
use Rattle.graph_content.proofs.content.vertices_fault.Goals.{then-last-ne0+else-not-edge_is, else-last-ne0}

pub returns-in_err-rise_fault : goal.returns-in_err-rise_fault
returns-in_err-rise_fault c =
    let l = c.loop-vertex in
    let g = c.args.content.now in
    let f = rw (ap (λ (h : Given). h.n) c.content.view_is) at c.in_err-rise_fault.ensures in
    let p = err_from_is_err_and c.from_residual.result c.from_residual.ensures.1 in
    rw (p.1, p.2) (sym (walked_bad g.n g.m g.buffers.edges c.args.path.now l.place l.vertex-index l.last l.invariant _ (omega arith) f))

pub returns-then-not-edge_is : goal.returns-then-not-edge_is
returns-then-not-edge_is c =
    let l = c.loop-vertex in
    let g = c.args.content.now in
    let f = rw (ap (λ (h : Given). h.n) c.content.view_is) at c.in_ok-rise_fault.ensures in
    let s = c.skip_edges-place in
    sym (walked_off g.n g.m g.buffers.edges c.args.path.now l.place l.vertex-index l.last l.invariant (omega arith) f s.result (omega arith) c.requires.rising.1 s.ensures.0 s.ensures.1 (sym c.edge_is.ensures ∙ c.if-not-edge_is.true))

pub loop-vertex-preserved : goal.loop-vertex-preserved
loop-vertex-preserved c =
    let l = c.loop-vertex in
    let g = c.args.content.now in
    let f = rw (ap (λ (h : Given). h.n) c.content.view_is) at c.in_ok-rise_fault.ensures in
    elim c.if-last-ne0.branch [
      | then-last-ne0+else-not-edge_is w ↦
          let s = w.skip_edges-place in
          rw (w.last-is, w.place-is) (walked_more g.n g.m g.buffers.edges c.args.path.now l.place l.vertex-index l.last l.invariant (omega arith) f s.result (omega arith) c.requires.rising.1 s.ensures.0 s.ensures.1
          (sym w.edge_is.ensures ∙ w.if-not-edge_is.false))
      | else-last-ne0 w ↦
          rw (w.last-is, w.place-is) (walked-first g.n g.m g.buffers.edges c.args.path.now l.place l.vertex-index l.last l.invariant (omega arith) f (omega arith))
    ]

pub returns : goal.returns
returns c =
    let l = c.loop-vertex in
    let g = c.args.content.now in
    sym (walked_end g.n g.m g.buffers.edges c.args.path.now l.place l.vertex-index l.last l.invariant (omega arith))
