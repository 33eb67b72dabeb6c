use Rattle.std.proofs.Common.{◌≡◌, true, sym, ap, ◌∙◌, arith}
use borrow.Author.Tests.{lt-ltb}
use Rattle.graph.specs.Content.{Edge}
use Rattle.graph.specs.Rules.{edge_below}
use Rattle.graph.specs.Entries.{Given}
use Rattle.graph_rules.specs.Edges.{edge_of}
use Rattle.graph_content.proofs.Searching.{passed_more}
use Rattle.graph_content.proofs.content.skip_edges.Goals as goal

pub loop-i-preserved : goal.loop-i-preserved
loop-i-preserved c =
    let l = c.loop-i in
    let g = c.args.content.now in
    let m : c.content.inside.m ≡ g.m = ap (λ (h : Given). h.m) c.content.view_is in
    let b = ap (λ (d : Edge). edge_below d (edge_of c.args.step)) (sym c.edge-edge.ensures) ∙ sym c.edge_below.ensures ∙ c.if-not-edge_below.false in
    passed_more g.m g.buffers.edges c.args.start c.args.step.from c.args.step.to l.i (omega arith) b l.invariant

pub loop-i-preserved-then-edge-step : goal.loop-i-preserved-then-edge-step
loop-i-preserved-then-edge-step c =
    let l = c.loop-i in
    let g = c.args.content.now in
    let m : c.content.inside.m ≡ g.m = ap (λ (h : Given). h.m) c.content.view_is in
    let q : edge_below (edge_of c.edge-edge.result) (edge_of c.args.step) ≡ true = simp (lt-ltb c.edge-edge.result.from c.args.step.from (omega arith)) in
    let b = ap (λ (d : Edge). edge_below d (edge_of c.args.step)) (sym c.edge-edge.ensures) ∙ q in
    passed_more g.m g.buffers.edges c.args.start c.args.step.from c.args.step.to l.i (omega arith) b l.invariant
