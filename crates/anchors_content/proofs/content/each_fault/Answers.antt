use Rattle.std.proofs.Common.{◌≡◌, sym, ap, ◌∙◌, take, arith}
use Rattle.std.proofs.lemmas.Result.{err_from_is_err_and}
use Rattle.graph_content.proofs.Faulting.{code-some}
use Rattle.anchors.specs.AnchorEntries.{AnchorsGiven}
use Rattle.anchors_parts.specs.LabelTables.{content_of}
use Rattle.anchors_rules.specs.OneAnchor.{anchor_of}
use Rattle.anchors_content.proofs.EachSteps.{each_over, each-own, each-order, each_more}
use Rattle.anchors_content.proofs.content.each_fault.Goals as goal

pub returns-in_err-own_fault : goal.returns-in_err-own_fault
returns-in_err-own_fault c =
    let l = c.loop-i in
    let g = c.args.content.now in
    let n : c.content.inside.n ≡ g.n = ap (λ (h : AnchorsGiven). h.n) c.content.view_is in
    let f = rw c.read-read.ensures at c.in_err-own_fault.ensures in
    let p = err_from_is_err_and c.from_residual.result c.from_residual.ensures.1 in
    rw (p.1, p.2) (sym (l.invariant ∙ each-own (content_of c.args.labels.now) (take g.r g.buffers.letters) g.n l.i (anchor_of l.last) g.buffers.anchors _ _ (omega arith) c.anchor-a.ensures f (code-some c.in_err-own_fault.field-0.0)))

pub returns-then-not-key_below : goal.returns-then-not-key_below
returns-then-not-key_below c =
    let l = c.loop-i in
    let g = c.args.content.now in
    let n : c.content.inside.n ≡ g.n = ap (λ (h : AnchorsGiven). h.n) c.content.view_is in
    let f = rw c.read-read.ensures at c.in_ok-own_fault.ensures in
    sym (l.invariant ∙ each-order (content_of c.args.labels.now) (take g.r g.buffers.letters) g.n l.i (anchor_of l.last) g.buffers.anchors _ (omega arith) c.anchor-a.ensures (sym f) (sym c.key_below.ensures ∙ c.if-not-key_below.true))

pub loop-i-preserved : goal.loop-i-preserved
loop-i-preserved c =
    let l = c.loop-i in
    let g = c.args.content.now in
    let n : c.content.inside.n ≡ g.n = ap (λ (h : AnchorsGiven). h.n) c.content.view_is in
    let f = rw c.read-read.ensures at c.in_ok-own_fault.ensures in
    l.invariant ∙ each_more (content_of c.args.labels.now) (take g.r g.buffers.letters) g.n l.i (anchor_of l.last) g.buffers.anchors _ (omega arith) c.anchor-a.ensures (sym f) (sym c.key_below.ensures ∙ c.if-not-key_below.false)

pub returns : goal.returns
returns c =
    let l = c.loop-i in
    let g = c.args.content.now in
    let n : c.content.inside.n ≡ g.n = ap (λ (h : AnchorsGiven). h.n) c.content.view_is in
    sym (l.invariant ∙ each_over (content_of c.args.labels.now) (take g.r g.buffers.letters) g.n l.i (anchor_of l.last) g.buffers.anchors (omega arith))
