use Rattle.std.proofs.Common.{ℕ, List, ◌≤◌, length, sym, ap, subst, ◌∙◌, arith}
use Rattle.std.proofs.lemmas.Result.{err_from_is_err_and}
use Rattle.wire.specs.Sizes.{most_read}
use Rattle.graph_content.proofs.Cutting.{letters-front}
use Rattle.graph_content.proofs.Encoded.{numbers_part}
use Rattle.graph_content.proofs.Faulting.{refused, taken, within}
use Rattle.anchors.specs.AnchorRules.{read_fault, anchor_count_fault, no_anchor}
use Rattle.anchors.specs.AnchorEntries.{AnchorsGiven}
use Rattle.anchors_parts.specs.LabelTables.{content_of}
use Rattle.anchors_content.specs.Given.{Lent}
use Rattle.anchors_content.specs.FirstFaults.{each_fault}
use Rattle.anchors_content.proofs.Giving.{content_fault, content-told}
use Rattle.anchors_content.proofs.content.content_fault.Goals as goal

pub returns-in_err-range_fault : goal.returns-in_err-range_fault
unfolding content_fault
returns-in_err-range_fault c =
    let v = c.content.view_is in
    let g = c.args.content.now in
    let h = subst Lent v c.content.invariant in
    let p = err_from_is_err_and c.from_residual.result c.from_residual.ensures.1 in
    rw (p.1, p.2) (sym (content-told (content_of c.args.labels.now) g h.r h.n h.numbers ∙ refused _ _ _ (c.in_err-range_fault.ensures ∙ ap (λ (t : AnchorsGiven). read_fault t.r) v)))

pub returns-in_err-letters_fault : goal.returns-in_err-letters_fault
unfolding content_fault
returns-in_err-letters_fault c =
    let v = c.content.view_is in
    let g = c.args.content.now in
    let h = subst Lent v c.content.invariant in
    let r = rw (ap (λ (t : AnchorsGiven). t.r) v) at c.in_ok-range_fault.ensures in
    let few : g.r ≤ length g.buffers.letters = omega (arith, (within 1 g.r g.r most_read (sym r)).1, h.letters) in
    let front = letters-front g.r g.buffers.letters few in
    let l = rw c.read.ensures at c.in_err-letters_fault.ensures in
    let p = err_from_is_err_and c.from_residual-in_err-letters_fault.result c.from_residual-in_err-letters_fault.ensures.1 in
    rw (p.1, p.2) (sym (content-told (content_of c.args.labels.now) g h.r h.n h.numbers ∙ taken _ _ (c.in_ok-range_fault.ensures ∙ ap (λ (t : AnchorsGiven). read_fault t.r) v) ∙ refused _ _ _ (l ∙ front)))

pub returns-in_err-range_fault-2 : goal.returns-in_err-range_fault-2
unfolding content_fault
returns-in_err-range_fault-2 c =
    let v = c.content.view_is in
    let g = c.args.content.now in
    let h = subst Lent v c.content.invariant in
    let r = rw (ap (λ (t : AnchorsGiven). t.r) v) at c.in_ok-range_fault.ensures in
    let few : g.r ≤ length g.buffers.letters = omega (arith, (within 1 g.r g.r most_read (sym r)).1, h.letters) in
    let front = letters-front g.r g.buffers.letters few in
    let l = rw c.read.ensures at c.in_ok-letters_fault.ensures in
    let p = err_from_is_err_and c.from_residual-in_err-range_fault-2.result c.from_residual-in_err-range_fault-2.ensures.1 in
    rw (p.1, p.2) (sym (content-told (content_of c.args.labels.now) g h.r h.n h.numbers ∙ taken _ _ (c.in_ok-range_fault.ensures ∙ ap (λ (t : AnchorsGiven). read_fault t.r) v) ∙ taken _ _ (l ∙ front) ∙ refused _ _ _ (c.in_err-range_fault-2.ensures ∙ ap (λ (t : AnchorsGiven). anchor_count_fault t.n) v)))

pub returns : goal.returns
unfolding content_fault
returns c =
    let v = c.content.view_is in
    let g = c.args.content.now in
    let h = subst Lent v c.content.invariant in
    let r = rw (ap (λ (t : AnchorsGiven). t.r) v) at c.in_ok-range_fault.ensures in
    let few : g.r ≤ length g.buffers.letters = omega (arith, (within 1 g.r g.r most_read (sym r)).1, h.letters) in
    let front = letters-front g.r g.buffers.letters few in
    let l = rw c.read.ensures at c.in_ok-letters_fault.ensures in
    let read = ap (λ (t : List ℕ). each_fault (content_of c.args.labels.now) t g.n 0 no_anchor g.buffers.anchors) (numbers_part g.r 0 g.buffers.letters (omega arith)) in
    c.each_fault.ensures ∙ read ∙ sym (content-told (content_of c.args.labels.now) g h.r h.n h.numbers ∙ taken _ _ (c.in_ok-range_fault.ensures ∙ ap (λ (t : AnchorsGiven). read_fault t.r) v) ∙ taken _ _ (l ∙ front) ∙ taken _ _ (c.in_ok-range_fault-2.ensures ∙ ap (λ (t : AnchorsGiven). anchor_count_fault t.n) v))
