use Rattle.std.proofs.Common.{◌≡◌, refl, sym, ap, ◌∙◌, ℕ, length, arith}
use Rattle.graph_fill.specs.Filling.{items, one_number, numbers_in}
use Rattle.graph_fill.proofs.Items.{content-more, next_more, length-items}
use Rattle.graph_fill.proofs.Fronts.{front-more, front-whole}
use Rattle.graph_fill.proofs.numbers.take_numbers.Goals as goal

pub loop-place-init : goal.loop-place-init
unfolding items
loop-place-init c = (refl, refl)

pub loop-place-preserved : goal.loop-place-preserved
loop-place-preserved c =
    let l = c.loop-place in
    let a = c.args in
    let one = one_number a.file.now in
    let i = l.place-index in
    let v = c.take_number.ensures.0 ∙ ap (λ (k : ℕ). (one k).content) l.invariant.1 in
    let n = c.take_number.ensures.1 ∙ ap (λ (k : ℕ). (one k).next) l.invariant.1 in (
      front-more (numbers_in a.file.now i a.start.at).content _ l.out a.out.now i _ (length-items one i a.start.at) (omega arith) l.invariant.0
          (content-more one i a.start.at ∙ rw (← v)),
      n ∙ sym (next_more one i a.start.at),
    )

pub returns : goal.returns
returns c =
    let l = c.loop-place in
    let a = c.args in
    let e : l.place-index ≡ length a.out.now = omega arith in
    let long = length-items (one_number a.file.now) (length a.out.now) a.start.at in
    (l.invariant.1 ∙ rw e, l.invariant.0 ∙ rw e (front-whole _ a.out.now (omega (arith, long))))
