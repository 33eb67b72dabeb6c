use Rattle.std.proofs.Common.{ℕ, ◌≡◌, ◌∙◌, refl, sym, ◌+◌, ◌-◌, length, drop, map, arith, length-drop}
use Rattle.std.proofs.lemmas.List.{length-map}
use mathlib.Core.List.{flatten}
use lib.ListN.{length-take}
use Rattle.wire.specs.Sizes.{full_letters, full_lengths}
use Rattle.wire.proofs.Laying.{laid-after}
use Rattle.wire.proofs.Rest.{rest_part}
use Rattle.graph_fill.specs.Filling.{one_label, labels_in}
use Rattle.graph_fill.proofs.Items.{length-items}
use Rattle.graph_fill.proofs.Fronts.{part-written}
use Rattle.graph_fill_front.proofs.LabelRuns.{labels-none, label_fits, labels-more}
use Rattle.graph_fill_front.proofs.labels.fill_labels.Goals as goal

pub loop-place-init : goal.loop-place-init
loop-place-init c = let a = c.args in labels-none a.file.now a.start a.letters.now _

pub overflow_add-end : goal.overflow_add-end
overflow_add-end c =
    let t = c.take_number-length.ensures in
    omega (arith, (label_fits c.args.n c.args.lengths.now c.requires.start_value t.0 t.1 c.loop-place.invariant c.loop-place-test.true).0)

pub slice_bounds-put_letters-end-in-loop-place : goal.slice_bounds-put_letters-end-in-loop-place
slice_bounds-put_letters-end-in-loop-place c =
    let t = c.take_number-length.ensures in
    omega (arith, (label_fits c.args.n c.args.lengths.now c.requires.start_value t.0 t.1 c.loop-place.invariant c.loop-place-test.true).0)

pub put_letters-sum-requires : goal.put_letters-sum-requires
put_letters-sum-requires c =
    let t = c.take_number-length.ensures in
    let f = label_fits c.args.n c.args.lengths.now c.requires.start_value t.0 t.1 c.loop-place.invariant c.loop-place-test.true in
    let r = c.take_number-length.result in
    rw (rest_part, length-drop) (omega (arith, f.1, length-take ((r.1.at + r.0) - r.1.at) (drop r.1.at c.args.file.now)))

pub loop-place-preserved : goal.loop-place-preserved
loop-place-preserved c =
    let t = c.take_number-length.ensures in
    let p = c.put_letters-sum.ensures in
    labels-more c.args.n c.args.lengths.now c.requires.start_value t.0 t.1 c.loop-place.invariant c.loop-place-test.true _ _ _ refl p.0 p.1

pub returns : goal.returns
returns c =
    let l = c.loop-place in
    let a = c.args in
    let s = a.file.now in
    let e : l.place-index ≡ a.n = omega (arith, length-take {A = ℕ}) in
    let all = (labels_in s a.n a.start).content in
    let long = length-map all length ∙ length-items (one_label s) a.n a.start in (
      c.zero_rest.ensures
          ∙ laid-after full_letters (flatten all) l.letters a.letters.now l.sum (sym (l.invariant.count ∙ rw e)) l.invariant.few (l.invariant.packed ∙ rw e),
      c.zero_rest-2.ensures
          ∙ laid-after full_lengths (map length all) _ a.lengths.now a.n long (omega arith)
          (part-written (map length all) a.lengths.now l.place-items a.n (omega arith) long (l.invariant.numbers ∙ rw e)),
    )
