use Rattle.std.proofs.Common.{◌≡◌, refl, sym, ap, subst, length, length-append, arith}
use Rattle.std.proofs.lemmas.List.{append-nil}
use Rattle.wire.specs.Sizes.{anchor_kind}
use Rattle.wire.specs.Numbers.{encode}
use Rattle.graph_bytes.proofs.Along.{along-first, along_as, along_lent, along-more, along-done}
use Rattle.anchors.specs.AnchorEntries.{AnchorsGiven}
use Rattle.anchors.proofs.AnchorGiven.{set-bytes}
use Rattle.anchors_content.specs.Given.{Lent}
use Rattle.anchors_bytes.proofs.Sizing.{bytes_parts}
use Rattle.anchors_bytes.proofs.put_anchors.Goals as goal

pub put_number-at-requires : goal.put_number-at-requires
put_number-at-requires c =
    omega (arith, c.requires.room, simp length-append at (ap length (set-bytes c.args.content.now)))

pub put_number-at-requires-2 : goal.put_number-at-requires-2
put_number-at-requires-2 c =
    let g = c.args.content.now in
    let h = subst Lent c.content.view_is c.content.invariant in
    let r : c.content.inside.r ≡ g.r = ap (λ (h : AnchorsGiven). h.r) c.content.view_is in
    let n : c.content.inside.n ≡ g.n = ap (λ (h : AnchorsGiven). h.n) c.content.view_is in
    let parts = bytes_parts g (omega (arith, c.requires.few.0, h.letters)) (omega (arith, c.requires.few.1, h.anchors)) in
    let p1 = c.put_number-at.ensures in
    let a1 = along-first _ (encode anchor_kind) _ _ _ _ parts c.requires.room p1.0 p1.1 in
    rw r (along_lent _ _ _ _ _ _ a1)

pub put_letters-at-requires : goal.put_letters-at-requires
put_letters-at-requires c =
    let g = c.args.content.now in
    let h = subst Lent c.content.view_is c.content.invariant in
    let r : c.content.inside.r ≡ g.r = ap (λ (h : AnchorsGiven). h.r) c.content.view_is in
    let n : c.content.inside.n ≡ g.n = ap (λ (h : AnchorsGiven). h.n) c.content.view_is in
    let parts = bytes_parts g (omega (arith, c.requires.few.0, h.letters)) (omega (arith, c.requires.few.1, h.anchors)) in
    let p1 = c.put_number-at.ensures in
    let a1 = along-first _ (encode anchor_kind) _ _ _ _ parts c.requires.room p1.0 p1.1 in
    let p2 = rw r at c.put_number-at-2.ensures in
    let a2 = along-more _ _ _ _ _ c.put_number-at-2.new.out _ c.put_number-at-2.result a1 p2.0 p2.1 in
    rw c.read.ensures (along_lent _ _ _ _ _ _ a2)

pub put_number-at-requires-3 : goal.put_number-at-requires-3
put_number-at-requires-3 c =
    let g = c.args.content.now in
    let h = subst Lent c.content.view_is c.content.invariant in
    let r : c.content.inside.r ≡ g.r = ap (λ (h : AnchorsGiven). h.r) c.content.view_is in
    let n : c.content.inside.n ≡ g.n = ap (λ (h : AnchorsGiven). h.n) c.content.view_is in
    let parts = bytes_parts g (omega (arith, c.requires.few.0, h.letters)) (omega (arith, c.requires.few.1, h.anchors)) in
    let p1 = c.put_number-at.ensures in
    let a1 = along-first _ (encode anchor_kind) _ _ _ _ parts c.requires.room p1.0 p1.1 in
    let p2 = rw r at c.put_number-at-2.ensures in
    let a2 = along-more _ _ _ _ _ c.put_number-at-2.new.out _ c.put_number-at-2.result a1 p2.0 p2.1 in
    let p3 = rw c.read.ensures at c.put_letters-at.ensures in
    let a3 = along-more _ _ _ _ _ c.put_letters-at.new.out _ c.put_letters-at.result a2 p3.0 p3.1 in
    rw n (along_lent _ _ _ _ _ _ a3)

pub put_numbers-at-requires : goal.put_numbers-at-requires
put_numbers-at-requires c =
    let g = c.args.content.now in
    let h = subst Lent c.content.view_is c.content.invariant in
    let r : c.content.inside.r ≡ g.r = ap (λ (h : AnchorsGiven). h.r) c.content.view_is in
    let n : c.content.inside.n ≡ g.n = ap (λ (h : AnchorsGiven). h.n) c.content.view_is in
    let parts = bytes_parts g (omega (arith, c.requires.few.0, h.letters)) (omega (arith, c.requires.few.1, h.anchors)) in
    let p1 = c.put_number-at.ensures in
    let a1 = along-first _ (encode anchor_kind) _ _ _ _ parts c.requires.room p1.0 p1.1 in
    let p2 = rw r at c.put_number-at-2.ensures in
    let a2 = along-more _ _ _ _ _ c.put_number-at-2.new.out _ c.put_number-at-2.result a1 p2.0 p2.1 in
    let p3 = rw c.read.ensures at c.put_letters-at.ensures in
    let a3 = along-more _ _ _ _ _ c.put_letters-at.new.out _ c.put_letters-at.result a2 p3.0 p3.1 in
    let p4 = rw n at c.put_number-at-3.ensures in
    let a4 = along_as _ (sym (append-nil _)) (along-more _ _ _ _ _ c.put_number-at-3.new.out _ c.put_number-at-3.result a3 p4.0 p4.1) in
    rw c.anchor_numbers.ensures (along_lent _ _ _ _ _ _ a4)

pub returns : goal.returns
returns c =
    let g = c.args.content.now in
    let h = subst Lent c.content.view_is c.content.invariant in
    let r : c.content.inside.r ≡ g.r = ap (λ (h : AnchorsGiven). h.r) c.content.view_is in
    let n : c.content.inside.n ≡ g.n = ap (λ (h : AnchorsGiven). h.n) c.content.view_is in
    let parts = bytes_parts g (omega (arith, c.requires.few.0, h.letters)) (omega (arith, c.requires.few.1, h.anchors)) in
    let p1 = c.put_number-at.ensures in
    let a1 = along-first _ (encode anchor_kind) _ _ _ _ parts c.requires.room p1.0 p1.1 in
    let p2 = rw r at c.put_number-at-2.ensures in
    let a2 = along-more _ _ _ _ _ c.put_number-at-2.new.out _ c.put_number-at-2.result a1 p2.0 p2.1 in
    let p3 = rw c.read.ensures at c.put_letters-at.ensures in
    let a3 = along-more _ _ _ _ _ c.put_letters-at.new.out _ c.put_letters-at.result a2 p3.0 p3.1 in
    let p4 = rw n at c.put_number-at-3.ensures in
    let a4 = along_as _ (sym (append-nil _)) (along-more _ _ _ _ _ c.put_number-at-3.new.out _ c.put_number-at-3.result a3 p4.0 p4.1) in
    let p5 = rw c.anchor_numbers.ensures at c.put_numbers-at.ensures in
    let a5 = along-more _ _ _ _ _ c.put_numbers-at.new.out _ c.put_numbers-at.result a4 p5.0 p5.1 in
    along-done _ _ _ _ _ a5 refl
