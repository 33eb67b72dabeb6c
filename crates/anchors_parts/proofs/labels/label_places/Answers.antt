use native.Mathlib.Omega.{arith}
use Rattle.anchors_parts.proofs.LabelLaws.{filling_none, filling_stop, filling_fits, filling_more, filling-done}
use Rattle.anchors_parts.proofs.labels.label_places.Goals as goal

pub loop-i-init : goal.loop-i-init
loop-i-init c = filling_none (λ i. (c.type_inv.graph i).fits) c.requires.labels_at

pub returns-in_default : goal.returns-in_default
returns-in_default c =
    absurd (filling_stop (λ i. (c.type_inv.graph i).fits) c.requires.labels_at c.loop-i.invariant c.loop-i-test.true c.in_default.ensures)

pub overflow_cast-starts : goal.overflow_cast-starts
overflow_cast-starts c =
    record { fits = omega (arith, filling_fits (λ i. (c.type_inv.graph i).fits) c.requires.labels_at c.loop-i.invariant c.loop-i-test.true c.in-Ok.ensures) }

pub overflow_add-next : goal.overflow_add-next
overflow_add-next c =
    record { fits = omega (arith, filling_fits (λ i. (c.type_inv.graph i).fits) c.requires.labels_at c.loop-i.invariant c.loop-i-test.true c.in-Ok.ensures) }

pub loop-i-preserved : goal.loop-i-preserved
loop-i-preserved c =
    filling_more (λ i. (c.type_inv.graph i).fits) c.requires.labels_at c.loop-i.invariant c.loop-i-test.true (omega arith) (omega arith) c.in-Ok.ensures

pub returns : goal.returns
returns c = filling-done (λ i. (c.type_inv.graph i).fits) c.requires.labels_at c.loop-i.invariant (omega arith)
