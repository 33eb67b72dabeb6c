use mathlib.Core.Path.{sym}
use native.Mathlib.Omega.{arith}
use Rattle.wire.specs.Sizes.{full_lengths}
use Rattle.wire_lent.proofs.Rooms.{room-long}
use Rattle.anchors_parts.proofs.LabelLaws.{few-vertices}
use Rattle.anchors_view.proofs.Viewing.{none-told, past-told, labels-told, five-there, neither-told, vertex-told, label-fits, read-fits, label-told, read-told}
use Rattle.anchors_view.proofs.view.view.Goals as goal
use Rattle.anchors_view.proofs.view.view.Goals.{then-number-lt1-via-then-number-lt1, then-number-lt1-via-else-number-lt1+then-a-number}

pub returns-then-number-lt1 : goal.returns-then-number-lt1
returns-then-number-lt1 c =
    let a = c.args in
    elim c.then-number-lt1.branch [
      | then-number-lt1-via-then-number-lt1 w ↦ sym (none-told a.graph.now a.anchors.now c.in-Ok.ensures a.number a.file (omega arith))
      | then-number-lt1-via-else-number-lt1+then-a-number w ↦ sym (past-told a.graph.now a.anchors.now c.in-Ok.ensures a.number a.file (omega arith))
    ]

pub returns-in_default-five_after : goal.returns-in_default-five_after
returns-in_default-five_after c =
    let a = c.args in
    absurd (five-there a.graph.now a.anchors.now c.in-Ok.ensures a.number a.file (λ i. (c.type_inv.graph i).fits) (omega arith) (omega arith) c.in_default-five_after.ensures)

pub of-labels-requires-clause-labels_at : goal.of-labels-requires-clause-labels_at
of-labels-requires-clause-labels_at c = let a = c.args in labels-told a.graph.now a.anchors.now c.in-Ok.ensures a.number a.file

pub of-labels-requires-clause-room : goal.of-labels-requires-clause-room
of-labels-requires-clause-room c =
    let a = c.args in
    let k = few-vertices _ _ _ (labels-told a.graph.now a.anchors.now c.in-Ok.ensures a.number a.file) in
    (omega (arith, k, room-long full_lengths c.zeros-starts.ensures), omega (arith, k, room-long full_lengths c.zeros-lengths.ensures))

pub start-requires : goal.start-requires
start-requires c =
    let a = c.args in
    let v = vertex-told a.graph.now a.anchors.now c.in-Ok.ensures a.number a.file (λ i. (c.type_inv.graph i).fits) (omega arith) (omega arith) c.in-Ok-five_after.ensures in
    record { le_v = (v.0, rw c.of-labels.ensures v.1) }

pub overflow_sub-result : goal.overflow_sub-result
overflow_sub-result c =
    let a = c.args in
    (label-fits a.graph.now a.anchors.now c.in-Ok.ensures a.number a.file (λ i. (c.type_inv.graph i).fits) (omega arith) (omega arith) c.in-Ok-five_after.ensures).0

pub overflow_add-result : goal.overflow_add-result
overflow_add-result c =
    let a = c.args in
    let f = label-fits a.graph.now a.anchors.now c.in-Ok.ensures a.number a.file (λ i. (c.type_inv.graph i).fits) (omega arith) (omega arith) c.in-Ok-five_after.ensures in
    let e = rw c.of-labels.ensures at c.start.ensures in
    record { fits = omega (arith, e, f) }

pub overflow_cast-result : goal.overflow_cast-result
overflow_cast-result c =
    let a = c.args in
    let f = read-fits a.graph.now a.anchors.now c.in-Ok.ensures a.number a.file (λ i. (c.type_inv.graph i).fits) (omega arith) (omega arith) c.in-Ok-five_after.ensures in
    record { fits = omega (arith, f) }

pub overflow_sub-result-in-2 : goal.overflow_sub-result-in-2
overflow_sub-result-in-2 c =
    let a = c.args in
    (read-fits a.graph.now a.anchors.now c.in-Ok.ensures a.number a.file (λ i. (c.type_inv.graph i).fits) (omega arith) (omega arith) c.in-Ok-five_after.ensures).0

pub overflow_add-result-in-2 : goal.overflow_add-result-in-2
overflow_add-result-in-2 c =
    let a = c.args in
    let f = read-fits a.graph.now a.anchors.now c.in-Ok.ensures a.number a.file (λ i. (c.type_inv.graph i).fits) (omega arith) (omega arith) c.in-Ok-five_after.ensures in
    record { fits = omega (arith, f) }

pub returns-in-1 : goal.returns-in-1
returns-in-1 c =
    let a = c.args in
    let e = rw c.of-labels.ensures at c.start.ensures in
    rw e
    (sym (label-told a.graph.now a.anchors.now c.in-Ok.ensures a.number a.file (λ i. (c.type_inv.graph i).fits) (omega arith) (omega arith) c.in-Ok-five_after.ensures c.in-1.is))

pub returns-in-2 : goal.returns-in-2
returns-in-2 c =
    let a = c.args in
    sym (read-told a.graph.now a.anchors.now c.in-Ok.ensures a.number a.file (λ i. (c.type_inv.graph i).fits) (omega arith) (omega arith) c.in-Ok-five_after.ensures c.in-2.is)

pub returns-in_default-file : goal.returns-in_default-file
returns-in_default-file c =
    let a = c.args in
    sym (neither-told a.graph.now a.anchors.now c.in-Ok.ensures a.number a.file (λ i. (c.type_inv.graph i).fits) (omega arith) (omega arith) (λ z. omega arith) (λ z. omega arith))
