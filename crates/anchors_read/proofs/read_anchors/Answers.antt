use Rattle.std.proofs.Common.{ℕ, sym, arith, length-take}
use Rattle.anchors.proofs.AnchorRooms.{full_buffers}
use Rattle.anchors.proofs.AnchorFaults.{both-refused}
use Rattle.anchors_read.proofs.Promised.{lent, room, refusal_found, small-answered, fault-answered, ready, accepted-answered}
use Rattle.anchors_read.proofs.read_anchors.Goals as goal

pub returns-then-not-roomy : goal.returns-then-not-roomy
returns-then-not-roomy c =
    let a = c.args in
    small-answered _ _ (lent a.letters.now a.anchors.now) _ (room (lent a.letters.now a.anchors.now) c.roomy.ensures c.if-not-roomy.true) c.refusal.ensures

pub returns-in-Err : goal.returns-in-Err
returns-in-Err c =
    let a = c.args in
    fault-answered _ _ (lent a.letters.now a.anchors.now) _ _ _ _ (room (lent a.letters.now a.anchors.now) c.roomy.ensures c.if-not-roomy.false)
    (refusal_found _ _ _ _ (sym c.in-Err.ensures))
    (rw c.from.ensures at c.refusal-in-Err.ensures)

pub returns-in-Ok : goal.returns-in-Ok
returns-in-Ok c =
    let a = c.args in
    accepted-answered _ _ (lent a.letters.now a.anchors.now) c.in-Ok.a _ _ _
    (room (lent a.letters.now a.anchors.now) c.roomy.ensures c.if-not-roomy.false)
    (ready _ _ _ _ (sym c.in-Ok.ensures))
    _
    _
    (omega arith)
    (omega arith)
    c.fill_read.ensures
    c.fill_anchors.ensures
    c.acceptance.ensures

pub overflow_cast-found : goal.overflow_cast-found
overflow_cast-found c = omega (arith, (both-refused _ _ _ _ _ (refusal_found _ _ _ _ (sym c.in-Err.ensures))).near)

pub overflow_add-read : goal.overflow_add-read
overflow_add-read c = omega (arith, (ready _ _ _ _ (sym c.in-Ok.ensures)).read_within)

pub slice_bounds-read-end : goal.slice_bounds-read-end
slice_bounds-read-end c = omega (arith, (ready _ _ _ _ (sym c.in-Ok.ensures)).read_within)

pub fill_read-requires : goal.fill_read-requires
fill_read-requires c =
    let a = c.args in
    let f = ready _ _ _ _ (sym c.in-Ok.ensures) in
    (omega (arith, f.few_read, length-take {A = ℕ}), (full_buffers _ (room (lent a.letters.now a.anchors.now) c.roomy.ensures c.if-not-roomy.false)).0)

pub fill_anchors-requires : goal.fill_anchors-requires
fill_anchors-requires c =
    let a = c.args in
    ((ready _ _ _ _ (sym c.in-Ok.ensures)).few_anchors, (full_buffers _ (room (lent a.letters.now a.anchors.now) c.roomy.ensures c.if-not-roomy.false)).1)
