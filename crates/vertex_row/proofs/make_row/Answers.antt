use mathlib.Core.Path.{◌≡◌, sym, ◌∙◌}
use native.Mathlib.Omega.{arith}
use Rattle.std.proofs.Common.{rules}
use Rattle.cover.specs.Row.{unknown}
use Rattle.steps.proofs.RowTurns.{backs-start, row_made}
use Rattle.steps.proofs.RowLaws.{held-closed, lent_fits, lent_turn}
use Rattle.vertex_row.proofs.make_row.Goals as goal

pub loop-i-init : goal.loop-i-init
unfolding unknown
loop-i-init c =
    let w = rw (← c.t.view_is) at c.requires.within in
    let r : c.fill.new.self ≡ unknown c.t.inside.n = search (rules, w.1) in
    rw (← c.t.view_is)
    (c.fill.auto.self ∙ w.1, r ∙ sym (backs-start _ c.args.v (unknown c.t.inside.n)))

pub back_along-requires : goal.back_along-requires
back_along-requires c =
    let l = c.loop-i in
    let w = rw (← c.t.view_is) at c.requires.within in
    let long = rw (← c.t.view_is) at l.invariant.0 in
    rw long (lent_fits _ c.args.v l.i c.t.invariant.holds w.0 (omega arith))

pub loop-i-preserved : goal.loop-i-preserved
loop-i-preserved c =
    let l = c.loop-i in
    let i = rw (← c.t.view_is) at l.invariant in
    rw (← c.t.view_is)
    (c.back_along.auto.row ∙ i.0, c.back_along.ensures ∙ sym (rw i.1 (lent_turn _ c.args.v l.i (unknown c.t.inside.n))))

pub closed_entry-requires : goal.closed_entry-requires
closed_entry-requires c =
    let w = rw (← c.t.view_is) at c.requires.within in
    omega (arith, held-closed c.t.invariant.holds c.args.v w.0)

pub returns : goal.returns
returns c =
    let l = c.loop-i in
    let i = rw (← c.t.view_is) at l.invariant in
    let e : l.i ≡ c.t.inside.k = omega (arith, c.loop-i-test.false) in
    rw (← c.t.view_is)
    (row_made _ c.args.v l.row c.closed_entry.result (rw e at i.1) c.closed_entry.ensures)
