use mathlib.Core.Path.{refl, ◌∙◌}
use Rattle.steps.proofs.RowLaws.{row_over}
use Rattle.steps.proofs.SettingLaws.{anchor-fits, row_fits}
use Rattle.named_chain.proofs.WayLaws.{origin_by}
use Rattle.named_chain.proofs.came_from.Goals as goal

pub make_row-requires : goal.make_row-requires
make_row-requires c =
    let z = rw (← c.s.view_is) at c.requires.scored in
    let w = rw (← c.s.view_is) at c.requires.within in
    let to = rw (← c.s.view_is) at c.start-to.ensures in
    record { within = (rw to (anchor-fits z.holds c.args.j w.0).vertex, w.1) }

pub giver-requires-clause-row_fits : goal.giver-requires-clause-row_fits
giver-requires-clause-row_fits c =
    let s = c.s.inside in
    let z = rw (← c.s.view_is) at c.requires.scored in
    let w = rw (← c.s.view_is) at c.requires.within in
    let to = rw (← c.s.view_is) at c.start-to.ensures in
    let row = rw to at (c.make_row.ensures ∙ row_over s.tables s.count s.numbers.now s.ends _) in
    rw (row, z.size) (row_fits z.holds _ (anchor-fits z.holds c.args.j w.0).vertex c.args.j w.0 refl)

pub giver-requires-clause-x_le_most_read : goal.giver-requires-clause-x_le_most_read
giver-requires-clause-x_le_most_read c =
    let z = rw (← c.s.view_is) at c.requires.scored in
    let w = rw (← c.s.view_is) at c.requires.within in
    let to = rw (← c.s.view_is) at c.start-to.ensures in
    let f = anchor-fits z.holds c.args.j w.0 in
    rw to (f.x.high, f.c.high, f.x.low)

pub returns : goal.returns
returns c =
    let s = c.s.inside in
    let z = rw (← c.s.view_is) at c.requires.scored in
    let w = rw (← c.s.view_is) at c.requires.within in
    let to = rw (← c.s.view_is) at c.start-to.ensures in
    let row = rw to at (c.make_row.ensures ∙ row_over s.tables s.count s.numbers.now s.ends _) in
    rw (← c.s.view_is) (origin_by z c.args.j w.0 c.giver.result _ (λ e. c.if-score-to.false (rw to e)) row (rw to at c.giver.ensures))
