use mathlib.Core.Path.{◌∙◌}
use Rattle.steps.proofs.RowLaws.{row_over, stands_over}
use Rattle.plain_engine.proofs.PlainLaws.{next_fits, next_row, next_back, next_best}
use Rattle.plain_engine.proofs.take_anchor.Goals as goal

pub row_for-requires : goal.row_for-requires
row_for-requires c =
    let o = rw (← c.s.view_is) at c.requires.read_order in
    let b = rw (← c.s.view_is) at c.requires.best_first in
    let w = rw (← c.s.view_is) at c.requires.row_len in
    let to = rw (← c.s.view_is) at c.start-to.ensures in
    record { within = (rw to (next_fits c.s.invariant o.0 o.1 b).vertex, w.0, stands_over _ _ _ _ _ _ w.1) }

pub look_back-requires-clause-row_fits : goal.look_back-requires-clause-row_fits
look_back-requires-clause-row_fits c =
    let s = c.s.inside in
    let o = rw (← c.s.view_is) at c.requires.read_order in
    let b = rw (← c.s.view_is) at c.requires.best_first in
    let to = rw (← c.s.view_is) at c.start-to.ensures in
    next_row c.s.invariant o.0 o.1 b _ (rw to at (c.row_for.ensures ∙ row_over s.tables s.count s.numbers.now s.ends _))

pub look_back-requires-clause-looks_back : goal.look_back-requires-clause-looks_back
look_back-requires-clause-looks_back c =
    let o = rw (← c.s.view_is) at c.requires.read_order in
    let b = rw (← c.s.view_is) at c.requires.best_first in
    next_back c.s.invariant o.0 o.1 b

pub look_back-requires-clause-x_le_most_read : goal.look_back-requires-clause-x_le_most_read
look_back-requires-clause-x_le_most_read c =
    let o = rw (← c.s.view_is) at c.requires.read_order in
    let b = rw (← c.s.view_is) at c.requires.best_first in
    let to = rw (← c.s.view_is) at c.start-to.ensures in
    let f = next_fits c.s.invariant o.0 o.1 b in
    rw to (f.x.high, f.c.high, f.x.low, f.weight.high)

pub returns-clause-best_first_2 : goal.returns-clause-best_first_2
returns-clause-best_first_2 c =
    let s = c.s.inside in
    let o = rw (← c.s.view_is) at c.requires.read_order in
    let b = rw (← c.s.view_is) at c.requires.best_first in
    let to = rw (← c.s.view_is) at c.start-to.ensures in
    rw (← c.s.view_is) (next_best c.s.invariant o.0 o.1 b _ (rw to at (c.row_for.ensures ∙ row_over s.tables s.count s.numbers.now s.ends _)) (rw to at c.look_back.ensures))

pub returns-clause-stands : goal.returns-clause-stands
returns-clause-stands c =
    let s = c.s.inside in
    rw (← c.s.view_is) (c.row_for.ensures ∙ row_over s.tables s.count s.numbers.now s.ends _)
