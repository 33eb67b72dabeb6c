use native.Mathlib.Omega.{arith}
use Rattle.steps.specs.Rowing.{tables}
use Rattle.placing_over.proofs.Settings.{over_tables}
use Rattle.placing_files.proofs.Read.{few_lie, front_is}
use Rattle.placing_files.proofs.place_read.Goals as goal

pub slice_bounds-reach-end : goal.slice_bounds-reach-end
slice_bounds-reach-end g c = let P = c.requires.some_read in omega (arith, few_lie (c.make_ready-g.ensures P.parsed P.found), c.make_ready-g.auto.reach)

pub slice_bounds-tables-end-3 : goal.slice_bounds-tables-end-3
slice_bounds-tables-end-3 g c = let P = c.requires.some_read in front_is _ _ (omega (arith, few_lie (c.make_ready-g.ensures P.parsed P.found), c.make_ready-g.auto.reach))

pub slice_bounds-distance-end : goal.slice_bounds-distance-end
slice_bounds-distance-end g c = let P = c.requires.some_read in omega (arith, few_lie (c.make_ready-g.ensures P.parsed P.found), c.make_ready-g.auto.distance)

pub slice_bounds-tables-end-4 : goal.slice_bounds-tables-end-4
slice_bounds-tables-end-4 g c = let P = c.requires.some_read in front_is _ _ (omega (arith, few_lie (c.make_ready-g.ensures P.parsed P.found), c.make_ready-g.auto.distance))

pub slice_bounds-closed-end : goal.slice_bounds-closed-end
slice_bounds-closed-end g c = let P = c.requires.some_read in omega (arith, few_lie (c.make_ready-g.ensures P.parsed P.found), c.make_ready-g.auto.closed)

pub slice_bounds-tables-end-5 : goal.slice_bounds-tables-end-5
slice_bounds-tables-end-5 g c = let P = c.requires.some_read in front_is _ _ (omega (arith, few_lie (c.make_ready-g.ensures P.parsed P.found), c.make_ready-g.auto.closed))

pub invariant_of-tables : goal.invariant_of-tables
invariant_of-tables g c = let P = c.requires.some_read in over_tables {t = tables _ _ _ _ _ _ _} (record { tables = c.make_ready-g.ensures P.parsed P.found; anchors = P.anchors })

pub place_over-requires-clause-some_over : goal.place_over-requires-clause-some_over
place_over-requires-clause-some_over g c =
    let P = c.requires.some_read in
    record { g = P.parsed.graph; a = P.a; over = record { tables = c.make_ready-g.ensures P.parsed P.found; anchors = P.anchors } }
