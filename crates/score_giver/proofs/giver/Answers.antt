use native.Mathlib.Omega.{arith}
use Rattle.score_giver.specs.Giver.{GivesIn}
use Rattle.score_giver.proofs.GiverLaws.{none_more, lowest_here, gives_in, gives_other, gives_none}
use Rattle.score_giver.proofs.giver.Goals as goal
use Rattle.score_giver.proofs.giver.Goals.{in-Some+else-gives, in_default}

pub returns-then-gives : goal.returns-then-gives
returns-then-gives c =
    let a = c.args in
    lowest_here (GivesIn a.ends.now a.scores.now a.row.now a.score a.to.v a.to.x a.to.c a.to.weight) _ c.loop-i.i (omega arith) c.loop-i.invariant
    (gives_in a.ends.now a.scores.now a.row.now a.score a.to.v a.to.x a.to.c a.to.weight c.loop-i.i _ (rw c.at.ensures at c.in-Some.ensures) (c.gives.ensures.moved c.if-gives.true))

pub loop-i-preserved : goal.loop-i-preserved
loop-i-preserved c =
    let a = c.args in
    let l = c.loop-i in
    none_more (GivesIn a.ends.now a.scores.now a.row.now a.score a.to.v a.to.x a.to.c a.to.weight) l.i l.invariant (elim c.match-step.branch [
      | in-Some+else-gives w ↦ gives_other a.ends.now a.scores.now a.row.now a.score a.to.v a.to.x a.to.c a.to.weight l.i _ (rw c.at.ensures at w.in-Some.ensures) (w.gives.ensures.still w.if-gives.false)
      | in_default w ↦ gives_none a.ends.now a.scores.now a.row.now a.score a.to.v a.to.x a.to.c a.to.weight l.i (rw c.at.ensures at w.in_default.ensures)
    ])
