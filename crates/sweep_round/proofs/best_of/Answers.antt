use mathlib.Core.Path.{sym}
use native.Mathlib.Omega.{arith}
use Rattle.sweep_round.proofs.BestLaws.{best_none, best_skip, best-take}
use Rattle.sweep_round.proofs.best_of.Goals as goal
use Rattle.sweep_round.proofs.best_of.Goals.{in-Some, in_default}

pub loop-i-init : goal.loop-i-init
loop-i-init c =
    let a = c.args in
    sym (best_none a.ends.now a.scores.now a.row.now a.own a.to.v a.to.x a.to.c a.to.weight)

pub loop-i-preserved : goal.loop-i-preserved
loop-i-preserved c =
    let a = c.args in
    let l = c.loop-i in
    elim c.match-step.branch [
      | in-Some w ↦
          let e = rw c.at.ensures at w.in-Some.ensures in
          omega (arith, w.best-is, w.raised-best.ensures, e, best-take a.ends.now a.scores.now a.row.now a.own a.to.v a.to.x a.to.c a.to.weight l.i (omega (arith, e)))
      | in_default w ↦
          let e = rw c.at.ensures at w.in_default.ensures in
          omega (arith, w.best-is, best_skip a.ends.now a.scores.now a.row.now a.own a.to.v a.to.x a.to.c a.to.weight l.i e)
    ]
