use mathlib.Core.Path.{◌∙◌}
use Rattle.plain_look.proofs.LookLaws.{look_skip, look_take}
use Rattle.plain_look.proofs.look_back.Goals as goal
use Rattle.plain_look.proofs.look_back.Goals.{in-Some, in_default}

pub loop-j-preserved : goal.loop-j-preserved
loop-j-preserved c =
    elim c.match-step.branch [
      | in-Some w ↦ look_take c.args.taken.now c.loop-j.j-index c.loop-j.invariant _ (rw c.at.ensures at w.in-Some.ensures) (w.best-is ∙ w.raised-best.ensures)
      | in_default w ↦ rw w.best-is (look_skip c.args.taken.now c.loop-j.j-index c.loop-j.invariant (rw c.at.ensures at w.in_default.ensures))
    ]
