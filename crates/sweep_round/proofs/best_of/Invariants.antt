use mathlib.Core.Path.{◌≡◌}
use Rattle.sweep_round.specs.Round.{best_in}
use Rattle.sweep_round.proofs.best_of.Given as goal

abbrev pub invariant-loop-i : goal.invariant-loop-i
invariant-loop-i l = l.best ≡ best_in l.ends l.scores l.row l.own l.to.v l.to.x l.to.c l.to.weight l.i
