use mathlib.Core.Path.{◌≡◌}
use lib.ListN.{length}
use Rattle.steps.specs.Rowing.{Stands}
use Rattle.sweep_round.proofs.RoundTurns.{RoundInv}
use Rattle.sweep_round.proofs.sweep_round.Given as goal

abbrev pub invariant-loop-j : goal.invariant-loop-j
invariant-loop-j l = (length l.row ≡ l.s.n) × Stands l.s l.stands l.row × RoundInv l.s l.initial.scores l.j l.scores l.changed
