use Prim.Native.Nat.{◌-◌}
use mathlib.Core.Path.{◌≡◌}
use lib.ListN.{length}
use Rattle.rounds.proofs.Turns.{Looping}
use Rattle.sweep_round.specs.Round.{round_of}
use Rattle.sweep_engine.specs.Sweeping.{weights_of}
use Rattle.steps.specs.Scores.{ScoresLow}
use Rattle.sweep_engine.proofs.sweep_scores.Given as goal

abbrev pub invariant-loop-changed : goal.invariant-loop-changed
invariant-loop-changed l = (length l.row ≡ l.s.n) × ScoresLow l.s l.scores × Looping l.s.count (round_of l.s) (weights_of l.s) l.rounds l.scores l.changed

abbrev pub decreases-loop-changed : goal.decreases-loop-changed
decreases-loop-changed l = l.s.count - l.rounds
