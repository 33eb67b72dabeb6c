use mathlib.Core.Path.{◌≡◌}
use lib.ListN.{length}
use Rattle.wire.specs.Lent.{front}
use Rattle.steps.specs.Filling.{each_of}
use Rattle.sweep_engine.proofs.start_scores.Given as goal

abbrev pub invariant-loop-j : goal.invariant-loop-j
invariant-loop-j l = (length l.scores ≡ length l.initial.scores) × (l.scores ≡ front (each_of (λ a. a.weight) l.s.numbers l.j) l.initial.scores)
