-- The scores that the sweep leaves are the best of all chains, whatever is held. Assumes nothing.
use Prim.Native.Nat.{ℕ}
use mathlib.Core.List.{List}
use native.Mathlib.Omega.{arith}
use Rattle.rounds.proofs.Upto.{within}
use Rattle.steps.specs.Setting.{Setting}
use Rattle.steps.specs.Scores.{AllBest}
use Rattle.sweep_engine.specs.Sweeping.{SweptIn}
use Rattle.sweep_engine.proofs.SweepHeld.{swept-best}

pub swept_all : {s : Setting} {t : ℕ} {S : List ℕ} → SweptIn s t S → AllBest s S
swept_all p g a H j w = (swept-best H p).best j (within w.low (omega (arith, w.high, H.anchors_are)))
