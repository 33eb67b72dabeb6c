-- The loop over rounds: how it begins. Assumes nothing.
use Prim.Native.Nat.{ℕ, ◌-◌, ◌≤◌}
use mathlib.Core.Path.{◌≡◌}
use mathlib.Core.Bool.{true}
use mathlib.Core.List.{List, [], ◌∷◌}
use native.Mathlib.Omega.{arith}
use lib.ListN.{length}
use Rattle.rounds.proofs.Turns.{Looping, loop_start}
use Rattle.graph.specs.Content.{Graph}
use Rattle.anchors.specs.Anchors.{AnchorSet}
use Rattle.steps.specs.Setting.{Setting, Holds}
use Rattle.steps.specs.Scores.{ScoresLow}
use Rattle.steps.proofs.EachLaws.{each-length, each_at}
use Rattle.steps.proofs.SettingLaws.{anchor-fits}
use Rattle.sweep_round.specs.Round.{round_of}
use Rattle.sweep_engine.specs.Sweeping.{weights_of, SweptIn, empty}
use Rattle.sweep_engine.proofs.SweepHeld.{sweep-ends}

module _ {s : Setting} {g : Graph} {a : AnchorSet} (H : Holds s g a) where
  -- at the start a score is a weight
  low-start : ScoresLow s (weights_of s)
  low-start = record {
    size = each-length (λ A. A.weight) s.numbers s.count;
    low = λ j w.
        let f = anchor-fits H j w in
        let h = f.weight.high in
        let l = f.c.low in
        omega (arith, each_at (λ A. A.weight) s.numbers s.count (j - 1) (omega arith));
  }

-- with no anchors there are no scores, and no rounds
pub swept_none : (s : Setting) (t : List ℕ) → s.count ≡ 0 → length t ≡ s.count → SweptIn s 0 t
swept_none s [] e l = empty e
swept_none s (x ∷ t) e l = absurd (omega arith)

-- the scores at their start, with all rounds to come
pub sweep_begins : {s : Setting} {g : Graph} {a : AnchorSet} → Holds s g a → 1 ≤ s.count → (t : List ℕ) → t ≡ weights_of s
    → ScoresLow s t × Looping s.count (round_of s) (weights_of s) 0 t true
sweep_begins H l t e = rw e (low-start H, loop_start (sweep-ends H l))
