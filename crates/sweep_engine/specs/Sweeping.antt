-- The sweep over a setting: where its scores start, and its rounds by the rule.
use Rattle.std.specs.Prelude.{ℕ, ◌≤◌, ◌≡◌, List, []}
use Rattle.rounds.specs.Rounds.{Rounds}
use Rattle.steps.specs.Setting.{Setting}
use Rattle.steps.specs.Filling.{each_of}
use Rattle.sweep_round.specs.Round.{round_of}

-- "scores start at the weights"
abbrev pub weights_of : Setting → List ℕ
weights_of s = each_of (λ a. a.weight) s.numbers s.count

-- the sweep's rounds over a setting, by the rule: "scores start at the weights"; "With no anchors .. the score and rounds are 0."
pub data SweptIn (s : Setting) : ℕ → List ℕ → Type 0 where
  empty : s.count ≡ 0 → SweptIn s 0 []
  made : {k : ℕ} {S : List ℕ} → 1 ≤ s.count → Rounds (round_of s) (weights_of s) k S → SweptIn s k S
