-- A round of the sweep over a setting, and its rule.
use Rattle.std.specs.Prelude.{ℕ, ◌+◌, ◌-◌, max, List, get_or}
use Rattle.std.proofs.Math.Decide.{dec_le}
use Rattle.rounds.specs.Gather.{gather}
use Rattle.rounds.specs.Rule.{Rule}
use Rattle.rounds.specs.Kinds.{score_rule}
use Rattle.rounds.specs.Table.{vector_round}
use Rattle.chain.specs.Sweep.{step_links}
use Rattle.pair_step.specs.Pairs.{Ends, step_from}
use Rattle.steps.specs.Setting.{Setting, anchor_of, step_of}

-- "the greatest of itself and all candidates", of the anchors 1 to n
abbrev pub best_in : Ends → List ℕ → List ℕ → ℕ → ℕ → ℕ → ℕ → ℕ → ℕ → ℕ
best_in ends scores row own v x c weight n =
    gather max (λ i. dec_le 1 (step_from ends row v x c i)) (λ i. get_or scores (i - 1) 0 + weight - (step_from ends row v x c i - 1)) own n

-- the rule of the sweep over the setting
abbrev pub rule_of : Setting → Rule
rule_of s = score_rule (step_links s.count (step_of s)) (λ j. (anchor_of s j).weight) (λ i j. step_of s i j - 1)

-- a round of the sweep
abbrev pub round_of : Setting → List ℕ → List ℕ
round_of s = vector_round (rule_of s) s.count
