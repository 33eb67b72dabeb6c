-- What gives a score, and the lowest-numbered that does.
use Rattle.std.specs.Prelude.{ℕ, ◌+◌, ◌-◌, ◌≤◌, ◌≡◌, List, get_or}
use Rattle.rounds.specs.Rounds.{Within}
use Rattle.pair_step.specs.Pairs.{Ends, step_from}

-- none of 1 to n has P
abbrev pub NoneHas : (ℕ → Type 0) → ℕ → Type 0
NoneHas P n = (h : ℕ) → Within n h → P h → ⊥

-- r is the lowest of 1 to n with P
pub record Lowest (P : ℕ → Type 0) (n r : ℕ) : Type 0 where
  pub there : Within n r
  pub has : P r
  pub low : (h : ℕ) → Within n h → P h → r ≤ h

-- anchor i gives this score to an anchor at (v, x, c) of this weight: there is a step, and its candidate is the score
abbrev pub GivesIn : Ends → List ℕ → List ℕ → ℕ → ℕ → ℕ → ℕ → ℕ → ℕ → Type 0
GivesIn ends scores row score v x c weight i =
    (1 ≤ step_from ends row v x c i) × (get_or scores (i - 1) 0 + weight ≡ score + (step_from ends row v x c i - 1))
