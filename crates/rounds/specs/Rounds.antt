-- Rounds in place until one is quiet: document 01, "Rounds of a table" and "The sweep". A state is whatever the rounds change, a table or the scores.
-- Assumes nothing.
use Rattle.std.specs.Prelude.{◌≡◌, ◌≢◌, ℕ, zero, suc, ◌-◌, ◌≤◌, ◌<◌}

-- v is one of the numbers 1 to n: "All numbering is from 1"
pub record Within (n v : ℕ) : Type 0 where
  pub low : 1 ≤ v
  pub high : v ≤ n

module _ {S : Type 0} (step : ℕ → S → S) where
  -- what is left when entries 1 to v were taken, each on what the ones before it left: "A round takes vertices in rising number, in place."
  -- `sweep step n` is a round of n entries.
  unfoldable pub sweep : ℕ → S → S
  sweep zero s = s
  sweep (suc v) s = step (suc v) (sweep v s)

module _ {S : Type 0} (round : S → S) where
  -- what k rounds leave
  unfoldable pub iterate : ℕ → S → S
  iterate zero s = s
  iterate (suc k) s = round (iterate k s)

  -- From s, k rounds are made by the rule, and leave t: "The round that changes nothing is counted and is the last."
  pub data Rounds : S → ℕ → S → Type 0 where
    -- "The quiet round counts and ends it."
    quiet : {s : S} → round s ≡ s → Rounds s 1 s
    -- a round that changes something is counted, and the others go on from what it left
    busy : {s t : S} {k : ℕ} → round s ≢ s → Rounds (round s) k t → Rounds s (suc k) t

  -- The same by numbers: k is the least number, 1 or more, such that round k leaves what round k - 1 left, and that is t.
  pub record Least (s : S) (k : ℕ) (t : S) : Type 0 where
    pub counted : 1 ≤ k
    pub left : iterate k s ≡ t
    pub still : iterate k s ≡ iterate (k - 1) s
    pub moving : (j : ℕ) → 1 ≤ j → j < k → iterate j s ≢ iterate (j - 1) s
