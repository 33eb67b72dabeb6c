-- What the contracts of a loop of rounds say: a flag, an end, a result. Assumes nothing.
use Rattle.std.specs.Prelude.{◌≡◌, ◌≢◌, Bool, true, false, List, ℕ, ◌≤◌}
use Rattle.rounds.specs.Rounds.{Within, Rounds}
use Rattle.rounds.specs.Table.{cell}

-- what a flag `changed` says: one thing when it is up, another when it is down
pub record Told (flag : Bool) (Changed Same : Type 0) : Type 0 where
  pub moved : flag ≡ true → Changed
  pub still : flag ≡ false → Same

-- a cell of row v, in the first `wide` columns, is not in `after` what it was in `before`
abbrev pub RowMoved : (ℕ → ℕ → ℕ) → ℕ → ℕ → List ℕ → List ℕ → Type 0
RowMoved place wide v before after = (i : ℕ) × Within wide i × (cell place v i after ≢ cell place v i before)

-- the rounds from s end, within n: what a loop of rounds has to be given
pub record Ends {S : Type 0} (n : ℕ) (round : S → S) (s : S) : Type 0 where
  pub count : ℕ
  pub last : S
  pub rounds : Rounds round s count last
  pub bound : count ≤ n

-- The rounds from s, all that document 01 says of them: what they leave is Done; their count is 1 to n; and no other count or result is the rule's.
pub record Settles {S : Type 0} (n : ℕ) (round : S → S) (Done : S → Type 0) (s : S) : Type 0 where
  pub count : ℕ
  pub last : S
  -- "The round that changes nothing is counted and is the last."
  pub rounds : Rounds round s count last
  pub first : 1 ≤ count
  -- "Each count is reported and never exceeds n."
  pub bound : count ≤ n
  pub done : Done last
  pub only : (k : ℕ) (t : S) → Rounds round s k t → (k ≡ count) × (t ≡ last)
