-- The rule of the rounds: what one entry takes, from its own value and over the links into it. Assumes nothing.
use Rattle.std.specs.Prelude.{ℕ}
use Rattle.rounds.specs.Gather.{gather}

-- The links along which values are carried from entry to entry: a table's are edges, the sweep's are pairs of anchors.
pub record Links : Type 1 where
  -- links are numbered 1 to m
  pub m : ℕ
  -- the entry that link e comes from
  pub source : ℕ → ℕ
  -- link e goes into entry v; and the test for it
  pub Into : ℕ → ℕ → Type 0
  pub into? : (v e : ℕ) → Dec (Into v e)

-- A rule: its links, what they carry, and which value is the better.
pub record Rule : Type 1 where
  pub links : Links
  -- what link e brings to entry v when its source has the value x: `carry v e x`
  pub carry : ℕ → ℕ → ℕ → ℕ
  -- the better of two values
  pub join : ℕ → ℕ → ℕ

-- what entry v takes where each entry u has the value `has u`: the best of its own and of what the links into v bring
-- ("Reach takes the greatest of its own value and those over edges into v")
unfoldable pub value : Rule → (ℕ → ℕ) → ℕ → ℕ
value r has v = gather r.join (r.links.into? v) (λ e. r.carry v e (has (r.links.source e))) (has v) r.links.m
