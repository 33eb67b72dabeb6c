-- The three kinds of rule that document 01 has: the greatest (reach), the least with some unknown (distance), scores (the sweep). Assumes nothing.
use Rattle.std.specs.Prelude.{ℕ, zero, suc, ◌+◌, ◌-◌, ◌≤◌, max, min}
use Rattle.rounds.specs.Rule.{Links, Rule}
use Rattle.rounds.specs.Best.{Column}

-- "Reach takes the greatest of its own value and those over edges into v"
abbrev pub greatest_rule : Links → Rule
greatest_rule l = record { links = l; carry = λ v e x. x; join = max }

-- a column of that rule: greater is better
abbrev pub greatest_column : Links → (ℕ → ℕ) → Column
greatest_column l starts = record { rule = greatest_rule l; starts = starts; good = ◌≤◌ }

-- ---- distances, known or not ("else unknown"): an entry is 0 where it is unknown, and d + 1 where it is d

-- the distance l further on: d + l where d is known
unfoldable pub shift : ℕ → ℕ → ℕ
shift zero l = zero
shift (suc d) l = suc (d + l)

-- the less of two distances, or the one that is known
unfoldable pub closer : ℕ → ℕ → ℕ
closer zero y = y
closer (suc x) zero = suc x
closer (suc x) (suc y) = suc (min x y)

-- y is at least as near as x: x is unknown, or both are known and y is not greater
unfoldable pub Near : ℕ → ℕ → Type 0
Near zero y = Unit {0}
Near (suc x) zero = ⊥
Near (suc x) (suc y) = y ≤ x

-- "distance the least of its own and u's distance plus L(u)": link e is `far e` long
abbrev pub least_rule : Links → (ℕ → ℕ) → Rule
least_rule l far = record { links = l; carry = λ v e x. shift x (far e); join = closer }

-- a column of that rule: nearer is better
abbrev pub least_column : Links → (ℕ → ℕ) → (ℕ → ℕ) → Column
least_column l far starts = record { rule = least_rule l far; starts = starts; good = Near }

-- ---- scores

-- "each score becoming the greatest of itself and all candidates": a candidate is the source's score plus the weight of v less the gaps of link e. "A step's
-- candidate may fall below zero", and then counts as 0, which is no score: the best score "is never under its weight"
abbrev pub score_rule : Links → (ℕ → ℕ) → (ℕ → ℕ → ℕ) → Rule
score_rule l weight gap = record { links = l; carry = λ v e x. x + weight v - gap e v; join = max }

-- the column of the scores: "scores start at the weights"
abbrev pub score_column : Links → (ℕ → ℕ) → (ℕ → ℕ → ℕ) → Column
score_column l weight gap = record { rule = score_rule l weight gap; starts = weight; good = ◌≤◌ }
