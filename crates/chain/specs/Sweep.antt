-- The sweep: "scores start at the weights; a round takes anchors in rising number, in place, each score becoming the greatest of itself and all candidates.
-- The quiet round counts and ends it."
use Rattle.std.specs.Prelude.{ℕ, suc, ◌-◌, ◌≤◌, ◌≡◌, List, [], map, length}
use Rattle.std.proofs.Math.Decide.{dec_le}
use Rattle.rounds.specs.Rounds.{Within, Rounds}
use Rattle.rounds.specs.Rule.{Links}
use Rattle.rounds.specs.Kinds.{score_rule}
use Rattle.rounds.specs.Table.{vector_round}
use Rattle.graph.specs.Content.{Graph}
use Rattle.anchors.specs.Anchors.{Anchor}
use Rattle.chain.specs.Steps.{anchor_at, Before, Step}

-- f tells of each two anchors whether the first comes before the second, and the gaps: 0 where it does not, k + 1 where it does with gaps k
pub record IsSteps (g : Graph) (anchors : List Anchor) (f : ℕ → ℕ → ℕ) : Type 0 where
  pub none : (i j : ℕ) → Within (length anchors) i → Within (length anchors) j → f i j ≡ 0 → Before g (anchor_at anchors i) (anchor_at anchors j) → ⊥
  pub some : (i j k : ℕ) → f i j ≡ suc k
      → Within (length anchors) i × Within (length anchors) j × Step g (anchor_at anchors i) (anchor_at anchors j) k

-- the weights, at which the scores start
abbrev pub weights : List Anchor → List ℕ
weights anchors = map (λ a. a.weight) anchors

-- the pairs of anchors as the links of the sweep: link i comes from anchor i
abbrev pub step_links : ℕ → (ℕ → ℕ → ℕ) → Links
step_links n f = record { m = n; source = λ i. i; Into = λ j i. 1 ≤ f i j; into? = λ j i. dec_le 1 (f i j) }

-- a round of the sweep
abbrev pub sweep_round : List Anchor → (ℕ → ℕ → ℕ) → List ℕ → List ℕ
sweep_round anchors f = vector_round (score_rule (step_links (length anchors) f) (λ j. (anchor_at anchors j).weight) (λ i j. f i j - 1)) (length anchors)

-- the sweep's rounds, by the rule: `count` of them leave the scores S; "With no anchors .. the score and rounds are 0."
pub data Swept (g : Graph) (anchors : List Anchor) : ℕ → List ℕ → Type 0 where
  none : length anchors ≡ 0 → Swept g anchors 0 []
  rounds : {count : ℕ} {S : List ℕ} (f : ℕ → ℕ → ℕ) → 1 ≤ length anchors → IsSteps g anchors f
      → Rounds (sweep_round anchors f) (weights anchors) count S → Swept g anchors count S
