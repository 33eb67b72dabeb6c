-- Chains of anchors and their scores. A score is weights less gaps and may be below zero: a chain is kept with its weights and its gaps, summed.
use Rattle.std.specs.Prelude.{ℕ, ◌+◌, ◌≤◌, ◌≡◌, List, [], ◌∷◌, ◌++◌, length, ℤ}
use Rattle.std.proofs.Math.IntN.{sub_ℕ}
use Rattle.rounds.specs.Rounds.{Within}
use Rattle.graph.specs.Content.{Graph}
use Rattle.anchors.specs.Anchors.{Anchor}
use Rattle.chain.specs.Steps.{anchor_at, Step}

module _ (g : Graph) (anchors : List Anchor) where
  -- "A chain is one or more anchors, each before the next": their numbers, in read order; the last; the sum of weights; the sum of gaps
  pub data Chain : List ℕ → ℕ → ℕ → ℕ → Type 0 where
    one : {j : ℕ} → Within (length anchors) j → Chain (j ∷ []) j (anchor_at anchors j).weight 0
    more : {js : List ℕ} {i j w k q : ℕ} → Chain js i w k → Within (length anchors) j → Step g (anchor_at anchors i) (anchor_at anchors j) q
        → Chain (js ++ (j ∷ [])) j (w + (anchor_at anchors j).weight) (k + q)

  -- s is the best score of the chains that end at anchor j: one has weights less gaps s, and none has more
  pub record IsBest (j s : ℕ) : Type 0 where
    pub js : List ℕ
    pub w : ℕ
    pub k : ℕ
    pub chain : Chain js j w k
    pub attained : w ≡ s + k
    pub greatest : (js : List ℕ) (w k : ℕ) → Chain js j w k → w ≤ s + k

-- "score = weights less gaps"
abbrev pub score : ℕ → ℕ → ℤ
score w k = sub_ℕ w k
