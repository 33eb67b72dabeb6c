-- The chain that is returned, from the scores. S holds the score of anchor j at place j − 1.
use Rattle.std.specs.Prelude.{ℕ, ◌+◌, ◌≤◌, ◌≡◌, ◌≢◌, List, [], ◌∷◌, ◌++◌, length}
use Rattle.rounds.specs.Rounds.{Within}
use Rattle.rounds.specs.Table.{entry}
use Rattle.graph.specs.Content.{Graph}
use Rattle.anchors.specs.Anchors.{Anchor}
use Rattle.chain.specs.Steps.{anchor_at, Step}

-- "the lowest-numbered anchor of greatest score", of anchors 1 to n
pub record Top (n : ℕ) (S : List ℕ) (j : ℕ) : Type 0 where
  pub within : Within n j
  pub greatest : (i : ℕ) → Within n i → entry i S ≤ entry j S
  pub lowest : (i : ℕ) → Within n i → entry i S ≡ entry j S → j ≤ i

module _ (g : Graph) (anchors : List Anchor) (S : List ℕ) where
  -- anchor i gives the score of anchor j: it comes before it, and its score plus j's weight less the gaps is j's score
  pub record Gives (i j : ℕ) : Type 0 where
    pub within : Within (length anchors) i
    pub k : ℕ
    pub step : Step g (anchor_at anchors i) (anchor_at anchors j) k
    pub exact : entry i S + (anchor_at anchors j).weight ≡ entry j S + k

  -- "the lowest-numbered anchor that gives its score"
  pub record LowestGiving (i j : ℕ) : Type 0 where
    pub gives : Gives i j
    pub lowest : (h : ℕ) → Gives h j → i ≤ h

  -- "Going back from an anchor: stop if its score is its weight, else take the lowest-numbered anchor that gives its score. It is listed in read
  -- order.": the chain that ends at anchor j
  pub data Back : ℕ → List ℕ → Type 0 where
    stop : {j : ℕ} → entry j S ≡ (anchor_at anchors j).weight → Back j (j ∷ [])
    go : {i j : ℕ} {js : List ℕ} → entry j S ≢ (anchor_at anchors j).weight → LowestGiving i j → Back i js → Back j (js ++ (j ∷ []))

  -- "The chain returned ends at the lowest-numbered anchor of greatest score. .. With no anchors the chain is empty, and the score and rounds are 0."
  pub data Returned : List ℕ → ℕ → Type 0 where
    empty : length anchors ≡ 0 → Returned [] 0
    some : {j : ℕ} {js : List ℕ} → Top (length anchors) S j → Back j js → Returned js (entry j S)
