-- What demands 2 and 3 of the order say of a result, in their own words; the rule's result is `IsSweep` or `IsPlain`.
use Rattle.std.specs.Prelude.{ℕ, ◌≤◌, ◌≡◌, true, List, length, ℤ, pos}
use Rattle.std.specs.Int.Signed.{le_z}
use Rattle.rounds.specs.Rounds.{Within}
use Rattle.rounds.specs.Table.{entry}
use Rattle.graph.specs.Content.{Graph}
use Rattle.graph.specs.Good.{All, Next}
use Rattle.anchors.specs.Anchors.{Anchor}
use Rattle.chain.specs.Steps.{anchor_at, Before}
use Rattle.chain.specs.Chains.{Chain, IsBest, score}
use Rattle.chain.specs.Named.{Returned}
use Rattle.chain.specs.ChainEntries.{Result}

-- "each before the next": js are the numbers of anchors
abbrev pub Ordered : Graph → List Anchor → List ℕ → Type 0
Ordered g anchors js = Next (λ i j. Before g (anchor_at anchors i) (anchor_at anchors j)) js

-- a valid chain, by the numbers of its anchors: "one or more anchors, each before the next"
pub record Valid (g : Graph) (anchors : List Anchor) (js : List ℕ) : Type 0 where
  pub some : 1 ≤ length js
  pub given : All (Within (length anchors)) js
  pub ordered : Ordered g anchors js

-- the chain has the score z: "score = weights less gaps"
pub record Scores (g : Graph) (anchors : List Anchor) (js : List ℕ) (z : ℤ) : Type 0 where
  pub j : ℕ
  pub w : ℕ
  pub k : ℕ
  pub chain : Chain g anchors js j w k
  pub is : score w k ≡ z

pub record Demanded (g : Graph) (anchors : List Anchor) (r : Result) : Type 0 where
  -- "Given any anchor, the chain is valid", and its score is the one returned
  pub valid : 1 ≤ length anchors → Valid g anchors r.chain × Scores g anchors r.chain (pos r.score)
  -- "no valid chain of the given anchors scores higher": each has a score, and no score of any is higher
  pub scored : (js : List ℕ) → Valid g anchors js → (z : ℤ) × Scores g anchors js z
  pub highest : (js : List ℕ) (z : ℤ) → Scores g anchors js z → le_z z (pos r.score) ≡ true
  -- "of equal chains the named one comes back"
  pub named : Returned g anchors r.scores r.chain r.score
  -- "each anchor's score equal to the best of all chains ending there"
  pub best : (j : ℕ) → Within (length anchors) j → IsBest g anchors j (entry j r.scores)
  -- "a round that changes nothing comes no later than round N .. with none there are no rounds"
  pub few : r.rounds ≤ length anchors
