-- The scores of a setting's anchors: how high they may come, and when they are the best of all chains.
use Rattle.std.specs.Prelude.{ℕ, ◌*◌, ◌≤◌, ◌≡◌, List, length}
use Rattle.wire.specs.Sizes.{most_weight}
use Rattle.rounds.specs.Rounds.{Within}
use Rattle.rounds.specs.Table.{entry}
use Rattle.graph.specs.Content.{Graph}
use Rattle.anchors.specs.Anchors.{AnchorSet}
use Rattle.chain.specs.Chains.{IsBest}
use Rattle.steps.specs.Setting.{Setting, anchor_of, Holds}

-- a score is at most the greatest weight for each place of the read up to the anchor's first
pub record ScoresLow (s : Setting) (scores : List ℕ) : Type 0 where
  pub size : length scores ≡ s.count
  pub low : (j : ℕ) → Within s.count j → entry j scores ≤ most_weight * (anchor_of s j).c

-- every score is the best of the chains that end there
abbrev pub AllBest : Setting → List ℕ → Type 0
AllBest s S = (g : Graph) (a : AnchorSet) → Holds s g a → (j : ℕ) → Within s.count j → IsBest g a.anchors j (entry j S)

-- some graph and anchors are held, and every score is the best of the chains that end there
pub record Scored (s : Setting) (scores : List ℕ) : Type 0 where
  pub g : Graph
  pub a : AnchorSet
  pub holds : Holds s g a
  pub size : length scores ≡ s.count
  pub best : (j : ℕ) → Within s.count j → IsBest g a.anchors j (entry j scores)
