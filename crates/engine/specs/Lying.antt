-- The anchors of an accepted file, as they lie in a buffer.
use Rattle.std.specs.Prelude.{ℕ, ◌-◌, ◌*◌, ◌≤◌, ◌≡◌, List, length}
use Rattle.rounds.specs.Rounds.{Within}
use Rattle.graph.specs.Content.{Graph}
use Rattle.anchors.specs.Anchors.{AnchorSet, per_anchor}
use Rattle.anchors.specs.GoodAnchors.{GoodAnchors}
use Rattle.anchors.specs.AnchorEntries.{anchor_in}
use Rattle.chain.specs.Steps.{anchor_at}

-- the anchors of a, which keep every rule over g, lie in `numbers`, five for each: `count` anchors
pub record AnchorsLie (g : Graph) (a : AnchorSet) (count : ℕ) (numbers : List ℕ) : Type 0 where
  pub good : GoodAnchors g a
  pub anchors_are : length a.anchors ≡ count
  pub room : per_anchor * count ≤ length numbers
  pub each : (j : ℕ) → Within count j → anchor_in numbers (j - 1) ≡ anchor_at a.anchors j
