-- What the functions of the named chain say: where to go back to, the way back, and the chain as it is lent back.
use Rattle.std.specs.Prelude.{ℕ, ◌≡◌, ◌≢◌, List, length, Option, MatchOption}
use Rattle.wire.specs.Lent.{laid}
use Rattle.wire.specs.Sizes.{full_chain}
use Rattle.rounds.specs.Table.{entry}
use Rattle.graph.specs.Content.{Graph}
use Rattle.anchors.specs.Anchors.{Anchor, AnchorSet}
use Rattle.chain.specs.Steps.{anchor_at}
use Rattle.chain.specs.Named.{LowestGiving, Back, Returned}
use Rattle.steps.specs.Setting.{Setting, Holds}

-- "Going back from an anchor: stop if its score is its weight, else take the lowest-numbered anchor that gives its score.": None where it stops
abbrev pub Origin : Graph → List Anchor → List ℕ → ℕ → Option ℕ → Type 0
Origin g anchors S j r =
    MatchOption r (entry j S ≡ (anchor_at anchors j).weight) (λ i. (entry j S ≢ (anchor_at anchors j).weight) × LowestGiving g anchors S i j)

-- r is where to go back to from anchor j, whatever graph and anchors are held
abbrev pub CameFrom : Setting → List ℕ → ℕ → Option ℕ → Type 0
CameFrom s scores j r = (g : Graph) (a : AnchorSet) → Holds s g a → Origin g a.anchors scores j r

-- js is the way back from anchor j, in read order, whatever graph and anchors are held
abbrev pub WayBack : Setting → List ℕ → ℕ → List ℕ → Type 0
WayBack s scores j js = (g : Graph) (a : AnchorSet) → Holds s g a → Back g a.anchors scores j js

-- the chain returned, whatever graph and anchors are held, is of this length and score, and lies in the lent buffer
pub record ChainLaid (s : Setting) (scores before after : List ℕ) (size score : ℕ) : Type 0 where
  pub js : List ℕ
  pub returned : (g : Graph) (a : AnchorSet) → Holds s g a → Returned g a.anchors scores js score
  pub long : length js ≡ size
  pub lies : after ≡ laid full_chain js before
