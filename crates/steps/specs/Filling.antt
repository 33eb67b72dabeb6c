-- One number of each anchor, in a list: where the anchors end, and their weights.
use Rattle.std.specs.Prelude.{ℕ, zero, suc, ◌+◌, ◌*◌, ◌≤◌, ◌<◌, ◌^◌, List, [], ◌∷◌, ◌++◌, length}
use Rattle.anchors.specs.Anchors.{Anchor, per_anchor}
use Rattle.anchors.specs.AnchorEntries.{anchor_in}

-- what f gives of each of the first k anchors
unfoldable pub each_of : (Anchor → ℕ) → List ℕ → ℕ → List ℕ
each_of f numbers zero = []
each_of f numbers (suc k) = each_of f numbers k ++ (f (anchor_in numbers k) ∷ [])

-- the anchors' numbers are there, and their ends, y and d, are numbers of 32 bits
pub record NumbersFit (count : ℕ) (numbers : List ℕ) : Type 0 where
  pub room : per_anchor * count ≤ length numbers
  pub some : (j : ℕ) → j < count → 1 ≤ (anchor_in numbers j).len
  pub ys : (j : ℕ) → j < count → (anchor_in numbers j).x + (anchor_in numbers j).len < 2 ^ 32
  pub ds : (j : ℕ) → j < count → (anchor_in numbers j).c + (anchor_in numbers j).len < 2 ^ 32
