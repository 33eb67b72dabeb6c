-- What an anchor's line shows after its number. Document 01, chapter "Listing".
use Rattle.std.specs.Prelude.{ℕ, ◌-◌, ◌*◌, ◌≤◌, List, [], ◌∷◌, length}
use Rattle.rounds.specs.Table.{entry}
use Rattle.anchors.specs.Anchors.{Anchor, y, d, per_anchor}
use Rattle.anchors.specs.AnchorEntries.{anchor_in}

-- "v x y c d and the score ending there"
abbrev pub row : Anchor → ℕ → List ℕ
row a score = a.v ∷ a.x ∷ y a ∷ a.c ∷ d a ∷ score ∷ []

-- anchor j lies there
abbrev pub HeldAt : ℕ → List ℕ → List ℕ → Type 0
HeldAt j numbers scores = (1 ≤ j) × (j ≤ length scores) × (per_anchor * j ≤ length numbers)

-- what its line shows after the number
abbrev pub row_in : List ℕ → List ℕ → ℕ → List ℕ
row_in numbers scores j = row (anchor_in numbers (j - 1)) (entry j scores)
