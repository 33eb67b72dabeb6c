-- The listing's lines of anchors, byte by byte. Document 01, chapter "Listing".
use Rattle.std.specs.Prelude.{ℕ, ◌-◌, ◌<◌, List, ◌∷◌, ◌++◌, length, get_or}
use Rattle.rounds.specs.Table.{entry}
use Rattle.anchors.specs.Anchors.{Anchor}
use Rattle.anchors.specs.AnchorEntries.{anchor_in}
use Rattle.decimal_text.specs.Decimal.{decimal}
use Rattle.decimal_text.specs.Words.{space, line_end, each}
use Rattle.anchor_row.specs.Row.{row, HeldAt}

-- numbers, each after a space
abbrev pub spaced : List ℕ → List ℕ
spaced numbers = each (λ n. space ∷ decimal n) numbers

-- "then for each chain anchor: number v x y c d and the score ending there"
unfoldable pub anchor_line : ℕ → Anchor → ℕ → List ℕ
anchor_line j a score = decimal j ++ (spaced (row a score) ++ line_end)

-- ---- the same in buffers

-- the line of the anchor with number j
abbrev pub line_in : List ℕ → List ℕ → ℕ → List ℕ
line_in numbers scores j = anchor_line j (anchor_in numbers (j - 1)) (entry j scores)

-- each anchor with a number of js lies there
abbrev pub Numbered : List ℕ → List ℕ → List ℕ → Type 0
Numbered numbers scores js = (i : ℕ) → i < length js → HeldAt (get_or js i 0) numbers scores

-- the lines of the anchors with the numbers js
abbrev pub lines_in : List ℕ → List ℕ → List ℕ → List ℕ
lines_in numbers scores js = each (line_in numbers scores) js

-- the most bytes of the first line and a line for each of 2,048 anchors
abbrev pub listing_room : ℕ
listing_room = 163920
