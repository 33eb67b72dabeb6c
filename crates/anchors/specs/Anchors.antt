-- The content of an anchor file, and how it lies in lent buffers.
use Rattle.std.specs.Prelude.{ℕ, ◌+◌, ◌-◌, List, [], ◌∷◌, ◌++◌, length}

-- "for each anchor v, x, c, length, weight"
pub record Anchor : Type 0 where
  pub v : ℕ
  pub x : ℕ
  pub c : ℕ
  pub len : ℕ
  pub weight : ℕ

-- "y = x + length − 1 and d = c + length − 1."
abbrev pub y : Anchor → ℕ
y a = a.x + a.len - 1

abbrev pub d : Anchor → ℕ
d a = a.c + a.len - 1

-- an anchor's numbers, in file order, and how many they are
abbrev pub numbers_of : Anchor → List ℕ
numbers_of a = a.v ∷ (a.x ∷ (a.c ∷ (a.len ∷ (a.weight ∷ []))))

abbrev pub per_anchor : ℕ
per_anchor = 5

-- "2; r; the r letters of the read; N; for each anchor v, x, c, length, weight"
pub record AnchorSet : Type 0 where
  pub read : List ℕ
  pub anchors : List Anchor

-- r and N
abbrev pub read_length : AnchorSet → ℕ
read_length a = length a.read

abbrev pub anchor_count : AnchorSet → ℕ
anchor_count a = length a.anchors

-- the anchors as numbers, "packed in file order"
unfoldable pub anchor_numbers : List Anchor → List ℕ
anchor_numbers [] = []
anchor_numbers (a ∷ rest) = numbers_of a ++ anchor_numbers rest
