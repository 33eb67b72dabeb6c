-- The content of a graph file, and how it lies in lent buffers.
use Rattle.std.specs.Prelude.{ℕ, length}
use mathlib.Core.List.{List, [], ◌∷◌, map, flatten}
use Rattle.wire.specs.Sizes.{path_room}
use Rattle.wire.specs.Lent.{padded}

-- an edge: the two vertices
pub record Edge : Type 0 where
  pub from : ℕ
  pub to : ℕ

-- "1; n; for each vertex its label length and letters; m; for each edge the two vertices; K; for each path its vertex count and its vertices"
pub record Graph : Type 0 where
  pub labels : List (List ℕ)
  pub edges : List Edge
  pub paths : List (List ℕ)

-- n, m and K
abbrev pub vertex_count : Graph → ℕ
vertex_count g = length g.labels

abbrev pub edge_count : Graph → ℕ
edge_count g = length g.edges

abbrev pub path_count : Graph → ℕ
path_count g = length g.paths

-- "all else is packed in file order": the letters of all labels, and the labels' lengths
abbrev pub letters_of : Graph → List ℕ
letters_of g = flatten g.labels

abbrev pub lengths_of : Graph → List ℕ
lengths_of g = map length g.labels

-- the edges as numbers, two for each
unfoldable pub edge_numbers : List Edge → List ℕ
edge_numbers [] = []
edge_numbers (e ∷ es) = e.from ∷ (e.to ∷ edge_numbers es)

-- "Path i starts at place 1,024(i − 1)": each path in its room of 1,024 places
unfoldable pub path_numbers : List (List ℕ) → List ℕ
path_numbers ps = flatten (map (padded path_room) ps)

-- the paths' vertex counts
abbrev pub counts_of : Graph → List ℕ
counts_of g = map length g.paths
