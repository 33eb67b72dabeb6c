-- The first fault of each section of content, as its number, 0 for none: what the loops look for.
use Rattle.std.specs.Prelude.{ℕ, zero, suc, ◌+◌, ◌*◌, ◌<◌, ◌≡◌, List, true, get_or}
use Rattle.wire.specs.Found.{first}
use Rattle.wire.specs.Sizes.{path_room}
use Rattle.graph.specs.Content.{Edge}
use Rattle.graph.specs.Rules.{length_fault, letter_fault, edge_below, edge_fault, path_length_fault, vertex_fault}
use Rattle.graph.specs.Entries.{edge_in}

-- of a label's letters, `left` of them, from a place on
unfoldable pub letters_fault : ℕ → List ℕ → ℕ → ℕ
letters_fault zero letters at = 0
letters_fault (suc left) letters at = first (letter_fault (get_or letters at 0)) (letters_fault left letters (at + 1))

-- of the labels, `left` of them, from label i on, after labels of `sum` letters together
unfoldable pub labels_fault : ℕ → ℕ → ℕ → List ℕ → List ℕ → ℕ
labels_fault zero i sum letters lengths = 0
labels_fault (suc left) i sum letters lengths =
    first (length_fault sum (get_or lengths i 0))
    (first (letters_fault (get_or lengths i 0) letters sum) (labels_fault left (i + 1) (sum + get_or lengths i 0) letters lengths))

-- of the edges, `left` of them, from edge i on, after the edge `last`
unfoldable pub edges_fault : ℕ → ℕ → ℕ → Edge → List ℕ → ℕ
edges_fault n zero i last edges = 0
edges_fault n (suc left) i last edges = first (edge_fault n last (edge_in edges i)) (edges_fault n left (i + 1) (edge_in edges i) edges)

-- of a path's vertices, `left` of them, from a place on, after the vertex `last`, or 0
unfoldable pub vertices_fault : ℕ → List Edge → ℕ → ℕ → ℕ → List ℕ → ℕ
vertices_fault n es zero at last paths = 0
vertices_fault n es (suc left) at last paths =
    first (vertex_fault n es last (get_or paths at 0)) (vertices_fault n es left (at + 1) (get_or paths at 0) paths)

-- of the paths, `left` of them, from path i on
unfoldable pub paths_fault : ℕ → List Edge → ℕ → ℕ → List ℕ → List ℕ → ℕ
paths_fault n es zero i paths counts = 0
paths_fault n es (suc left) i paths counts =
    first (path_length_fault n (get_or counts i 0))
    (first (vertices_fault n es (get_or counts i 0) (path_room * i) 0 paths) (paths_fault n es left (i + 1) paths counts))

-- the edges, m of them, rise: each is below the next
abbrev pub Rising : ℕ → List ℕ → Type 0
Rising m edges = (i : ℕ) → i + 1 < m → edge_below (edge_in edges i) (edge_in edges (i + 1)) ≡ true
