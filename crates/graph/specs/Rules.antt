-- The rules of the graph file, each as the refusal number that it gives, 0 for none. The reader and the writer go by these alone.
use Rattle.std.specs.Prelude.{ℕ, zero, suc, ◌+◌, List, [], ◌∷◌, Bool, true, false, ◌&&◌, ◌||◌, ltb, leb, eqb}
use Rattle.wire.specs.Cases.{pick}
use Rattle.wire.specs.Letters.{is_letter}
use Rattle.wire.specs.Refusals.{out_of_range, not_letter, no_vertex, not_rising, not_edge, on_no_path}
use Rattle.wire.specs.Sizes.{most_vertices, most_letters, most_edges, most_paths}
use Rattle.graph.specs.Content.{Edge}

-- "a count, length or weight out of range": x is not low to high
abbrev pub range_fault : ℕ → ℕ → ℕ → ℕ
range_fault low high x = pick (◌&&◌ (leb low x) (leb x high)) 0 out_of_range

-- "n | 1 to 1,024"
abbrev pub vertex_count_fault : ℕ → ℕ
vertex_count_fault n = range_fault 1 most_vertices n

-- "label length | 1 up; all labels together at most 32,768": the labels before have `sum` letters
abbrev pub length_fault : ℕ → ℕ → ℕ
length_fault sum len = pick (◌&&◌ (leb 1 len) (leb (sum + len) most_letters)) 0 out_of_range

-- "not a letter"
abbrev pub letter_fault : ℕ → ℕ
letter_fault b = pick (is_letter b) 0 not_letter

-- "m | 0 to 4,096"
abbrev pub edge_count_fault : ℕ → ℕ
edge_count_fault m = range_fault 0 most_edges m

-- v is a vertex of n
abbrev pub is_vertex : ℕ → ℕ → Bool
is_vertex n v = ◌&&◌ (leb 1 v) (leb v n)

-- "Anchors rise strictly by (v, x, y, c), edges by (from, to)."
abbrev pub edge_below : Edge → Edge → Bool
edge_below d e = ◌||◌ (ltb d.from e.from) (◌&&◌ (eqb d.from e.from) (ltb d.to e.to))

-- no edge: it stands before the first one, and is below every edge
abbrev pub no_edge : Edge
no_edge = record { from = 0; to = 0 }

-- "An edge's two numbers are read, then 6, 7."
unfoldable pub edge_fault : ℕ → Edge → Edge → ℕ
edge_fault n last e =
    pick (◌&&◌ (is_vertex n e.from) (is_vertex n e.to)) (pick (edge_below last e) 0 not_rising) no_vertex

-- "K, vertices of a path | 1 to 16, 1 to n"
abbrev pub path_count_fault : ℕ → ℕ
path_count_fault k = range_fault 1 most_paths k

abbrev pub path_length_fault : ℕ → ℕ → ℕ
path_length_fault n count = range_fault 1 n count

-- u to v is an edge
unfoldable pub is_edge : List Edge → ℕ → ℕ → Bool
is_edge [] u v = false
is_edge (e ∷ es) u v = ◌||◌ (◌&&◌ (eqb e.from u) (eqb e.to v)) (is_edge es u v)

-- a path step from u to v is an edge; before a path's first vertex u is 0, and there is no step
unfoldable pub is_step : List Edge → ℕ → ℕ → Bool
is_step es u v = ◌||◌ (eqb u 0) (is_edge es u v)

-- "A path's vertex: 6, 7, 8." The vertex before it is `last`, or 0.
unfoldable pub vertex_fault : ℕ → List Edge → ℕ → ℕ → ℕ
vertex_fault n es last v =
    pick (is_vertex n v) (pick (ltb last v) (pick (is_step es last v) 0 not_edge) not_rising) no_vertex

-- v is on a path
unfoldable pub is_on : List ℕ → ℕ → Bool
is_on [] v = false
is_on (u ∷ p) v = ◌||◌ (eqb u v) (is_on p v)

unfoldable pub is_on_any : List (List ℕ) → ℕ → Bool
is_on_any [] v = false
is_on_any (p ∷ ps) v = ◌||◌ (is_on p v) (is_on_any ps v)

-- the vertices 1 to n are on paths
unfoldable pub all_on : List (List ℕ) → ℕ → Bool
all_on ps zero = true
all_on ps (suc v) = ◌&&◌ (all_on ps v) (is_on_any ps (suc v))

-- "After the last path: 9, then 10.": the rules on the paths together
unfoldable pub cover_fault : ℕ → List (List ℕ) → ℕ
cover_fault n ps = pick (all_on ps n) 0 on_no_path
