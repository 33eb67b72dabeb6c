-- The bytes of a graph file, from its content.
use Rattle.std.specs.Prelude.{ℕ, List, [], ◌∷◌, ◌++◌, length}
use Rattle.wire.specs.Numbers.{encode}
use Rattle.wire.specs.Sizes.{graph_kind}
use Rattle.graph.specs.Content.{Edge, Graph, vertex_count, edge_count, path_count}

-- "for each vertex its label length and letters"
unfoldable pub encode_labels : List (List ℕ) → List ℕ
encode_labels [] = []
encode_labels (l ∷ ls) = encode (length l) ++ (l ++ encode_labels ls)

-- numbers one after the other
unfoldable pub encode_numbers : List ℕ → List ℕ
encode_numbers [] = []
encode_numbers (x ∷ xs) = encode x ++ encode_numbers xs

-- "for each edge the two vertices"
unfoldable pub encode_edges : List Edge → List ℕ
encode_edges [] = []
encode_edges (e ∷ es) = encode e.from ++ (encode e.to ++ encode_edges es)

-- "for each path its vertex count and its vertices"
unfoldable pub encode_paths : List (List ℕ) → List ℕ
encode_paths [] = []
encode_paths (p ∷ ps) = encode (length p) ++ (encode_numbers p ++ encode_paths ps)

-- "Graph file: 1; n; ..; m; ..; K; .."
unfoldable pub encode_graph : Graph → List ℕ
encode_graph g =
    encode graph_kind
    ++ (encode (vertex_count g)
    ++ (encode_labels g.labels
    ++ (encode (edge_count g) ++ (encode_edges g.edges ++ (encode (path_count g) ++ encode_paths g.paths)))))
