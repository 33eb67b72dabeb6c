-- Where the sections of a graph's encoding start.
use Rattle.std.specs.Prelude.{ℕ, ◌+◌, length}
use Rattle.wire.specs.Numbers.{encode}
use Rattle.wire.specs.Sizes.{graph_kind}
use Rattle.graph.specs.Content.{Graph, vertex_count, edge_count, path_count}
use Rattle.graph.specs.Encode.{encode_labels, encode_edges}
use Rattle.graph.specs.Reading.{Parsed}

-- the labels, after the kind and n
unfoldable pub labels_start : Graph → ℕ
labels_start g = length (encode graph_kind) + length (encode (vertex_count g))

-- the edges, after the labels and m
unfoldable pub edges_start : Graph → ℕ
edges_start g = labels_start g + length (encode_labels g.labels) + length (encode (edge_count g))

-- the paths, after the edges and K
unfoldable pub paths_start : Graph → ℕ
paths_start g = edges_start g + length (encode_edges g.edges) + length (encode (path_count g))

-- what reading a graph's encoding finds: the graph, and where its labels, edges and paths start
abbrev pub parsed_of : Graph → Parsed
parsed_of g = record { graph = g; labels_at = labels_start g; edges_at = edges_start g; paths_at = paths_start g }
