-- Document 01's worked cases of the graph file, computed from the definitions.
-- Assumes nothing.
use Prim.Native.Nat.{ℕ}
use mathlib.Core.Path.{◌≡◌, refl}
use mathlib.Core.List.{List, [], ◌∷◌}
use Rattle.wire.specs.Numbers.{number_at, encode}
use Rattle.wire.specs.Letters.{is_letter}
use Rattle.wire.specs.Found.{good, fault}
use Rattle.graph.specs.Content.{Graph}
use Rattle.graph.specs.Rules.{edge_fault, is_edge, is_step, vertex_fault, is_on, is_on_any, all_on, cover_fault}
use Rattle.graph.specs.Encode.{encode_graph, encode_labels, encode_edges, encode_paths, encode_numbers}
use Rattle.graph.specs.Reading.{graph_of, front_in, front_of, rest_of, letters_from, labels_from, edges_from, vertices_from, paths_from}

-- the graph of one vertex A and one path
abbrev pub one : Graph
one = record { labels = (0x41 ∷ []) ∷ []; edges = []; paths = (1 ∷ []) ∷ [] }

-- "Empty graph file: 1, place 0."
pub empty-file : graph_of [] ≡ fault 1 0
unfolding graph_of front_of front_in number_at
empty-file = refl

-- "01 01 01 41 00 01 01 01 accepted"
pub one-accepted : graph_of (1 ∷ 1 ∷ 1 ∷ 0x41 ∷ 0 ∷ 1 ∷ 1 ∷ 1 ∷ []) ≡ good (record { graph = one; labels_at = 2; edges_at = 5; paths_at = 6 })
unfolding graph_of front_of front_in rest_of number_at labels_from letters_from is_letter edges_from paths_from vertices_from vertex_fault is_step is_edge cover_fault all_on is_on_any is_on
one-accepted = refl

-- "one byte less: 1, place 7; one more: 10, place 8"
pub one_less : graph_of (1 ∷ 1 ∷ 1 ∷ 0x41 ∷ 0 ∷ 1 ∷ 1 ∷ []) ≡ fault 1 7
unfolding graph_of front_of front_in rest_of number_at labels_from letters_from is_letter edges_from paths_from vertices_from
one_less = refl

pub one_more : (b : ℕ) → graph_of (1 ∷ 1 ∷ 1 ∷ 0x41 ∷ 0 ∷ 1 ∷ 1 ∷ 1 ∷ b ∷ []) ≡ fault 10 8
unfolding graph_of front_of front_in rest_of number_at labels_from letters_from is_letter edges_from paths_from vertices_from vertex_fault is_step is_edge cover_fault all_on is_on_any is_on
one_more b = refl

-- "01 01 01 41 00 00: 4, place 5."
pub no_path : graph_of (1 ∷ 1 ∷ 1 ∷ 0x41 ∷ 0 ∷ 0 ∷ []) ≡ fault 4 5
unfolding graph_of front_of front_in rest_of number_at labels_from letters_from is_letter edges_from
no_path = refl

-- "01 02 01 41 01 43 00 01 01 01: 9, place 10."
pub off_path : graph_of (1 ∷ 2 ∷ 1 ∷ 0x41 ∷ 1 ∷ 0x43 ∷ 0 ∷ 1 ∷ 1 ∷ 1 ∷ []) ≡ fault 9 10
unfolding graph_of front_of front_in rest_of number_at labels_from letters_from is_letter edges_from paths_from vertices_from vertex_fault is_step is_edge cover_fault all_on is_on_any is_on
off_path = refl

-- the same with a byte left over: "After the last path: 9, then 10."
pub off_path-more : graph_of (1 ∷ 2 ∷ 1 ∷ 0x41 ∷ 1 ∷ 0x43 ∷ 0 ∷ 1 ∷ 1 ∷ 1 ∷ 0 ∷ []) ≡ fault 9 10
unfolding graph_of front_of front_in rest_of number_at labels_from letters_from is_letter edges_from paths_from vertices_from vertex_fault is_step is_edge cover_fault all_on is_on_any is_on
off_path-more = refl

-- "Graph G1": labels AC, G, TT, CA; edges 1-2, 1-3, 2-4, 3-4; paths 1 2 4 and 1 3 4
abbrev pub G1 : Graph
G1 = record {
  labels = (0x41 ∷ 0x43 ∷ []) ∷ (0x47 ∷ []) ∷ (0x54 ∷ 0x54 ∷ []) ∷ (0x43 ∷ 0x41 ∷ []) ∷ [];
  edges = record { from = 1; to = 2 } ∷ record { from = 1; to = 3 } ∷ record { from = 2; to = 4 } ∷ record { from = 3; to = 4 } ∷ [];
  paths = (1 ∷ 2 ∷ 4 ∷ []) ∷ (1 ∷ 3 ∷ 4 ∷ []) ∷ [];
}

-- "Graph G1, hex: 01 04 02 41 43 01 47 02 54 54 02 43 41 04 01 02 01 03 02 04 03 04 02 03 01 02 04 03 01 03 04."
abbrev pub G1-file : List ℕ
G1-file =
    1 ∷ 4 ∷ 2 ∷ 0x41 ∷ 0x43 ∷ 1 ∷ 0x47 ∷ 2 ∷ 0x54 ∷ 0x54 ∷ 2 ∷ 0x43 ∷ 0x41
    ∷ 4 ∷ 1 ∷ 2 ∷ 1 ∷ 3 ∷ 2 ∷ 4 ∷ 3 ∷ 4
    ∷ 2 ∷ 3 ∷ 1 ∷ 2 ∷ 4 ∷ 3 ∷ 1 ∷ 3 ∷ 4 ∷ []

pub G1-written : encode_graph G1 ≡ G1-file
unfolding encode_graph encode_labels encode_edges encode_paths encode_numbers encode
G1-written = refl

pub G1-accepted : graph_of G1-file ≡ good (record { graph = G1; labels_at = 2; edges_at = 14; paths_at = 23 })
unfolding graph_of front_of front_in rest_of number_at labels_from letters_from is_letter edges_from edge_fault paths_from vertices_from vertex_fault is_step is_edge cover_fault all_on is_on_any is_on
G1-accepted = refl
