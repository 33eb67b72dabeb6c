-- What the entries reply, and what the lent buffers hold afterwards, in every case.
use Rattle.std.specs.Prelude.{ℕ, zero, suc, ◌+◌, ◌*◌, List, [], ◌∷◌, Bool, ◌&&◌, length, get_or, leb}
use Rattle.wire.specs.Cases.{pick}
use Rattle.wire.specs.Found.{Found, as_content, Reply, accepted, refused, in_file, on_accepted}
use Rattle.wire.specs.Lent.{laid, front}
use Rattle.wire.specs.Refusals.{out_of_range, small_buffer, short_output, graph_file}
use Rattle.wire.specs.Sizes.{most_file_bytes, full_letters, full_lengths, full_edges, full_paths, full_counts, path_room}
use Rattle.graph.specs.Content.{Edge, Graph, letters_of, lengths_of, edge_numbers, path_numbers, counts_of}
use Rattle.graph.specs.Encode.{encode_graph}
use Rattle.graph.specs.Reading.{Parsed, whole_of, graph_of}

-- ---- the reader

-- the lent buffers of a graph
pub record Buffers : Type 0 where
  pub letters : List ℕ
  pub lengths : List ℕ
  pub edges : List ℕ
  pub paths : List ℕ
  pub counts : List ℕ

-- full size, by the lengths of the buffers: "letters 32,768; lengths 1,024; edges 8,192 numbers; paths 16,384 with 16 counts"
abbrev pub room_for : ℕ → ℕ → ℕ → ℕ → ℕ → Bool
room_for letters lengths edges paths counts =
    ◌&&◌ (leb full_letters letters)
    (◌&&◌ (leb full_lengths lengths)
    (◌&&◌ (leb full_edges edges)
    (◌&&◌ (leb full_paths paths) (leb full_counts counts))))

-- each has full size
unfoldable pub roomy : Buffers → Bool
roomy b = room_for (length b.letters) (length b.lengths) (length b.edges) (length b.paths) (length b.counts)

-- "13; file too long; then byte by byte from the front"
unfoldable pub read_reply : List ℕ → Buffers → Reply Parsed
read_reply file b = pick (roomy b) (in_file graph_file (graph_of file)) (refused small_buffer 0 0)

-- the buffers with a graph's content
unfoldable pub filled : Graph → Buffers → Buffers
filled g b = record {
  letters = laid full_letters (letters_of g) b.letters;
  lengths = laid full_lengths (lengths_of g) b.lengths;
  edges = laid full_edges (edge_numbers g.edges) b.edges;
  paths = laid full_paths (path_numbers g.paths) b.paths;
  counts = laid full_counts (counts_of g) b.counts;
}

-- "No refusal writes anything"; an acceptance leaves the content
abbrev pub read_after : Reply Parsed → Buffers → Buffers
read_after (accepted p) b = filled p.graph b
read_after (refused k file place) b = b

-- ---- the writer

-- content as a caller gives it: n, m, K, and the buffers, of which only the used places are looked at
pub record Given : Type 0 where
  pub n : ℕ
  pub m : ℕ
  pub k : ℕ
  pub buffers : Buffers

-- Content taken from the buffers without any test: "Content means the used places."
-- The numbers, `left` of them, from a place on.
unfoldable pub numbers_in : ℕ → ℕ → List ℕ → List ℕ
numbers_in zero at s = []
numbers_in (suc left) at s = get_or s at 0 ∷ numbers_in left (at + 1) s

-- the labels, `left` of them, from label i on (counted from 0), after labels of `sum` letters together
unfoldable pub labels_in : ℕ → ℕ → ℕ → List ℕ → List ℕ → List (List ℕ)
labels_in zero i sum letters lengths = []
labels_in (suc left) i sum letters lengths =
    numbers_in (get_or lengths i 0) sum letters ∷ labels_in left (i + 1) (sum + get_or lengths i 0) letters lengths

-- edge i of the edges' numbers, counted from 0
abbrev pub edge_in : List ℕ → ℕ → Edge
edge_in edges i = record { from = get_or edges (2 * i) 0; to = get_or edges (2 * i + 1) 0 }

-- the edges, `left` of them, from edge i on
unfoldable pub edges_in : ℕ → ℕ → List ℕ → List Edge
edges_in zero i edges = []
edges_in (suc left) i edges = edge_in edges i ∷ edges_in left (i + 1) edges

-- the paths, `left` of them, from path i on (counted from 0): "Path i starts at place 1,024(i − 1)"
unfoldable pub paths_in : ℕ → ℕ → List ℕ → List ℕ → List (List ℕ)
paths_in zero i paths counts = []
paths_in (suc left) i paths counts = numbers_in (get_or counts i 0) (path_room * i) paths ∷ paths_in left (i + 1) paths counts

-- the graph in the used places
abbrev pub graph_in : Given → Graph
graph_in c = record {
  labels = labels_in c.n 0 0 c.buffers.letters c.buffers.lengths;
  edges = edges_in c.m 0 c.buffers.edges;
  paths = paths_in c.k 0 c.buffers.paths c.buffers.counts;
}

-- the graph that is given, or the first fault of the content: "as the reader would for that content"
unfoldable pub graph_given : Given → Found Graph
graph_given c = as_content (λ p. p.graph) (whole_of (encode_graph (graph_in c)))

-- "then 4 with place 65,536 if the file would pass 65,536 bytes, then 14, which is given exactly if the encoding is longer than the room"
unfoldable pub size_reply : ℕ → Graph → Reply Graph
size_reply room g =
    pick (leb (length (encode_graph g)) most_file_bytes)
    (pick (leb (length (encode_graph g)) room) (accepted g) (refused short_output 0 0))
    (refused out_of_range graph_file most_file_bytes)

-- "A writer gives 13, then 4 to 9, 11 and 12 as the reader would for that content", then the size; `room` is the output's length
unfoldable pub write_reply : Given → ℕ → Reply Graph
write_reply c room =
    pick (roomy c.buffers) (on_accepted (in_file graph_file (graph_given c)) (size_reply room)) (refused small_buffer 0 0)

-- the output: the encoding at its front, or as it was
abbrev pub write_after : Reply Graph → List ℕ → List ℕ
write_after (accepted g) out = front (encode_graph g) out
write_after (refused k file place) out = out
