-- What reading a graph file finds: its content, or the first fault, "byte by byte from the front". s is the file, `at` a place in it.
use Rattle.std.specs.Prelude.{ℕ, zero, suc, ◌+◌, List, [], ◌∷◌, length, get_or, leb, ltb, eqb}
use Rattle.wire.specs.Cases.{pick}
use Rattle.wire.specs.Found.{Found, good, fault, Part, and_then, refuse}
use Rattle.wire.specs.Numbers.{number}
use Rattle.wire.specs.Refusals.{bytes_end, wrong_kind, out_of_range, left_over}
use Rattle.wire.specs.Sizes.{graph_kind, most_file_bytes}
use Rattle.graph.specs.Content.{Edge, Graph}
use Rattle.graph.specs.Rules.{vertex_count_fault, length_fault, letter_fault, edge_count_fault, no_edge, edge_fault, path_count_fault, path_length_fault, vertex_fault, cover_fault}

-- the letters, `left` of them: each is there, or "bytes end within the file", and is a letter, or "not a letter", at that byte
unfoldable pub letters_from : ℕ → List ℕ → ℕ → Found (List ℕ)
letters_from zero s at = good []
letters_from (suc left) s at =
    pick (ltb at (length s))
    (refuse (letter_fault (get_or s at 0)) at (and_then (letters_from left s (at + 1)) (λ ls. good (get_or s at 0 ∷ ls))))
    (fault bytes_end (length s))

-- the labels, `left` of them, after labels of `sum` letters together: "its label length and letters"
unfoldable pub labels_from : ℕ → ℕ → List ℕ → ℕ → Found (Part (List (List ℕ)))
labels_from zero sum s at = good (record { content = []; next = at })
labels_from (suc left) sum s at =
    number s at (λ len a.
    refuse (length_fault sum len) at
    (and_then (letters_from len s a) (λ l.
    and_then (labels_from left (sum + len) s (a + len)) (λ r.
    good (record { content = l ∷ r.content; next = r.next })))))

-- the edges, `left` of them, in a graph of n vertices, after the edge `last`: "An edge's two numbers are read, then 6, 7."
unfoldable pub edges_from : ℕ → ℕ → Edge → List ℕ → ℕ → Found (Part (List Edge))
edges_from n zero last s at = good (record { content = []; next = at })
edges_from n (suc left) last s at =
    number s at (λ u a.
    number s a (λ v b.
    refuse (edge_fault n last (record { from = u; to = v })) at
    (and_then (edges_from n left (record { from = u; to = v }) s b) (λ r.
    good (record { content = record { from = u; to = v } ∷ r.content; next = r.next })))))

-- a path's vertices, `left` of them, after the vertex `last`, or 0: "A path's vertex: 6, 7, 8."
unfoldable pub vertices_from : ℕ → List Edge → ℕ → ℕ → List ℕ → ℕ → Found (Part (List ℕ))
vertices_from n es zero last s at = good (record { content = []; next = at })
vertices_from n es (suc left) last s at =
    number s at (λ v a.
    refuse (vertex_fault n es last v) at
    (and_then (vertices_from n es left v s a) (λ r.
    good (record { content = v ∷ r.content; next = r.next }))))

-- the paths, `left` of them: "its vertex count and its vertices"
unfoldable pub paths_from : ℕ → List Edge → ℕ → List ℕ → ℕ → Found (Part (List (List ℕ)))
paths_from n es zero s at = good (record { content = []; next = at })
paths_from n es (suc left) s at =
    number s at (λ count a.
    refuse (path_length_fault n count) at
    (and_then (vertices_from n es count 0 s a) (λ p.
    and_then (paths_from n es left s p.next) (λ r.
    good (record { content = p.content ∷ r.content; next = r.next })))))

-- a file up to its edges: what was read, where the labels and the edges start, and the place after the edges
pub record Front : Type 0 where
  pub labels : List (List ℕ)
  pub edges : List Edge
  pub labels_at : ℕ
  pub edges_at : ℕ
  pub next : ℕ

-- "byte by byte from the front": the kind, n, the labels, m, the edges
unfoldable pub front_in : ℕ → List ℕ → Found Front
front_in wanted s =
    number s 0 (λ kind a.
    refuse (pick (eqb kind wanted) 0 wrong_kind) 0
    (number s a (λ n b.
    refuse (vertex_count_fault n) a
    (and_then (labels_from n 0 s b) (λ labels.
    number s labels.next (λ m c.
    refuse (edge_count_fault m) labels.next
    (and_then (edges_from n m no_edge s c) (λ edges.
    good (record { labels = labels.content; edges = edges.content; labels_at = b; edges_at = c; next = edges.next })))))))))

-- "file too long; then byte by byte from the front"
unfoldable pub front_of : ℕ → List ℕ → Found Front
front_of wanted s = refuse (pick (leb (length s) most_file_bytes) 0 out_of_range) most_file_bytes (front_in wanted s)

-- an accepted file: its content, and where its labels, edges and paths start
pub record Parsed : Type 0 where
  pub graph : Graph
  pub labels_at : ℕ
  pub edges_at : ℕ
  pub paths_at : ℕ

-- K and the paths, and what follows the last path: "After the last path: 9, then 10."
unfoldable pub rest_of : List ℕ → Front → Found Parsed
rest_of s f =
    number s f.next (λ k d.
    refuse (path_count_fault k) f.next
    (and_then (paths_from (length f.labels) f.edges k s d) (λ paths.
    refuse (cover_fault (length f.labels) paths.content) paths.next
    (refuse (pick (eqb paths.next (length s)) 0 left_over) paths.next
    (good (record {
      graph = record { labels = f.labels; edges = f.edges; paths = paths.content };
      labels_at = f.labels_at;
      edges_at = f.edges_at;
      paths_at = d;
    }))))))

-- what the bytes s are read as, however many they are
unfoldable pub whole_of : List ℕ → Found Parsed
whole_of s = and_then (front_in graph_kind s) (rest_of s)

-- what reading the graph file s finds
unfoldable pub graph_of : List ℕ → Found Parsed
graph_of s = and_then (front_of graph_kind s) (rest_of s)
