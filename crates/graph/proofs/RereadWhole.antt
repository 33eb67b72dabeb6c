-- A graph that keeps the rules, encoded, is accepted where it is short enough, and what is read is that graph.
-- Assumes nothing.
use Prim.Native.Nat.{ℕ, ◌+◌, ◌≤◌}
use mathlib.Core.Path.{◌≡◌, refl, sym, ap, ap₂, ◌∙◌}
use mathlib.Core.Logic.{inl}
use mathlib.Core.List.{List, [], ◌∷◌, ◌++◌, append-nil}
use native.Mathlib.Omega.{arith}
use lib.ListN.{length, drop, length-append}
use borrow.Author.Tests.{le-leb, eq-eqb}
use Rattle.wire.specs.Found.{Found, good, Part, and_then}
use Rattle.wire.specs.Numbers.{encode, number_at}
use Rattle.wire.specs.Sizes.{graph_kind, most_file_bytes, most_vertices, most_edges, most_paths}
use Rattle.wire.proofs.Reading.{read_same}
use Rattle.wire.proofs.Finding.{good-same}
use Rattle.wire.proofs.NumberLaws.{number_suffix}
use Rattle.graph.specs.Content.{Edge, Graph, vertex_count, edge_count, path_count}
use Rattle.graph.specs.Good.{All, Next, Vertex, EdgeBelow, GoodGraph}
use Rattle.graph.specs.Rules.{vertex_count_fault, edge_count_fault, path_count_fault, cover_fault, no_edge}
use Rattle.graph.specs.Encode.{encode_graph, encode_labels, encode_edges, encode_paths}
use Rattle.graph.specs.Reading.{Front, labels_from, edges_from, paths_from, front_in, front_of, rest_of, whole_of, graph_of}
use Rattle.graph.specs.Placed.{labels_start, edges_start, paths_start, parsed_of}
use Rattle.graph.proofs.Kept.{range_free, cover_free}
use Rattle.graph.proofs.Rereading.{Again, labels_again, edges_again, paths_again}

front-found : (wanted : ℕ) (s : List ℕ) (a n b : ℕ) (l : Part (List (List ℕ))) (m c : ℕ) (r : Part (List Edge))
    → number_at s 0 ≡ good (record { content = wanted; next = a })
    → number_at s a ≡ good (record { content = n; next = b })
    → vertex_count_fault n ≡ 0
    → labels_from n 0 s b ≡ good l
    → number_at s l.next ≡ good (record { content = m; next = c })
    → edge_count_fault m ≡ 0
    → edges_from n m no_edge s c ≡ good r
    → front_in wanted s ≡ good (record { labels = l.content; edges = r.content; labels_at = b; edges_at = c; next = r.next })
unfolding front_in
front-found wanted s a n b l m c r e1 e2 k2 e3 e4 k4 e5 =
    simp (e1, eq-eqb wanted wanted refl, e2, k2, e3, e4, k4, e5)

rest-found : (s : List ℕ) (f : Front) (k d : ℕ) (r : Part (List (List ℕ)))
    → number_at s f.next ≡ good (record { content = k; next = d })
    → path_count_fault k ≡ 0
    → paths_from (length f.labels) f.edges k s d ≡ good r
    → cover_fault (length f.labels) r.content ≡ 0
    → r.next ≡ length s
    → rest_of s f
    ≡ good (record {
      graph = record { labels = f.labels; edges = f.edges; paths = r.content };
      labels_at = f.labels_at;
      edges_at = f.edges_at;
      paths_at = d;
    })
unfolding rest_of
rest-found s f k d r e1 k1 e2 c end = simp (e1, k1, e2, c, eq-eqb r.next (length s) end)

-- below every edge that has vertices
pub none_below : (n : ℕ) (es : List Edge) → All (λ e. Vertex n e.from × Vertex n e.to) es → Next EdgeBelow es → Next EdgeBelow (no_edge ∷ es)
unfolding All Next
none_below n [] a h = tt
none_below n (e ∷ es) a h = (inl (omega (arith, a.0.0.0)), h)

module _ (g : Graph) (h : GoodGraph g) (s : List ℕ) (e : s ≡ encode_graph g) where
  -- what stands from the edges' count on
  after_labels : List ℕ
  after_labels = encode (edge_count g) ++ (encode_edges g.edges ++ (encode (path_count g) ++ encode_paths g.paths))

  kind_again : (number_at s 0 ≡ good (record { content = graph_kind; next = length (encode graph_kind) }))
      × (drop (length (encode graph_kind)) s ≡ encode (vertex_count g) ++ (encode_labels g.labels ++ after_labels))
  unfolding encode_graph after_labels encode
  kind_again = number_suffix s 0 graph_kind _ (omega arith) e

  count_again : (number_at s (length (encode graph_kind)) ≡ good (record { content = vertex_count g; next = labels_start g }))
      × (drop (labels_start g) s ≡ encode_labels g.labels ++ after_labels)
  unfolding labels_start
  count_again = number_suffix s (length (encode graph_kind)) (vertex_count g) _ (omega (arith, h.few_vertices)) kind_again.1

  labels-found : Again (labels_from (vertex_count g) 0 s (labels_start g)) g.labels s (labels_start g) (encode_labels g.labels) after_labels
  labels-found = labels_again g.labels 0 s (labels_start g) after_labels h.some_letter h.letters (omega (arith, h.few_letters)) count_again.1

  edge-count_again : (number_at s (labels_start g + length (encode_labels g.labels)) ≡ good (record { content = edge_count g; next = edges_start g }))
      × (drop (edges_start g) s ≡ encode_edges g.edges ++ (encode (path_count g) ++ encode_paths g.paths))
  unfolding edges_start after_labels
  edge-count_again =
      number_suffix s (labels_start g + length (encode_labels g.labels)) (edge_count g) _ (omega (arith, h.few_edges)) labels-found.left

  edges-found : Again (edges_from (vertex_count g) (edge_count g) no_edge s (edges_start g)) g.edges s (edges_start g) (encode_edges g.edges)
      (encode (path_count g) ++ encode_paths g.paths)
  edges-found =
      edges_again (vertex_count g) g.edges no_edge s (edges_start g) _ (omega (arith, h.few_vertices)) h.edge_ends
      (none_below (vertex_count g) g.edges h.edge_ends h.edges_rise) edge-count_again.1

  path-count_again : (number_at s (edges_start g + length (encode_edges g.edges)) ≡ good (record { content = path_count g; next = paths_start g }))
      × (drop (paths_start g) s ≡ encode_paths g.paths)
  unfolding paths_start
  path-count_again =
      number_suffix s (edges_start g + length (encode_edges g.edges)) (path_count g) (encode_paths g.paths) (omega (arith, h.few_paths)) edges-found.left

  paths-found : Again (paths_from (vertex_count g) g.edges (path_count g) s (paths_start g)) g.paths s (paths_start g) (encode_paths g.paths) []
  paths-found =
      paths_again (vertex_count g) g.edges g.paths s (paths_start g) [] (omega (arith, h.few_vertices)) h.path_lengths h.path_vertices
      h.paths_rise h.path_steps (path-count_again.1 ∙ sym (append-nil (encode_paths g.paths)))

  -- the paths end with the file
  paths_end : paths_start g + length (encode_paths g.paths) ≡ length s
  unfolding encode_graph labels_start edges_start paths_start
  paths_end = let l = simp length-append at (ap length e) in omega arith

  read_again : whole_of s ≡ good (parsed_of g)
  unfolding whole_of
  read_again =
      ap (λ (x : Found Front). and_then x (rest_of s))
      (front-found graph_kind s (length (encode graph_kind)) (vertex_count g) (labels_start g) _ (edge_count g) (edges_start g) _
      kind_again.0 count_again.0 (range_free 1 most_vertices (vertex_count g) h.some_vertex h.few_vertices) labels-found.found
      edge-count_again.0 (range_free 0 most_edges (edge_count g) (omega arith) h.few_edges) edges-found.found)
      ∙ rest-found s _ (path_count g) (paths_start g) _ path-count_again.0 (range_free 1 most_paths (path_count g) h.some_path h.few_paths)
      paths-found.found (cover_free (vertex_count g) g.paths h.covered) paths_end

-- what a good graph's encoding is read as, however long it is
pub whole_again : (g : Graph) → GoodGraph g → whole_of (encode_graph g) ≡ good (parsed_of g)
whole_again g h = read_again g h (encode_graph g) refl

-- bytes that are not too long are read as a file
whole_short : (s : List ℕ) → length s ≤ most_file_bytes → graph_of s ≡ whole_of s
unfolding graph_of whole_of front_of
whole_short s short = simp (le-leb (length s) most_file_bytes short)

pub graph_again : (g : Graph) → GoodGraph g → length (encode_graph g) ≤ most_file_bytes → graph_of (encode_graph g) ≡ good (parsed_of g)
graph_again g h short = whole_short (encode_graph g) short ∙ whole_again g h

-- ---- an encoding is that of one graph, however long it is

part_same : {A : Type 0} (q r : Part A) → good q ≡ good r → (q.content ≡ r.content) × (q.next ≡ r.next)
part_same {A} q r e = let s = good-same q r e in (ap (λ (t : Part A). t.content) s, ap (λ (t : Part A). t.next) s)

module _ (g h : Graph) (good-g : GoodGraph g) (good-h : GoodGraph h) (e : encode_graph g ≡ encode_graph h) where
  abbrev bytes : List ℕ
  bytes = encode_graph g

  counts_same : (vertex_count g ≡ vertex_count h) × (labels_start g ≡ labels_start h)
  counts_same = read_same (sym (count_again g good-g bytes refl).0 ∙ (count_again h good-h bytes e).0)

  labels-same : (g.labels ≡ h.labels) × (labels_start g + length (encode_labels g.labels) ≡ labels_start h + length (encode_labels h.labels))
  labels-same =
      part_same _ _
      (sym (labels-found g good-g bytes refl).found
      ∙ ap₂ (λ (n at : ℕ). labels_from n 0 bytes at) counts_same.0 counts_same.1
      ∙ (labels-found h good-h bytes e).found)

  edge-counts-same : (edge_count g ≡ edge_count h) × (edges_start g ≡ edges_start h)
  edge-counts-same =
      read_same
      (sym (edge-count_again g good-g bytes refl).0 ∙ ap (λ (at : ℕ). number_at bytes at) labels-same.1 ∙ (edge-count_again h good-h bytes e).0)

  edges-same : (g.edges ≡ h.edges) × (edges_start g + length (encode_edges g.edges) ≡ edges_start h + length (encode_edges h.edges))
  edges-same =
      part_same _ _
      (sym (edges-found g good-g bytes refl).found
      ∙ ap (λ (n : ℕ). edges_from n (edge_count g) no_edge bytes (edges_start g)) counts_same.0
      ∙ ap₂ (λ (m at : ℕ). edges_from (vertex_count h) m no_edge bytes at) edge-counts-same.0 edge-counts-same.1
      ∙ (edges-found h good-h bytes e).found)

  path-counts-same : (path_count g ≡ path_count h) × (paths_start g ≡ paths_start h)
  path-counts-same =
      read_same
      (sym (path-count_again g good-g bytes refl).0 ∙ ap (λ (at : ℕ). number_at bytes at) edges-same.1 ∙ (path-count_again h good-h bytes e).0)

  paths-same : (g.paths ≡ h.paths) × (paths_start g + length (encode_paths g.paths) ≡ paths_start h + length (encode_paths h.paths))
  paths-same =
      part_same _ _
      (sym (paths-found g good-g bytes refl).found
      ∙ ap₂ (λ (n : ℕ) (es : List Edge). paths_from n es (path_count g) bytes (paths_start g)) counts_same.0 edges-same.0
      ∙ ap₂ (λ (k at : ℕ). paths_from (vertex_count h) h.edges k bytes at) path-counts-same.0 path-counts-same.1
      ∙ (paths-found h good-h bytes e).found)

  pub encode-one-graph : g ≡ h
  encode-one-graph =
      ap (λ (l : List (List ℕ)). record { labels = l; edges = g.edges; paths = g.paths }) labels-same.0
      ∙ ap₂ (λ (es : List Edge) (ps : List (List ℕ)). record { labels = h.labels; edges = es; paths = ps }) edges-same.0 paths-same.0
