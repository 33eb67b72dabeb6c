-- The first fault of content, in the reader's order, and that it is what the reader would find.
-- Assumes nothing.
use Prim.Native.Nat.{ℕ, zero, suc, ◌+◌, ◌*◌, ◌^◌}
use mathlib.Core.Path.{◌≡◌, refl, ap, ◌∙◌}
use mathlib.Core.List.{List}
use native.Mathlib.Decide.{ℕ_discrete}
use lib.ListN.{get_or}
use borrow.Author.Tests.{eq-eqb, ne_eqb, lt-ltb}
use Rattle.wire.specs.Found.{first, refusal_number}
use Rattle.wire.specs.Sizes.{path_room}
use Rattle.graph.specs.Content.{Edge}
use Rattle.graph.specs.Rules.{vertex_count_fault, letter_fault, edge_count_fault, no_edge, path_count_fault, cover_fault}
use Rattle.graph.specs.Entries.{Given, edge_in, numbers_in, labels_in, edges_in, paths_in, graph_in, graph_given}
use Rattle.graph.proofs.ContentReading.{of_letters, of_labels, of_edges, of_vertices, of_paths, of_front, of_rest, of_graph, given-number}
use Rattle.graph.proofs.Givens.{length-numbers, length-labels, length-edges, length-paths}
use Rattle.graph_content.specs.Used.{Fit, Fits}
use Rattle.graph_content.specs.Faults.{letters_fault, labels_fault, edges_fault, vertices_fault, paths_fault}

-- ---- the sections

-- the first fault of all the content, in the reader's order
unfoldable pub content_fault : Given → ℕ
content_fault c =
    first (vertex_count_fault c.n)
    (first (labels_fault c.n 0 0 c.buffers.letters c.buffers.lengths)
    (first (edge_count_fault c.m)
    (first (edges_fault c.n c.m 0 no_edge c.buffers.edges)
    (first (path_count_fault c.k)
    (first (paths_fault c.n (edges_in c.m 0 c.buffers.edges) c.k 0 c.buffers.paths c.buffers.counts)
    (cover_fault c.n (paths_in c.k 0 c.buffers.paths c.buffers.counts)))))))

pub letters_of : (left at : ℕ) (letters : List ℕ) → of_letters (numbers_in left at letters) ≡ letters_fault left letters at
unfolding of_letters numbers_in letters_fault
letters_of zero at letters = refl
letters_of (suc left) at letters = ap (first (letter_fault (get_or letters at 0))) (letters_of left (at + 1) letters)

labels_of : (left i sum : ℕ) (letters lengths : List ℕ) → Fit lengths
    → of_labels sum (labels_in left i sum letters lengths) ≡ labels_fault left i sum letters lengths
unfolding of_labels labels_in labels_fault
labels_of zero i sum letters lengths f = refl
labels_of (suc left) i sum letters lengths f =
    let len : ℕ = get_or lengths i 0 in
    simp (
      length-numbers len sum letters,
      lt-ltb len (2 ^ 32) (f i),
      letters_of len sum letters,
      labels_of left (i + 1) (sum + len) letters lengths f,
    )

edges_of : (n left i : ℕ) (last : Edge) (edges : List ℕ) → Fit edges → of_edges n last (edges_in left i edges) ≡ edges_fault n left i last edges
unfolding of_edges edges_in edges_fault
edges_of n zero i last edges f = refl
edges_of n (suc left) i last edges f =
    simp (
      lt-ltb (get_or edges (2 * i) 0) (2 ^ 32) (f (2 * i)),
      lt-ltb (get_or edges (2 * i + 1) 0) (2 ^ 32) (f (2 * i + 1)),
      edges_of n left (i + 1) (edge_in edges i) edges f,
    )

vertices_of : (n : ℕ) (es : List Edge) (left at last : ℕ) (paths : List ℕ) → Fit paths
    → of_vertices n es last (numbers_in left at paths) ≡ vertices_fault n es left at last paths
unfolding of_vertices numbers_in vertices_fault
vertices_of n es zero at last paths f = refl
vertices_of n es (suc left) at last paths f =
    simp (lt-ltb (get_or paths at 0) (2 ^ 32) (f at), vertices_of n es left (at + 1) (get_or paths at 0) paths f)

paths_of : (n : ℕ) (es : List Edge) (left i : ℕ) (paths counts : List ℕ) → Fit paths → Fit counts
    → of_paths n es (paths_in left i paths counts) ≡ paths_fault n es left i paths counts
unfolding of_paths paths_in paths_fault
paths_of n es zero i paths counts f g = refl
paths_of n es (suc left) i paths counts f g =
    let count : ℕ = get_or counts i 0 in
    simp (
      length-numbers count (path_room * i) paths,
      lt-ltb count (2 ^ 32) (g i),
      vertices_of n es count (path_room * i) 0 paths f,
      paths_of n es left (i + 1) paths counts f g,
    )

-- ---- the whole

first_in : (a b c : ℕ) → first (first a b) c ≡ first a (first b c)
first_in a b c =
    elim (ℕ_discrete a 0) [
      | yes e ↦ simp (eq-eqb a 0 e)
      | no n ↦ simp (ne_eqb a 0 n)
    ]

graph_of : (c : Given) → Fits c → of_graph (graph_in c) ≡ content_fault c
unfolding of_graph of_front of_rest content_fault
graph_of c f =
    let b = c.buffers in
    simp (
      length-labels c.n 0 0 b.letters b.lengths,
      length-edges c.m 0 b.edges,
      length-paths c.k 0 b.paths b.counts,
      lt-ltb c.n (2 ^ 32) f.n,
      lt-ltb c.m (2 ^ 32) f.m,
      lt-ltb c.k (2 ^ 32) f.k,
      labels_of c.n 0 0 b.letters b.lengths f.lengths,
      edges_of c.n c.m 0 no_edge b.edges f.edges,
      paths_of c.n (edges_in c.m 0 b.edges) c.k 0 b.paths b.counts f.paths f.counts,
      first_in,
    )

-- What the reader would find in the content is its first fault.
pub given-fault : (c : Given) → Fits c → refusal_number (graph_given c) ≡ content_fault c
given-fault c f = given-number c ∙ graph_of c f
