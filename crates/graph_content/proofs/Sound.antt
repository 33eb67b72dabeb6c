-- What content without fault is: counts in range, labels within the letters, edges that rise, paths within their rooms.
-- Assumes nothing.
use Prim.Native.Nat.{ℕ, zero, suc, ◌+◌, ◌*◌, ◌≤◌, ◌<◌}
use mathlib.Core.Path.{◌≡◌, refl, sym, ap, ◌∙◌, subst}
use mathlib.Core.List.{List, []}
use mathlib.Core.Bool.{Bool, true, false, ◌&&◌}
use native.Mathlib.Omega.{arith}
use native.Mathlib.Decide.{ℕ_discrete}
use lib.ListN.{length, get_or}
use Rattle.wire.specs.Found.{first, refusal_number}
use Rattle.wire.specs.Cases.{pick}
use Rattle.wire.specs.Refusals.{no_vertex, not_rising}
use Rattle.wire.specs.Sizes.{most_vertices, most_edges, most_paths, path_room}
use Rattle.wire.proofs.Giving.{number_fault}
use Rattle.graph.specs.Content.{Edge, Graph, vertex_count, edge_count}
use Rattle.graph.specs.Rules.{is_vertex, edge_below, no_edge, vertex_count_fault, length_fault, edge_count_fault, edge_fault, vertex_fault}
use Rattle.graph.specs.Entries.{Given, edge_in, labels_in, graph_in, graph_given}
use Rattle.graph_content.specs.Used.{Roomed}
use Rattle.graph_content.specs.Faults.{letters_fault, labels_fault, edges_fault, vertices_fault, paths_fault, Rising}
use Rattle.graph_content.specs.Flags.{Inside}
use Rattle.graph.proofs.ContentReading.{of_labels, of_edges, of_front, of_rest, of_graph, given-number, given-good}
use Rattle.graph.proofs.Givens.{length-numbers, length-labels, length-edges, length-paths, paths-each}
use Rattle.graph.proofs.RoundTrips.{all_at, given_in}
use Rattle.graph_content.proofs.Givens.{letters_of}
use Rattle.graph_content.proofs.Faulting.{first-zero, within, vertex_parts, rise-good}

-- ---- edges

below : (a b : Bool) → pick a (pick b 0 not_rising) no_vertex ≡ 0 → b ≡ true
below true true h = refl
below true false h = absurd (let z : ◌≡◌ {A = ℕ} 7 0 = h in omega arith)
below false b h = absurd (let z : ◌≡◌ {A = ℕ} 6 0 = h in omega arith)

edge-rises : (n : ℕ) (d e : Edge) → edge_fault n d e ≡ 0 → edge_below d e ≡ true
unfolding edge_fault
edge-rises n d e h = below (◌&&◌ (is_vertex n e.from) (is_vertex n e.to)) (edge_below d e) h

rising_from : (n left i : ℕ) (last : Edge) (edges : List ℕ) → edges_fault n left i last edges ≡ 0
    → (j : ℕ) → i ≤ j → j + 1 < i + left → edge_below (edge_in edges j) (edge_in edges (j + 1)) ≡ true
unfolding edges_fault
rising_from n zero i last edges z j h k = absurd (omega arith)
rising_from n (suc zero) i last edges z j h k = absurd (omega arith)
rising_from n (suc (suc left)) i last edges z j h k =
    let p = first-zero (edge_fault n last (edge_in edges i)) _ z in
    let q = first-zero (edge_fault n (edge_in edges i) (edge_in edges (i + 1))) _ p.1 in
    elim (ℕ_discrete i j) [
      | yes e ↦
          subst (λ (t : ℕ). edge_below (edge_in edges t) (edge_in edges (t + 1)) ≡ true) e
          (edge-rises n (edge_in edges i) (edge_in edges (i + 1)) q.0)
      | no d ↦ rising_from n (suc left) (i + 1) (edge_in edges i) edges p.1 j (omega arith) (omega arith)
    ]

-- edges without fault rise
pub edges-rise : (n m : ℕ) (edges : List ℕ) → edges_fault n m 0 no_edge edges ≡ 0 → Rising m edges
edges-rise n m edges z i h = rising_from n m 0 no_edge edges z i (omega arith) (omega arith)

-- ---- paths

vertices-inside : (n : ℕ) (es : List Edge) (left at last : ℕ) (paths : List ℕ) → vertices_fault n es left at last paths ≡ 0
    → (j : ℕ) → j < left → (1 ≤ get_or paths (at + j) 0) × (get_or paths (at + j) 0 ≤ n)
unfolding vertices_fault
vertices-inside n es zero at last paths z j h = absurd (omega arith)
vertices-inside n es (suc left) at last paths z zero h =
    let p = first-zero _ _ z in
    let q = first-zero _ _ (sym (vertex_parts n es last (get_or paths at 0)) ∙ p.0) in
    let g = rise-good n last (get_or paths at 0) q.0 in
    let e : at + 0 ≡ at = omega arith in
    rw e (g.0, g.1)
vertices-inside n es (suc left) at last paths z (suc j) h =
    let p = first-zero (vertex_fault n es last (get_or paths at 0)) _ z in
    let r = vertices-inside n es left (at + 1) (get_or paths at 0) paths p.1 j (omega arith) in
    let e : at + suc j ≡ at + 1 + j = omega arith in
    rw e r

paths-from : (n : ℕ) (es : List Edge) (left i : ℕ) (paths counts : List ℕ) → paths_fault n es left i paths counts ≡ 0
    → (j : ℕ) → i ≤ j → j < i + left
    → (get_or counts j 0 ≤ n) × (vertices_fault n es (get_or counts j 0) (path_room * j) 0 paths ≡ 0)
unfolding paths_fault
paths-from n es zero i paths counts z j h k = absurd (omega arith)
paths-from n es (suc left) i paths counts z j h k =
    let p = first-zero _ _ z in
    let q = first-zero (vertices_fault n es (get_or counts i 0) (path_room * i) 0 paths) _ p.1 in
    elim (ℕ_discrete i j) [
      | yes e ↦
          subst (λ (t : ℕ). (get_or counts t 0 ≤ n) × (vertices_fault n es (get_or counts t 0) (path_room * t) 0 paths ≡ 0)) e
          ((within 1 (get_or counts i 0) (get_or counts i 0) n p.0).1, q.0)
      | no d ↦ paths-from n es left (i + 1) paths counts q.1 j (omega arith) (omega arith)
    ]

module _ (n : ℕ) (es : List Edge) (k : ℕ) (paths counts : List ℕ) (few : n ≤ most_vertices) (z : paths_fault n es k 0 paths counts ≡ 0) where
  -- paths without fault lie within their rooms
  pub paths_roomed : Roomed k counts
  paths_roomed i h = omega (arith, (paths-from n es k 0 paths counts z i (omega arith) (omega arith)).0)

  -- their vertices are there
  pub paths-inside : Inside most_vertices k paths counts
  paths-inside i j h g =
      let v = vertices-inside n es (get_or counts i 0) (path_room * i) 0 paths (paths-from n es k 0 paths counts z i (omega arith) (omega arith)).1 j g in
      (v.0, omega arith)

-- ---- the whole

pub record Sound (c : Given) : Type 0 where
  pub few_vertices : c.n ≤ most_vertices
  pub few_edges : c.m ≤ most_edges
  pub few_paths : c.k ≤ most_paths
  pub labels : labels_fault c.n 0 0 c.buffers.letters c.buffers.lengths ≡ 0
  pub roomed : Roomed c.k c.buffers.counts

-- labels that the reader would take have no fault
labels_clear : (left i sum : ℕ) (letters lengths : List ℕ) → of_labels sum (labels_in left i sum letters lengths) ≡ 0
    → labels_fault left i sum letters lengths ≡ 0
unfolding of_labels labels_in labels_fault
labels_clear zero i sum letters lengths z = refl
labels_clear (suc left) i sum letters lengths z =
    let len : ℕ = get_or lengths i 0 in
    let y = rw (length-numbers len sum letters, letters_of len sum letters) at z in
    let a = first-zero (number_fault len) _ y in
    let b = first-zero (length_fault sum len) _ a.1 in
    let c = first-zero (letters_fault len letters sum) _ b.1 in
    simp (b.0, c.0, labels_clear left (i + 1) (sum + len) letters lengths c.1)

third : (a b c d : ℕ) → first a (first b (first c d)) ≡ 0 → c ≡ 0
third a b c d z = (first-zero c d (first-zero b (first c d) (first-zero a (first b (first c d)) z).1).1).0

labels-taken : (g : Graph) → of_graph g ≡ 0 → of_labels 0 g.labels ≡ 0
unfolding of_graph of_front
labels-taken g z =
    third (number_fault (vertex_count g)) (vertex_count_fault (vertex_count g)) (of_labels 0 g.labels)
    (first (number_fault (edge_count g)) (first (edge_count_fault (edge_count g)) (of_edges (vertex_count g) no_edge g.edges)))
    (first-zero (of_front g) (of_rest g) z).0

-- content that the reader would take is sound
pub sound : (c : Given) → refusal_number (graph_given c) ≡ 0 → Sound c
sound c z =
    let b = c.buffers in
    let h = (given_in c (graph_in c) (given-good c z)).1 in
    let k : length (graph_in c).paths ≡ c.k = length-paths c.k 0 b.paths b.counts in
    record {
      few_vertices = omega (arith, h.few_vertices, length-labels c.n 0 0 b.letters b.lengths);
      few_edges = omega (arith, h.few_edges, length-edges c.m 0 b.edges);
      few_paths = omega (arith, h.few_paths);
      labels = labels_clear c.n 0 0 b.letters b.lengths (labels-taken (graph_in c) (sym (given-number c) ∙ z));
      roomed = λ i o.
          let e : 0 + i ≡ i = omega arith in
          let l = (all_at (λ (p : List ℕ). (1 ≤ length p) × (length p ≤ vertex_count (graph_in c))) (graph_in c).paths i [] h.path_lengths (omega arith)).1 in
          let n : length (get_or (graph_in c).paths i []) ≡ get_or b.counts i 0 =
          ap length (paths-each c.k 0 b.paths b.counts i o)
          ∙ length-numbers (get_or b.counts (0 + i) 0) (path_room * (0 + i)) b.paths
          ∙ ap (λ (j : ℕ). get_or b.counts j 0) e in
          omega (arith, h.few_vertices);
    }
