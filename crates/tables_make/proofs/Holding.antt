-- What the reader leaves in buffers of full size is the graph's content. Assumes nothing.
use Prim.Native.Nat.{ℕ, ◌+◌, ◌-◌, ◌*◌, ◌≤◌, ◌<◌}
use mathlib.Core.Path.{◌≡◌, refl, ◌∙◌}
use mathlib.Core.List.{List, [], ◌∷◌}
use native.Mathlib.Omega.{arith}
use lib.ListN.{length, get_or, take, drop, length-map, length-take, length-drop}
use lib.Seq.{get_or-take, get_or-drop, ext_get_or}
use Rattle.wire.specs.Sizes.{table_row, path_room, full_lengths, full_edges, full_paths, full_counts}
use Rattle.wire.specs.Lent.{laid}
use Rattle.wire.proofs.Laying.{laid_at, length-laid}
use Rattle.rounds.specs.Rounds.{Within}
use Rattle.rounds.proofs.Upto.{within}
use Rattle.graph.specs.Content.{Edge, Graph, vertex_count, edge_count, path_count, lengths_of, edge_numbers, path_numbers, counts_of}
use Rattle.graph.specs.Good.{All, GoodGraph}
use Rattle.graph.specs.Entries.{Buffers, filled}
use Rattle.graph_fill.proofs.Packing.{length-rooms}
use Rattle.cover.specs.Cells.{vertex}
use Rattle.cover.specs.CoverDistance.{path_at}
use Rattle.cover.proofs.GoodLaws.{path-short}
use Rattle.cover.proofs.ContentLaws.{label_at, from_at, to_at, count_at_lem, vertex_at}
use Rattle.table_rounds.specs.Held.{path_in, Holds}

edge-long : (es : List Edge) → length (edge_numbers es) ≡ 2 * length es
unfolding edge_numbers
edge-long [] = refl
edge-long (e ∷ es) = omega (arith, edge-long es)

all_short : (n : ℕ) → n ≤ path_room → (ps : List (List ℕ)) → All (λ p. (1 ≤ length p) × (length p ≤ n)) ps → All (λ p. length p ≤ path_room) ps
unfolding All
all_short n l [] h = tt
all_short n l (p ∷ ps) h = (omega arith, all_short n l ps h.1)

module _ (g : Graph) (G : GoodGraph g) where
  rooms-long : length (path_numbers g.paths) ≡ path_room * path_count g
  rooms-long = length-rooms g.paths (all_short (vertex_count g) G.few_vertices g.paths G.path_lengths)

  module _ (paths counts : List ℕ) (long : full_paths ≤ length paths)
      (at : (q : ℕ) → q < full_paths → get_or paths q 0 ≡ get_or (path_numbers g.paths) q 0) (count : (i : ℕ) → Within table_row i → get_or counts (i - 1) 0 ≡ length (path_at g i)) where
    path-is : (i : ℕ) → Within table_row i → path_in paths counts i ≡ path_at g i
    unfolding path_in vertex
    path-is i k = ext_get_or 0 (take c (drop a paths)) (path_at g i) long-is (λ j h. same j (omega (arith, long-is)))
      where
        a : ℕ
        a = path_room * (i - 1)

        c : ℕ
        c = get_or counts (i - 1) 0

        long-is : length (take c (drop a paths)) ≡ length (path_at g i)
        long-is = omega (arith, length-take c (drop a paths), length-drop a paths, count i k, path-short G i, G.few_vertices)

        same : (j : ℕ) → j < length (path_at g i) → get_or (take c (drop a paths)) j 0 ≡ get_or (path_at g i) j 0
        same j h =
            let s = path-short G i in
            let b = G.few_vertices in
            let e : j + 1 - 1 ≡ j = omega arith in
            get_or-take c (drop a paths) j 0 (omega (arith, count i k)) ∙ get_or-drop a paths j 0 ∙ at (a + j) (omega arith)
            ∙ rw e at (vertex_at g G i (j + 1) (within (omega arith) (omega arith)))

  -- the buffers after the reader hold the content
  pub holds-filled : (b after : Buffers) → full_lengths ≤ length b.lengths → full_edges ≤ length b.edges → full_paths ≤ length b.paths → full_counts ≤ length b.counts → after ≡ filled g b
      → Holds g (vertex_count g) (edge_count g) after.lengths after.edges after.paths after.counts
  unfolding filled
  holds-filled b after ll le lp lc e = rw e (record {
    good = G;
    vertices = refl;
    edges_are = refl;
    label_room = omega (arith, length-laid full_lengths (lengths_of g) b.lengths nl ll, G.few_vertices);
    labels = λ v w. laid_at full_lengths (lengths_of g) b.lengths nl (v - 1) (omega (arith, G.few_vertices)) ∙ label_at g v;
    edge_room = omega (arith, length-laid full_edges (edge_numbers g.edges) b.edges ne le, G.few_edges);
    froms = λ i w. laid_at full_edges (edge_numbers g.edges) b.edges ne (2 * (i - 1)) (omega (arith, G.few_edges)) ∙ from_at g i;
    tos = λ i w. laid_at full_edges (edge_numbers g.edges) b.edges ne (2 * (i - 1) + 1) (omega (arith, G.few_edges)) ∙ to_at g i;
    paths_room = omega (arith, length-laid full_paths (path_numbers g.paths) b.paths np lp);
    counts_room = omega (arith, length-laid full_counts (counts_of g) b.counts nc lc);
    short = λ i k. omega (arith, count i k, path-short G i, G.few_vertices);
    paths_are = path-is (laid full_paths (path_numbers g.paths) b.paths) (laid full_counts (counts_of g) b.counts) (omega (arith, length-laid full_paths (path_numbers g.paths) b.paths np lp)) (laid_at full_paths (path_numbers g.paths) b.paths np) count;
  })
    where
      nl : length (lengths_of g) ≤ full_lengths
      nl = omega (arith, length-map g.labels length, G.few_vertices)

      ne : length (edge_numbers g.edges) ≤ full_edges
      ne = omega (arith, edge-long g.edges, G.few_edges)

      np : length (path_numbers g.paths) ≤ full_paths
      np = omega (arith, rooms-long, G.few_paths)

      nc : length (counts_of g) ≤ full_counts
      nc = omega (arith, length-map g.paths length, G.few_paths)

      count : (i : ℕ) → Within table_row i → get_or (laid full_counts (counts_of g) b.counts) (i - 1) 0 ≡ length (path_at g i)
      count i k = laid_at full_counts (counts_of g) b.counts nc (i - 1) (omega arith) ∙ count_at_lem g i
