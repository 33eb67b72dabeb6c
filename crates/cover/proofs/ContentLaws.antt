-- A graph's numbers as they lie in the lent buffers: labels' lengths, edges and paths. Assumes nothing.
use Prim.Native.Nat.{ℕ, zero, suc, ◌+◌, ◌-◌, ◌*◌, ◌≤◌, ◌<◌}
use mathlib.Core.Path.{◌≡◌, refl, ap, ◌∙◌}
use mathlib.Core.List.{List, [], ◌∷◌, ◌++◌, map, flatten}
use native.Mathlib.Omega.{arith}
use lib.ListN.{length, get_or, get_or-append, get_or-map}
use lib.Seq.{get_or-append-add}
use Rattle.wire.specs.Sizes.{path_room}
use Rattle.wire.specs.Lent.{padded}
use Rattle.wire.proofs.Laying.{length-padded, padded_at}
use Rattle.rounds.specs.Rounds.{Within}
use Rattle.graph.specs.Content.{Edge, Graph, vertex_count, lengths_of, edge_numbers, path_numbers, counts_of}
use Rattle.graph.specs.Rules.{no_edge}
use Rattle.graph.specs.Good.{All, GoodGraph}
use Rattle.cover.specs.Walks.{L, from, to}
use Rattle.cover.specs.Cells.{vertex}
use Rattle.cover.specs.CoverDistance.{path_at}

-- ---- the numbers of edges

edges-from : (es : List Edge) (q : ℕ) → get_or (edge_numbers es) (2 * q) 0 ≡ (get_or es q no_edge).from
unfolding edge_numbers
edges-from [] q = refl
edges-from (e ∷ es) zero = refl
edges-from (e ∷ es) (suc q) = let d : 2 * suc q ≡ suc (suc (2 * q)) = omega arith in rw d (edges-from es q)

edges-to : (es : List Edge) (q : ℕ) → get_or (edge_numbers es) (2 * q + 1) 0 ≡ (get_or es q no_edge).to
unfolding edge_numbers
edges-to [] q = refl
edges-to (e ∷ es) zero = refl
edges-to (e ∷ es) (suc q) = let d : 2 * suc q + 1 ≡ suc (suc (2 * q + 1)) = omega arith in rw d (edges-to es q)

-- ---- the numbers of paths

paths_at_lem : (ps : List (List ℕ)) → All (λ p. length p ≤ path_room) ps → (q k : ℕ) → k < path_room → get_or (flatten (map (padded path_room) ps)) (path_room * q + k) 0 ≡ get_or (get_or ps q []) k 0
unfolding flatten All
paths_at_lem [] h q k l = refl
paths_at_lem (p ∷ ps) h zero k l =
    let d : path_room * 0 + k ≡ k = omega arith in
    ap (λ (x : ℕ). get_or (padded path_room p ++ flatten (map (padded path_room) ps)) x 0) d
    ∙ get_or-append (padded path_room p) (flatten (map (padded path_room) ps)) 0 k (omega (arith, length-padded path_room p h.0)) ∙ padded_at path_room p k
paths_at_lem (p ∷ ps) h (suc q) k l =
    let d : path_room * suc q + k ≡ length (padded path_room p) + (path_room * q + k) = omega (arith, length-padded path_room p h.0) in
    ap (λ (x : ℕ). get_or (padded path_room p ++ flatten (map (padded path_room) ps)) x 0) d
    ∙ get_or-append-add (padded path_room p) (flatten (map (padded path_room) ps)) (path_room * q + k) 0 ∙ paths_at_lem ps h.1 q k l

all_map : {A : Type 0} (P Q : A → Type 0) → ((x : A) → P x → Q x) → (xs : List A) → All P xs → All Q xs
unfolding All
all_map P Q f [] h = tt
all_map P Q f (x ∷ xs) h = (f x h.0, all_map P Q f xs h.1)

-- ---- by their places

module _ (g : Graph) where
  pub label_at : (v : ℕ) → get_or (lengths_of g) (v - 1) 0 ≡ L g v
  unfolding L
  label_at v = get_or-map length g.labels (v - 1) []

  pub from_at : (e : ℕ) → get_or (edge_numbers g.edges) (2 * (e - 1)) 0 ≡ from g e
  unfolding from
  from_at e = edges-from g.edges (e - 1)

  pub to_at : (e : ℕ) → get_or (edge_numbers g.edges) (2 * (e - 1) + 1) 0 ≡ to g e
  unfolding to
  to_at e = edges-to g.edges (e - 1)

  pub count_at_lem : (i : ℕ) → get_or (counts_of g) (i - 1) 0 ≡ length (path_at g i)
  unfolding path_at
  count_at_lem i = get_or-map length g.paths (i - 1) []

  -- "Path i starts at place 1,024(i − 1)": the vertex at position a
  pub vertex_at : GoodGraph g → (i a : ℕ) → Within path_room a → get_or (path_numbers g.paths) (path_room * (i - 1) + (a - 1)) 0 ≡ vertex (path_at g i) a
  unfolding path_numbers path_at vertex
  vertex_at G i a w = paths_at_lem g.paths
      (all_map (λ p. (1 ≤ length p) × (length p ≤ vertex_count g)) (λ p. length p ≤ path_room) (λ p h. omega (arith, G.few_vertices)) g.paths G.path_lengths)
      (i - 1) (a - 1) (omega arith)
