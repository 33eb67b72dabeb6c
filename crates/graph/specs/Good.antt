-- Every rule of the graph file, in no order: what content a graph file may have.
use Rattle.std.specs.Prelude.{ℕ, ◌≤◌, ◌<◌, ◌≡◌, ◌⊎◌, true, length}
use mathlib.Core.List.{List, [], ◌∷◌, flatten, Memᴰ}
use Rattle.wire.specs.Letters.{is_letter}
use Rattle.wire.specs.Sizes.{most_vertices, most_letters, most_edges, most_paths}
use Rattle.graph.specs.Content.{Edge, Graph, vertex_count, edge_count, path_count}

-- P holds of each element
unfoldable pub All : {A : Type 0} → (A → Type 0) → List A → Type 0
All P [] = Unit {0}
All P (x ∷ xs) = P x × All P xs

-- R holds of each element and the next
unfoldable pub Next : {A : Type 0} → (A → A → Type 0) → List A → Type 0
Next R [] = Unit {0}
Next R (x ∷ []) = Unit {0}
Next R (x ∷ (y ∷ ys)) = R x y × Next R (y ∷ ys)

-- v is a vertex of n
abbrev pub Vertex : ℕ → ℕ → Type 0
Vertex n v = (1 ≤ v) × (v ≤ n)

-- edges rise "by (from, to)"
abbrev pub EdgeBelow : Edge → Edge → Type 0
EdgeBelow d e = (d.from < e.from) ⊎ ((d.from ≡ e.from) × (d.to < e.to))

-- every file rule holds
pub record GoodGraph (g : Graph) : Type 0 where
  -- "n | 1 to 1,024"
  pub some_vertex : 1 ≤ vertex_count g
  pub few_vertices : vertex_count g ≤ most_vertices
  -- "label length | 1 up; all labels together at most 32,768"
  pub some_letter : All (λ l. 1 ≤ length l) g.labels
  pub few_letters : length (flatten g.labels) ≤ most_letters
  -- "Letters are the bytes A C G T"
  pub letters : All (λ l. All (λ b. is_letter b ≡ true) l) g.labels
  -- "m | 0 to 4,096"
  pub few_edges : edge_count g ≤ most_edges
  -- "no such vertex": each edge's vertices are there
  pub edge_ends : All (λ e. Vertex (vertex_count g) e.from × Vertex (vertex_count g) e.to) g.edges
  -- "edges by (from, to)" rise strictly
  pub edges_rise : Next EdgeBelow g.edges
  -- "K, vertices of a path | 1 to 16, 1 to n"
  pub some_path : 1 ≤ path_count g
  pub few_paths : path_count g ≤ most_paths
  pub path_lengths : All (λ p. (1 ≤ length p) × (length p ≤ vertex_count g)) g.paths
  -- "no such vertex": each path's vertices are there
  pub path_vertices : All (λ p. All (Vertex (vertex_count g)) p) g.paths
  -- "every path rises in number"
  pub paths_rise : All (λ p. Next ◌<◌ p) g.paths
  -- "a path step that is not an edge" is a fault
  pub path_steps : All (λ p. Next (λ u v. Memᴰ (record { from = u; to = v }) g.edges) p) g.paths
  -- "a vertex on no path" is a fault
  pub covered : (v : ℕ) → Vertex (vertex_count g) v → (p : List ℕ) × Memᴰ p g.paths × Memᴰ v p
