-- A graph's content as it lies in lent buffers, and the rules of the rounds over it.
use Rattle.std.specs.Prelude.{ℕ, ◌+◌, ◌-◌, ◌*◌, ◌≤◌, ◌<◌, ◌^◌, ◌≡◌, List, length, get_or, take, drop}
use Rattle.std.proofs.Math.Logic.Dec
use Rattle.std.proofs.Math.Decide.{ℕ_discrete}
use Rattle.wire.specs.Sizes.{table_row, path_room, full_paths, full_counts}
use Rattle.rounds.specs.Rounds.{Within, sweep, iterate}
use Rattle.rounds.specs.Rule.{Links, Rule}
use Rattle.rounds.specs.Place.{cell_place}
use Rattle.rounds.specs.Table.{cell, row_step, table_round}
use Rattle.rounds.specs.Kinds.{greatest_rule, least_rule}
use Rattle.rounds.specs.Loop.{Ends}
use Rattle.graph.specs.Content.{Graph, vertex_count, edge_count}
use Rattle.graph.specs.Good.{GoodGraph}
use Rattle.cover.specs.Walks.{L, from, to}
use Rattle.cover.specs.CoverDistance.{path_at}
use Rattle.table_rows.specs.HeldEdges.{source, target}

-- ---- what lies where

-- the label length of vertex v
abbrev pub label_length : List ℕ → ℕ → ℕ
label_length lengths v = get_or lengths (v - 1) 0

-- path i: "Path i starts at place 1,024(i − 1)"
unfoldable pub path_in : List ℕ → List ℕ → ℕ → List ℕ
path_in paths counts i = take (get_or counts (i - 1) 0) (drop (path_room * (i - 1)) paths)

-- paths of vertices 1 to n, sixteen of them; those that are not there are empty
pub record PathsHeld (n : ℕ) (paths counts : List ℕ) : Type 0 where
  pub room : full_paths ≤ length paths
  pub some : full_counts ≤ length counts
  pub short : (i : ℕ) → Within table_row i → get_or counts (i - 1) 0 ≤ path_room
  pub on : (i j : ℕ) → Within table_row i → j < length (path_in paths counts i) → Within n (get_or (path_in paths counts i) j 0)

-- the buffers hold the content of the graph g, which keeps every file rule
pub record Holds (g : Graph) (n m : ℕ) (lengths edges paths counts : List ℕ) : Type 0 where
  pub good : GoodGraph g
  pub vertices : vertex_count g ≡ n
  pub edges_are : edge_count g ≡ m
  pub label_room : n ≤ length lengths
  pub labels : (v : ℕ) → Within n v → label_length lengths v ≡ L g v
  pub edge_room : 2 * m ≤ length edges
  pub froms : (e : ℕ) → Within m e → source edges e ≡ from g e
  pub tos : (e : ℕ) → Within m e → target edges e ≡ to g e
  pub paths_room : full_paths ≤ length paths
  pub counts_room : full_counts ≤ length counts
  pub short : (i : ℕ) → Within table_row i → get_or counts (i - 1) 0 ≤ path_room
  pub paths_are : (i : ℕ) → Within table_row i → path_in paths counts i ≡ path_at g i

-- ---- the rules of the rounds, over the buffers

-- the edges as links
abbrev pub held_links : ℕ → List ℕ → Links
held_links m edges = record { m = m; source = source edges; Into = λ v e. target edges e ≡ v; into? = λ v e. ℕ_discrete (target edges e) v }

-- "edges u to v whose reach cells are equal": r gives the reach cells
abbrev pub held_levels : ℕ → List ℕ → (ℕ → ℕ) → Links
held_levels m edges r = record {
  m = m;
  source = source edges;
  Into = λ v e. (target edges e ≡ v) × (r (source edges e) ≡ r v);
  into? = λ v e. Dec.and (ℕ_discrete (target edges e) v) (ℕ_discrete (r (source edges e)) (r v));
}

-- "Reach takes the greatest of its own value and those over edges into v"
abbrev pub raise : ℕ → List ℕ → Rule
raise m edges = greatest_rule (held_links m edges)

-- a round of it
abbrev pub raise_round : ℕ → ℕ → List ℕ → List ℕ → List ℕ
raise_round n m edges = table_round cell_place (λ _. raise m edges) table_row n

-- "distance the least of its own and u's distance plus L(u) over edges u to v whose reach cells are equal", in column i
abbrev pub near : ℕ → List ℕ → List ℕ → List ℕ → ℕ → Rule
near m lengths edges reach i = least_rule (held_levels m edges (λ v. cell cell_place v i reach)) (λ e. label_length lengths (source edges e))

-- vertex v is taken by it, in every column
abbrev pub near_row : ℕ → List ℕ → List ℕ → List ℕ → ℕ → List ℕ → List ℕ
near_row m lengths edges reach = row_step cell_place (near m lengths edges reach) table_row

-- a round of it
abbrev pub near_round : ℕ → ℕ → List ℕ → List ℕ → List ℕ → List ℕ → List ℕ
near_round n m lengths edges reach = table_round cell_place (near m lengths edges reach) table_row n

-- the least of its own and u's entry plus L(u) over all edges u to v, in every column: the rule of least walks
abbrev pub onward : ℕ → List ℕ → List ℕ → ℕ → Rule
onward m lengths edges _ = least_rule (held_links m edges) (λ e. label_length lengths (source edges e))

-- vertex v is taken by it
abbrev pub onward_row : ℕ → List ℕ → List ℕ → ℕ → List ℕ → List ℕ
onward_row m lengths edges = row_step cell_place (onward m lengths edges) table_row

-- a round of it
abbrev pub onward_round : ℕ → ℕ → List ℕ → List ℕ → List ℕ → List ℕ
onward_round n m lengths edges = table_round cell_place (onward m lengths edges) table_row n

-- an entry with the label of its vertex fits a number
pub record Fitting (n : ℕ) (lengths table : List ℕ) : Type 0 where
  pub fits : (u i : ℕ) → Within n u → Within table_row i → cell cell_place u i table + label_length lengths u < 2 ^ 32

-- the rounds by rules, one for each column, end from a table, and every state on the way fits: after k rounds, and v rows of the next
pub record Settling (n : ℕ) (lengths : List ℕ) (rules : ℕ → Rule) (table : List ℕ) : Type 0 where
  pub ends : Ends n (table_round cell_place rules table_row n) table
  pub fitting : (k v : ℕ) → v < n → Fitting n lengths (sweep (row_step cell_place rules table_row) v (iterate (table_round cell_place rules table_row n) k table))
