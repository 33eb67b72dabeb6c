-- The rounds of the tables: where they start, and what a round takes. A row has sixteen cells, the rounds the columns of the K paths; the other cells stay 0.
use Rattle.std.specs.Prelude.{ℕ, zero, suc, ◌-◌, ◌≡◌, List, [], ◌∷◌, ◌++◌, map, length}
use Rattle.std.proofs.Math.Logic.{ite}
use Rattle.std.proofs.Math.Logic.Dec
use Rattle.std.proofs.Math.Decide.{ℕ_discrete}
use Rattle.wire.specs.Sizes.{table_row}
use Rattle.rounds.specs.Rule.{Links}
use Rattle.rounds.specs.Best.{Column}
use Rattle.rounds.specs.Kinds.{greatest_column, least_column}
use Rattle.rounds.specs.Place.{cell_place}
use Rattle.rounds.specs.Table.{cell, table_round}
use Rattle.graph.specs.Content.{Graph, vertex_count, edge_count, path_count}
use Rattle.cover.specs.Walks.{L, from, to}
use Rattle.cover.specs.Cells.{vertex}
use Rattle.cover.specs.CoverDistance.{path_at}

-- the cells f 1 to f k, and the rows of vertices 1 to n
unfoldable pub row_of : ℕ → (ℕ → ℕ) → List ℕ
row_of zero f = []
row_of (suc k) f = row_of k f ++ (f (suc k) ∷ [])

unfoldable pub table_of : ℕ → (ℕ → ℕ → ℕ) → List ℕ
table_of zero f = []
table_of (suc n) f = table_of n f ++ row_of table_row (f (suc n))

-- ---- reach

-- the last position of v among the path's first k, or 0
unfoldable pub own : List ℕ → ℕ → ℕ → ℕ
own p v zero = zero
own p v (suc k) = ite (ℕ_discrete (vertex p (suc k)) v) (suc k) (own p v k)

-- the edges, as the links of a table's rounds
abbrev pub edge_links : Graph → Links
edge_links g = record { m = edge_count g; source = from g; Into = λ v e. to g e ≡ v; into? = λ v e. ℕ_discrete (to g e) v }

-- "reach starts at v's own position, or 0 off the path"; "Reach takes the greatest of its own value and those over edges into v"
abbrev pub reach_column : Graph → List ℕ → Column
reach_column g p = greatest_column (edge_links g) (λ v. own p v (length p))

-- the table at which the rounds of reach start, a column for each path
abbrev pub reach_start : Graph → List ℕ
reach_start g = table_of (vertex_count g) (λ v i. (reach_column g (path_at g i)).starts v)

-- a round of reach: every vertex in turn, in the column of every path
abbrev pub reach_round : Graph → List ℕ → List ℕ
reach_round g = table_round cell_place (λ i. (reach_column g (path_at g i)).rule) (path_count g) (vertex_count g)

-- ---- distance: in the rounds an entry is 0 where it is unknown, and d + 1 where it is d

-- "distance at 0 where v is the reached vertex, else unknown": r is v's reach
unfoldable pub home : List ℕ → ℕ → ℕ → ℕ
home p zero v = 0
home p (suc j) v = ite (ℕ_discrete (vertex p (suc j)) v) 1 0

-- "edges u to v whose reach cells are equal": r gives the reach cells
abbrev pub level_links : Graph → (ℕ → ℕ) → Links
level_links g r = record {
  m = edge_count g;
  source = from g;
  Into = λ v e. (to g e ≡ v) × (r (from g e) ≡ r v);
  into? = λ v e. Dec.and (ℕ_discrete (to g e) v) (ℕ_discrete (r (from g e)) (r v));
}

-- "distance the least of its own and u's distance plus L(u) over edges u to v whose reach cells are equal"
abbrev pub distance_column : Graph → List ℕ → (ℕ → ℕ) → Column
distance_column g p r = least_column (level_links g r) (λ e. L g (from g e)) (λ v. home p (r v) v)

-- the column of path i over a reach table
abbrev pub column_over : Graph → List ℕ → ℕ → Column
column_over g reach i = distance_column g (path_at g i) (λ v. cell cell_place v i reach)

-- the table at which the rounds of distance start, over the finished reach table
abbrev pub distance_start : Graph → List ℕ → List ℕ
distance_start g reach = table_of (vertex_count g) (λ v i. (column_over g reach i).starts v)

-- a round of distance
abbrev pub distance_round : Graph → List ℕ → List ℕ → List ℕ
distance_round g reach = table_round cell_place (λ i. (column_over g reach i).rule) (path_count g) (vertex_count g)

-- the distances, of what the rounds left
abbrev pub known : List ℕ → List ℕ
known entries = map (λ x. x - 1) entries
