-- The cover distances to one vertex v from every u, as one row: entry u is 0 where there is none, and s + 1 where it is s. Entry v itself is not used.
use Rattle.std.specs.Prelude.{ℕ, zero, suc, ◌+◌, ◌≤◌, ◌≡◌, List, length, set, replicate}
use Rattle.rounds.specs.Rounds.{Within}
use Rattle.rounds.specs.Kinds.{closer}
use Rattle.rounds.specs.Place.{cell_place, entry_place}
use Rattle.rounds.specs.Table.{cell, entry}
use Rattle.graph.specs.Content.{Graph, vertex_count, path_count}
use Rattle.cover.specs.Walks.{L}
use Rattle.cover.specs.Cells.{vertex}
use Rattle.cover.specs.CoverDistance.{path_at, IsCover}

-- a row of k entries in which nothing is known
unfoldable pub unknown : ℕ → List ℕ
unknown k = replicate k 0

-- entry u takes the less of what it has and s, as far as they are known
unfoldable pub put : ℕ → ℕ → List ℕ → List ℕ
put u s row = set row (entry_place u 1) (closer (entry u row) (s + 1))

-- the sum grows by L of the vertex at the position below, if there is one
unfoldable pub below : Graph → List ℕ → ℕ → ℕ → ℕ
below g p zero sum = sum
below g p (suc a) sum = sum + L g (vertex p (suc a))

-- back along a path, from position a down to 1: the vertex there is `sum` away
unfoldable pub back : Graph → List ℕ → ℕ → ℕ → List ℕ → List ℕ
back g p zero sum row = row
back g p (suc a) sum row = back g p a (below g p a sum) (put (vertex p (suc a)) sum row)

-- over the first k paths, each from its "reach (v, i)", which is "distance (v, i)" away
unfoldable pub backs : Graph → List ℕ → List ℕ → ℕ → ℕ → List ℕ → List ℕ
backs g reach distance v zero row = row
backs g reach distance v (suc k) row =
    back g (path_at g (suc k)) (cell cell_place v (suc k) reach) (cell cell_place v (suc k) distance) (backs g reach distance v k row)

-- the row of v, by the two tables, over a row in which nothing is known
abbrev pub row_for : Graph → List ℕ → List ℕ → ℕ → List ℕ → List ℕ
row_for g reach distance v row = backs g reach distance v (path_count g) row

-- x says the cover distance from u to v
pub record Says (g : Graph) (u v x : ℕ) : Type 0 where
  pub none : x ≡ 0 → (s : ℕ) → IsCover g u v s → ⊥
  pub some : (s : ℕ) → x ≡ suc s → IsCover g u v s

-- the row says the cover distances to v
pub record IsRow (g : Graph) (v : ℕ) (row : List ℕ) : Type 0 where
  pub long : vertex_count g ≤ length row
  pub entries : (u : ℕ) → Within (vertex_count g) u → Says g u v (entry u row)
