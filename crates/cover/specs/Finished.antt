-- Finished tables: every cell in document 01's words.
use Rattle.std.specs.Prelude.{ℕ, ◌*◌, ◌≡◌, List, length}
use Rattle.wire.specs.Sizes.{table_row}
use Rattle.rounds.specs.Rounds.{Within}
use Rattle.rounds.specs.Place.{cell_place}
use Rattle.rounds.specs.Table.{cell}
use Rattle.graph.specs.Content.{Graph, vertex_count}
use Rattle.cover.specs.Cells.{IsReach, IsDistance}

-- a reach table over the paths 1 to 16
pub record ReachTable (g : Graph) (paths : ℕ → List ℕ) (reach : List ℕ) : Type 0 where
  pub size : length reach ≡ table_row * vertex_count g
  pub cells : (v i : ℕ) → Within (vertex_count g) v → Within table_row i → IsReach g (paths i) v (cell cell_place v i reach)

-- a distance table over a reach table
pub record DistanceTable (g : Graph) (paths : ℕ → List ℕ) (reach distance : List ℕ) : Type 0 where
  pub size : length distance ≡ table_row * vertex_count g
  pub cells : (v i : ℕ) → Within (vertex_count g) v → Within table_row i
      → IsDistance g (paths i) (cell cell_place v i reach) v (cell cell_place v i distance)
