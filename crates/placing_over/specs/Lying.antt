-- What the chaining entries hold on their way: the anchors of an accepted file, and a graph with its tables.
use Rattle.std.specs.Prelude.{ℕ, ◌*◌, ◌≤◌, ◌<◌, ◌≡◌, List, length, get_or}
use Rattle.wire.specs.Sizes.{path_room}
use Rattle.rounds.specs.Rounds.{Within}
use Rattle.rounds.specs.Table.{entry}
use Rattle.graph.specs.Content.{Graph, vertex_count, path_count}
use Rattle.graph.specs.Good.{GoodGraph}
use Rattle.anchors.specs.Anchors.{AnchorSet}
use Rattle.cover.specs.Walks.{L}
use Rattle.cover.specs.Cells.{IsClosed}
use Rattle.cover.specs.CoverDistance.{path_at}
use Rattle.cover.specs.Finished.{ReachTable, DistanceTable}
use Rattle.steps.specs.Setting.{Setting, length_in, path_from}
use Rattle.engine.specs.Lying.{AnchorsLie}

-- the labels' lengths and the paths of g, which keeps every rule, lie in buffers with its tables: n vertices, k paths
pub record TablesLie (g : Graph) (n k : ℕ) (lengths paths reach distance closed : List ℕ) : Type 0 where
  pub good : GoodGraph g
  pub vertices : vertex_count g ≡ n
  pub paths_are : path_count g ≡ k
  pub length_room : n ≤ length lengths
  pub labels_are : (v : ℕ) → Within n v → length_in lengths v ≡ L g v
  pub path_rooms : path_room * k ≤ length paths
  pub paths_lie : (i j : ℕ) → Within k i → j < length (path_at g i) → get_or (path_from paths i) j 0 ≡ get_or (path_at g i) j 0
  pub reach_is : ReachTable g (path_at g) reach
  pub distance_is : DistanceTable g (path_at g) reach distance
  pub closed_room : n ≤ length closed
  pub closed_is : (v : ℕ) → Within n v → IsClosed g v (entry v closed)

-- both: t has the tables
pub record Over (g : Graph) (a : AnchorSet) (t : Setting) (count : ℕ) (numbers : List ℕ) : Type 0 where
  pub tables : TablesLie g t.n t.k t.lengths t.paths t.reach t.distance t.closed
  pub anchors : AnchorsLie g a count numbers

-- some graph with its tables, and some anchors, lie there
pub record SomeOver (t : Setting) (count : ℕ) (numbers : List ℕ) : Type 0 where
  pub g : Graph
  pub a : AnchorSet
  pub over : Over g a t count numbers
