-- What the engines work on: the content and the tables as they lie in arrays, the row of one vertex, and the step between two anchors by it.
use Rattle.std.specs.Prelude.{ℕ, zero, suc, ◌+◌, ◌-◌, ◌*◌, ◌≤◌, ◌<◌, ◌≡◌, List, length, get_or, set, drop}
use Rattle.wire.specs.Sizes.{path_room}
use Rattle.rounds.specs.Rounds.{Within}
use Rattle.rounds.specs.Place.{cell_place}
use Rattle.rounds.specs.Table.{cell, entry}
use Rattle.graph.specs.Content.{Graph, vertex_count, path_count}
use Rattle.graph.specs.Good.{GoodGraph}
use Rattle.anchors.specs.Anchors.{Anchor, AnchorSet, y, d}
use Rattle.anchors.specs.GoodAnchors.{GoodAnchors}
use Rattle.anchors.specs.AnchorEntries.{anchor_in}
use Rattle.cover.specs.Walks.{L}
use Rattle.cover.specs.Cells.{IsClosed}
use Rattle.cover.specs.CoverDistance.{path_at}
use Rattle.cover.specs.Finished.{ReachTable, DistanceTable}
use Rattle.cover.specs.Row.{unknown, put}
use Rattle.chain.specs.Steps.{anchor_at}
use Rattle.pair_step.specs.Pairs.{Ends, step_from}

-- n vertices, k paths, `count` anchors; the labels' lengths; the paths, each in its room; the tables; the anchors' numbers, five for each; where they end
pub record Setting : Type 0 where
  pub n : ℕ
  pub k : ℕ
  pub count : ℕ
  pub lengths : List ℕ
  pub paths : List ℕ
  pub reach : List ℕ
  pub distance : List ℕ
  pub closed : List ℕ
  pub numbers : List ℕ
  pub ends : Ends

-- anchor number j of a setting
abbrev pub anchor_of : Setting → ℕ → Anchor
anchor_of s j = anchor_in s.numbers (j - 1)

-- ---- the row of one vertex

-- the label length of vertex v
abbrev pub length_in : List ℕ → ℕ → ℕ
length_in lengths v = get_or lengths (v - 1) 0

-- the sum grows by the label of the vertex at the position below, if there is one
unfoldable pub below_in : List ℕ → List ℕ → ℕ → ℕ → ℕ
below_in lengths path zero sum = sum
below_in lengths path (suc a) sum = sum + length_in lengths (get_or path a 0)

-- back along a path, from position a down to 1: the vertex there is `sum` away
unfoldable pub back_in : List ℕ → List ℕ → ℕ → ℕ → List ℕ → List ℕ
back_in lengths path zero sum row = row
back_in lengths path (suc a) sum row = back_in lengths path a (below_in lengths path a sum) (put (get_or path a 0) sum row)

-- path i of the paths, counted from 1: "Path i starts at place 1,024(i − 1)"
abbrev pub path_from : List ℕ → ℕ → List ℕ
path_from paths i = drop (path_room * (i - 1)) paths

-- over the first k paths, each from its "reach (v, i)", which is "distance (v, i)" away
unfoldable pub backs_in : Setting → ℕ → ℕ → List ℕ → List ℕ
backs_in s v zero row = row
backs_in s v (suc k) row =
    back_in s.lengths (path_from s.paths (suc k)) (cell cell_place v (suc k) s.reach) (cell cell_place v (suc k) s.distance) (backs_in s v k row)

-- a closed walk as an entry of a row: 0 for none, s + 1 for s
unfoldable pub closed_entry : ℕ → ℕ
closed_entry zero = zero
closed_entry (suc x) = suc (suc x)

-- the row of v: the cover distance to v from every other vertex, and for v itself the closed walk; 0 for none, s + 1 for s
unfoldable pub row_in : Setting → ℕ → List ℕ
row_in s v = set (backs_in s v s.k (unknown s.n)) (v - 1) (closed_entry (entry v s.closed))

-- ---- the step

-- the step from anchor i to anchor j: 0 where i does not come before j, the gap sum plus 1 where it does
unfoldable pub step_of : Setting → ℕ → ℕ → ℕ
step_of s i j = step_from s.ends (row_in s (anchor_of s j).v) (anchor_of s j).v (anchor_of s j).x (anchor_of s j).c i

-- ---- what a setting holds

-- the arrays hold the graph g with its tables, and the anchors of a, all of which keep every rule
pub record Holds (s : Setting) (g : Graph) (a : AnchorSet) : Type 0 where
  pub good : GoodGraph g
  pub good_anchors : GoodAnchors g a
  pub vertices : vertex_count g ≡ s.n
  pub paths_are : path_count g ≡ s.k
  pub anchors_are : length a.anchors ≡ s.count
  pub length_room : s.n ≤ length s.lengths
  pub lengths : (v : ℕ) → Within s.n v → length_in s.lengths v ≡ L g v
  pub path_rooms : path_room * s.k ≤ length s.paths
  pub paths : (i j : ℕ) → Within s.k i → j < length (path_at g i) → get_or (path_from s.paths i) j 0 ≡ get_or (path_at g i) j 0
  pub reach : ReachTable g (path_at g) s.reach
  pub distance : DistanceTable g (path_at g) s.reach s.distance
  pub closed_room : s.n ≤ length s.closed
  pub closed : (v : ℕ) → Within s.n v → IsClosed g v (entry v s.closed)
  pub number_room : 5 * s.count ≤ length s.numbers
  pub numbers : (j : ℕ) → Within s.count j → anchor_of s j ≡ anchor_at a.anchors j
  pub us_room : s.count ≤ length s.ends.us
  pub us : (j : ℕ) → Within s.count j → get_or s.ends.us (j - 1) 0 ≡ (anchor_at a.anchors j).v
  pub ys_room : s.count ≤ length s.ends.ys
  pub ys : (j : ℕ) → Within s.count j → get_or s.ends.ys (j - 1) 0 ≡ y (anchor_at a.anchors j)
  pub ds_room : s.count ≤ length s.ends.ds
  pub ds : (j : ℕ) → Within s.count j → get_or s.ends.ds (j - 1) 0 ≡ d (anchor_at a.anchors j)

-- some graph and anchors are held
pub record Prepared (s : Setting) : Type 0 where
  pub g : Graph
  pub a : AnchorSet
  pub holds : Holds s g a
