-- What the entry `tables` replies, and what the lent buffers hold afterwards, in every case.
use Rattle.std.specs.Prelude.{ℕ, ◌*◌, ◌≤◌, ◌≡◌, List, Bool, ◌&&◌, length, leb}
use Rattle.wire.specs.Cases.{pick}
use Rattle.wire.specs.Found.{Reply, refused, in_file}
use Rattle.wire.specs.Lent.{laid}
use Rattle.wire.specs.Refusals.{small_buffer, graph_file}
use Rattle.wire.specs.Sizes.{full_table, full_closed, table_row}
use Rattle.rounds.specs.Rounds.{Within, Rounds}
use Rattle.rounds.specs.Place.{cell_place}
use Rattle.rounds.specs.Table.{cell, entry}
use Rattle.graph.specs.Content.{Graph, vertex_count}
use Rattle.graph.specs.Reading.{Parsed, graph_of}
use Rattle.cover.specs.Cells.{IsReach, IsDistance, IsClosed}
use Rattle.cover.specs.CoverDistance.{path_at}
use Rattle.cover.specs.TableRounds.{reach_start, reach_round, distance_start, distance_round, known}

-- the tables of a graph, and the rounds that made them
pub record Tables : Type 0 where
  pub reach : List ℕ
  pub distance : List ℕ
  pub closed : List ℕ
  pub reach_rounds : ℕ
  pub distance_rounds : ℕ

-- t are the tables of g: each cell in document 01's words, and the rounds by the rule
pub record IsTables (g : Graph) (t : Tables) : Type 0 where
  -- "Reach (last2reach; documents 000 and 001)"
  pub reach_size : length t.reach ≡ table_row * vertex_count g
  pub reach_cells : (v i : ℕ) → Within (vertex_count g) v → Within table_row i → IsReach g (path_at g i) v (cell cell_place v i t.reach)
  -- "Distance cell (v, i)"
  pub distance_size : length t.distance ≡ table_row * vertex_count g
  pub distance_cells : (v i : ℕ) → Within (vertex_count g) v → Within table_row i
      → IsDistance g (path_at g i) (cell cell_place v i t.reach) v (cell cell_place v i t.distance)
  -- "Closed walk of v"
  pub closed_size : length t.closed ≡ vertex_count g
  pub closed_cells : (v : ℕ) → Within (vertex_count g) v → IsClosed g v (entry v t.closed)
  -- "The round that changes nothing is counted and is the last. Each count is reported and never exceeds n."
  pub reach_count : Rounds (reach_round g) (reach_start g) t.reach_rounds t.reach
  pub reach_few : t.reach_rounds ≤ vertex_count g
  pub entries : List ℕ
  pub distance_count : Rounds (distance_round g t.reach) (distance_start g t.reach) t.distance_rounds entries
  pub distance_few : t.distance_rounds ≤ vertex_count g
  pub distance_known : t.distance ≡ known entries

-- the lent buffers
pub record TableBuffers : Type 0 where
  pub reach : List ℕ
  pub distance : List ℕ
  pub closed : List ℕ

-- full size, by the lengths of the buffers: "reach and distance tables 16,384 each; closed walks 1,024"
abbrev pub room_for_tables : ℕ → ℕ → ℕ → Bool
room_for_tables reach distance closed = ◌&&◌ (leb full_table reach) (◌&&◌ (leb full_table distance) (leb full_closed closed))

-- each has full size
unfoldable pub roomy_tables : TableBuffers → Bool
roomy_tables b = room_for_tables (length b.reach) (length b.distance) (length b.closed)

-- 13, then the graph file
unfoldable pub tables_reply : List ℕ → TableBuffers → Reply Parsed
tables_reply file b = pick (roomy_tables b) (in_file graph_file (graph_of file)) (refused small_buffer 0 0)

-- the buffers with the tables
unfoldable pub filled_tables : Tables → TableBuffers → TableBuffers
filled_tables t b = record {
  reach = laid full_table t.reach b.reach;
  distance = laid full_table t.distance b.distance;
  closed = laid full_closed t.closed b.closed;
}
