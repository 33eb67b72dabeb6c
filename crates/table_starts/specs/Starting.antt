-- The positions of one path's vertices, written into a column.
use Rattle.std.specs.Prelude.{ℕ, ◌+◌, ◌*◌, ◌≤◌, ◌<◌, ◌%◌, ◌≡◌, ◌≢◌, List, length, get_or}
use Rattle.wire.specs.Sizes.{table_row, path_room}
use Rattle.rounds.specs.Place.{cell_place}
use Rattle.rounds.specs.Table.{cell}
use Rattle.cover.specs.TableRounds.{own}

-- the vertices of a path have their rows in a table of `size` places
pub record OnTable (size : ℕ) (path : List ℕ) : Type 0 where
  pub short : length path ≤ path_room
  pub on : (j : ℕ) → j < length path → (1 ≤ get_or path j 0) × (table_row * get_or path j 0 ≤ size)

-- column i (counted from 0) holds the positions on the path's first k vertices, and the other columns are as they were
pub record Owned (path : List ℕ) (k i : ℕ) (before after : List ℕ) : Type 0 where
  pub long : length after ≡ length before
  pub column : (v : ℕ) → 1 ≤ v → table_row * v ≤ length before → cell cell_place v (i + 1) after ≡ own path v k
  pub others : (q : ℕ) → q % table_row ≢ i → get_or after q 0 ≡ get_or before q 0
