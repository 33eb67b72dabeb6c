-- A row of sixteen cells by itself, and as it is written into a table.
use Rattle.std.specs.Prelude.{ℕ, zero, suc, ◌-◌, ◌<◌, ◌≡◌, List, length, get_or, set}
use Rattle.std.proofs.Math.Logic.{ite}
use Rattle.std.proofs.Math.Decide.{ℕ_discrete}
use Rattle.wire.specs.Sizes.{table_row}
use Rattle.rounds.specs.Rounds.{sweep}
use Rattle.rounds.specs.Place.{cell_place}
use Rattle.rounds.specs.Kinds.{shift}

-- a row whose cell i, counted from 0, is f i
pub record Lanes (row : List ℕ) (f : ℕ → ℕ) : Type 0 where
  pub long : length row ≡ table_row
  pub lane : (i : ℕ) → i < table_row → get_or row i 0 ≡ f i

-- how far a distance entry is: 0 is unknown, and counts as the greatest number of 32 bits; d + 1 is the distance d
unfoldable pub how_far : ℕ → ℕ
how_far zero = 4294967295
how_far (suc d) = d

-- what an edge brings to a distance entry: x, `far` further on, where the reach cells of its two vertices are equal, else nothing
unfoldable pub brought : ℕ → ℕ → ℕ → ℕ → ℕ
brought x far there here = ite (ℕ_discrete there here) (shift x far) 0

-- cell (v, i) takes cell i of a row
unfoldable pub put_cell : ℕ → List ℕ → ℕ → List ℕ → List ℕ
put_cell v row i table = set table (cell_place v i) (get_or row (i - 1) 0)

-- the row of vertex v takes a row
abbrev pub put_row : ℕ → List ℕ → List ℕ → List ℕ
put_row v row table = sweep (put_cell v row) table_row table
