-- A walk back: what the edges into a vertex bring from a column of a table, by the rule of least walks. Assumes nothing.
use Prim.Native.Nat.{ℕ}
use mathlib.Core.Path.{◌≡◌, refl}
use mathlib.Core.List.{List}
use Rattle.rounds.specs.Place.{cell_place}
use Rattle.rounds.specs.Table.{cell}
use Rattle.table_lanes.specs.Follows.{gathered}
use Rattle.table_rounds.specs.Held.{onward}
use Rattle.walk_back.specs.Back.{back_by}

pub back_is : (lengths edges table : List ℕ) (v i m : ℕ) → gathered (onward m lengths edges i) (λ u. cell cell_place u i table) v 0 ≡ back_by lengths edges table v i m
unfolding gathered back_by
back_is lengths edges table v i m = refl
