-- What an edge's step reads, and that it stands where the content and the tables have their sizes.
use Rattle.std.specs.Prelude.{ℕ, ◌+◌, ◌*◌, ◌≤◌, ◌<◌, ◌^◌, ◌≡◌, List, length}
use native.Mathlib.Omega.{arith}
use Rattle.wire.specs.Sizes.{table_row}
use Rattle.rounds.specs.Rounds.{Within}
use Rattle.rounds.specs.Place.{cell_place}
use Rattle.rounds.specs.Table.{cell}
use Rattle.table_rounds.specs.Held.{label_length, Fitting}

-- u has a label, and u's entry y with it fits a number
pub record CanStep (lengths : List ℕ) (u y : ℕ) : Type 0 where
  pub low : 1 ≤ u
  pub labelled : u ≤ length lengths
  pub fits : y + label_length lengths u < 2 ^ 32

-- u and v have cells in column i
pub record CanLevel (reach : List ℕ) (i u v : ℕ) : Type 0 where
  pub from_low : 1 ≤ u
  pub to_low : 1 ≤ v
  pub from : cell_place u i < length reach
  pub to : cell_place v i < length reach

pub steps_on : {n : ℕ} {lengths table : List ℕ} → n ≤ length lengths → Fitting n lengths table → (i u : ℕ) → Within table_row i → Within n u → CanStep lengths u (cell cell_place u i table)
steps_on l f i u wi wu = record { low = wu.low; labelled = omega (arith, wu.high); fits = f.fits u i wu wi }

pub levels_on : {n : ℕ} {reach : List ℕ} → length reach ≡ table_row * n → (i u v : ℕ) → Within table_row i → Within n u → Within n v → CanLevel reach i u v
levels_on l i u v wi wu wv = record { from_low = wu.low; to_low = wv.low; from = omega arith; to = omega arith }
