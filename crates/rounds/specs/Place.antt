-- Where a table's cells and a vector's entries lie. Assumes nothing.
use Rattle.std.specs.Prelude.{◌≡◌, ℕ, ◌+◌, ◌-◌, ◌*◌, ◌<◌}
use Rattle.rounds.specs.Rounds.{Within}

-- "cell (v, i) is at place 16(v − 1) + i − 1"
abbrev pub cell_place : ℕ → ℕ → ℕ
cell_place v i = 16 * (v - 1) + i - 1

-- "all else is packed in file order": entry v of a vector is at place v − 1; a vector is a table of one column
abbrev pub entry_place : ℕ → ℕ → ℕ
entry_place v i = v - 1

-- The n × wide cells lie in a list of length len, each at a place of its own.
pub record Places (place : ℕ → ℕ → ℕ) (n wide len : ℕ) : Type 0 where
  pub inside : (v i : ℕ) → Within n v → Within wide i → place v i < len
  pub apart : (u v i j : ℕ) → Within n u → Within n v → Within wide i → Within wide j → place u i ≡ place v j → (u ≡ v) × (i ≡ j)
