-- A table of n rows and `wide` columns in a list, cell (v, i) at `place v i`, and its rounds. Column i has the rule `rules i`. Assumes nothing.
use Rattle.std.specs.Prelude.{List, ℕ, get_or, set}
use Rattle.rounds.specs.Rounds.{sweep}
use Rattle.rounds.specs.Rule.{Rule, value}
use Rattle.rounds.specs.Place.{entry_place}

module _ (place : ℕ → ℕ → ℕ) where
  -- what cell (v, i) holds
  abbrev pub cell : ℕ → ℕ → List ℕ → ℕ
  cell v i table = get_or table (place v i) 0

  -- cell (v, i) takes its value, from its own column
  unfoldable pub cell_step : (ℕ → Rule) → ℕ → ℕ → List ℕ → List ℕ
  cell_step rules v i table = set table (place v i) (value (rules i) (λ u. cell u i table) v)

  -- vertex v is taken: its row, column by column
  unfoldable pub row_step : (ℕ → Rule) → ℕ → ℕ → List ℕ → List ℕ
  row_step rules wide v table = sweep (cell_step rules v) wide table

  -- a round of the table: "A round takes vertices in rising number, in place."
  abbrev pub table_round : (ℕ → Rule) → ℕ → ℕ → List ℕ → List ℕ
  table_round rules wide n = sweep (row_step rules wide) n

-- ---- a vector: a table of one column

-- what entry v holds
abbrev pub entry : ℕ → List ℕ → ℕ
entry v vector = cell entry_place v 1 vector

-- entry v takes its value
abbrev pub entry_step : Rule → ℕ → List ℕ → List ℕ
entry_step rule v = cell_step entry_place (λ _. rule) v 1

-- a round of the sweep: "a round takes anchors in rising number, in place"
abbrev pub vector_round : Rule → ℕ → List ℕ → List ℕ
vector_round rule n = sweep (entry_step rule) n
