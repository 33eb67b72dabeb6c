-- What edges into a vertex bring back to it, from a column of a table.
use Rattle.std.specs.Prelude.{ℕ, List}
use Rattle.rounds.specs.Gather.{gather}
use Rattle.rounds.specs.Kinds.{shift, closer}
use Rattle.rounds.specs.Place.{cell_place}
use Rattle.rounds.specs.Table.{cell}
use Rattle.table_rows.specs.HeldEdges.{source}
use Rattle.table_rounds.specs.Held.{label_length, held_links}

-- over the first k edges, the least of what edges into v bring from column i of a table
unfoldable pub back_by : List ℕ → List ℕ → List ℕ → ℕ → ℕ → ℕ → ℕ
back_by lengths edges table v i k =
    gather closer ((held_links k edges).into? v) (λ e. shift (cell cell_place (source edges e) i table) (label_length lengths (source edges e))) 0 k
