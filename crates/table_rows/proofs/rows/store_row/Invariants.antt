use Rattle.rounds.specs.Place.{cell_place}
use Rattle.rounds.specs.Table.{cell}
use Rattle.rounds.proofs.Turns.{Swept}
use Rattle.table_rows.specs.Lanes.{put_cell}
use lib.ListN.{length}
use Prim.Native.Nat.{◌-◌, ◌≤◌}
use mathlib.Core.Path.{◌≡◌}
use Rattle.table_rows.proofs.rows.store_row.Given as goal

abbrev pub invariant-loop-i : goal.invariant-loop-i
invariant-loop-i l = (l.i ≤ 16) × (length l.row ≡ 16) × Swept 1 (put_cell l.v l.row) (λ j _. cell cell_place l.v j) l.initial.table l.i l.table l.changed

abbrev pub decreases-loop-i : goal.decreases-loop-i
decreases-loop-i l = 16 - l.i
