use Rattle.table_rows.proofs.Laning.{Laned}
use lib.ListN.{get_or}
use Prim.Native.Nat.{◌+◌}
use Rattle.table_lanes.proofs.take_row.Given as goal

abbrev pub invariant-loop-i : goal.invariant-loop-i
invariant-loop-i g l = Laned (λ j. g.R.EdgeRule.take l.rule (j + 1) l.u l.v (get_or l.initial.row j 0) (get_or l.table (l.at + j) 0)) l.initial.row l.row l.i
