use Rattle.table_starts.proofs.Starts.{Owning}
use Prim.Native.Nat.{◌≤◌}
use Rattle.table_starts.proofs.reach.start_reach.Given as goal

abbrev pub invariant-loop-i : goal.invariant-loop-i
invariant-loop-i l = (l.i ≤ 16) × Owning l.paths l.counts l.n l.i l.table
