use Rattle.table_starts.specs.Starting.{Owned}
use lib.ListN.{length}
use Prim.Native.Nat.{◌≤◌}
use Rattle.table_starts.proofs.reach.own_path.Given as goal

abbrev pub invariant-loop-j : goal.invariant-loop-j
invariant-loop-j l = (l.j ≤ length l.path) × Owned l.path l.j l.i l.initial.table l.table
