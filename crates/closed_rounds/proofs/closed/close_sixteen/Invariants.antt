use Rattle.closed_rounds.proofs.Closes.{Closes}
use Prim.Native.Nat.{◌≤◌}
use Rattle.closed_rounds.proofs.closed.close_sixteen.Given as goal

abbrev pub invariant-loop-i : goal.invariant-loop-i
invariant-loop-i l = (l.i ≤ 16) × Closes l.edges.n l.edges.m l.walks.lengths.now l.edges.list l.table l.base l.i l.initial.closed l.closed
