use Rattle.table_rounds.proofs.Sweeping.{RowsSwept}
use Prim.Native.Nat.{◌≤◌}
use Rattle.table_rounds.proofs.by_rule.one_round.Given as goal

abbrev pub invariant-loop-v : goal.invariant-loop-v
invariant-loop-v g l = (l.v ≤ l.edges.n) × RowsSwept (g.R.EdgeRule.rules l.rule l.edges.m l.edges.list) l.initial.table l.v l.table l.changed
