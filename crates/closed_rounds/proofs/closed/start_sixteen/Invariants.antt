use Rattle.wire.proofs.Laying.{Filled}
use Rattle.closed_rounds.specs.Closing.{sixteen_start}
use Prim.Native.Nat.{◌-◌, ◌*◌, ◌≤◌}
use Rattle.closed_rounds.proofs.closed.start_sixteen.Given as goal

abbrev pub invariant-loop-q : goal.invariant-loop-q
invariant-loop-q l = (l.q ≤ 16 * l.n) × Filled (sixteen_start l.n l.base) l.table l.initial.table l.q

abbrev pub decreases-loop-q : goal.decreases-loop-q
decreases-loop-q l = 16 * l.n - l.q
