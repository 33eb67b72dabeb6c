use Rattle.wire.proofs.Laying.{Filled}
use Rattle.cover.specs.TableRounds.{known}
use lib.ListN.{length}
use Prim.Native.Nat.{◌≤◌}
use Rattle.table_starts.proofs.distance.finish_distance.Given as goal

abbrev pub invariant-loop-entry : goal.invariant-loop-entry
invariant-loop-entry l = (l.entry-index ≤ length l.initial.table) × Filled (known l.initial.table) l.table l.initial.table l.entry-index
