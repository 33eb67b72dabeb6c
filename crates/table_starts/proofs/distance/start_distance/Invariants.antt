use Rattle.wire.proofs.Laying.{Filled}
use Rattle.cover.specs.TableRounds.{table_of}
use Rattle.table_starts.proofs.Starts.{homes_in}
use Prim.Native.Nat.{◌*◌, ◌≤◌}
use Rattle.table_starts.proofs.distance.start_distance.Given as goal

abbrev pub invariant-loop-q : goal.invariant-loop-q
invariant-loop-q l = (l.q ≤ 16 * l.n) × Filled (table_of l.n (homes_in l.paths l.reach)) l.table l.initial.table l.q
