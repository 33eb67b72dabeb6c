use Rattle.rounds.specs.Rounds.{Within}
use Rattle.rounds.specs.Table.{entry}
use Rattle.closed_rounds.specs.Closing.{ClosedBy}
use lib.ListN.{length}
use Prim.Native.Nat.{ℕ, ◌*◌, ◌≤◌}
use mathlib.Core.Path.{◌≡◌}
use Rattle.closed_rounds.proofs.closed.closed_walks.Given as goal

abbrev pub invariant-loop-sixteen : goal.invariant-loop-sixteen
invariant-loop-sixteen l =
    (length l.closed ≡ length l.initial.closed) × (length l.table ≡ length l.initial.table)
    × ((v : ℕ) → Within (16 * l.sixteen) v → v ≤ l.edges.n → ClosedBy l.edges.n l.edges.m l.walks.lengths.now l.edges.list v (entry v l.closed))
