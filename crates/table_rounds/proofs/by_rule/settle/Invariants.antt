use Rattle.wire.specs.Sizes.{table_row}
use Rattle.rounds.specs.Place.{cell_place}
use Rattle.rounds.specs.Rounds.{iterate}
use Rattle.rounds.specs.Table.{table_round}
use Rattle.rounds.proofs.Turns.{Looping}
use lib.ListN.{length}
use Prim.Native.Nat.{◌-◌}
use mathlib.Core.Path.{◌≡◌}
use Rattle.table_rounds.proofs.by_rule.settle.Given as goal

abbrev pub invariant-loop-changed : goal.invariant-loop-changed
invariant-loop-changed g l =
    let round = table_round cell_place (g.R.EdgeRule.rules l.rule l.edges.m l.edges.list) table_row l.edges.n in
    (length l.table ≡ length l.initial.table) × (l.table ≡ iterate round l.count l.initial.table) × Looping l.edges.n round l.initial.table l.count l.table l.changed

abbrev pub decreases-loop-changed : goal.decreases-loop-changed
decreases-loop-changed g l = l.edges.n - l.count
