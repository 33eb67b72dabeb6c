use Rattle.wire.proofs.Laying.{filled_more}
use Rattle.cover.specs.TableRounds.{known}
use Rattle.cover.proofs.TableLaws.{known-size, known-cell}
use Rattle.table_starts.proofs.Starts.{filled-rest}
use Prim.Native.Nat.{ℕ, ◌-◌}
use mathlib.Core.Path.{sym, ap, ◌∙◌}
use native.Mathlib.Omega.{arith}
use Rattle.table_starts.proofs.distance.finish_distance.Goals as goal

pub loop-entry-preserved : goal.loop-entry-preserved
loop-entry-preserved c =
    let s = c.args.table.now in
    let i = c.loop-entry.entry-index in
    let n = known-size s in (
      omega arith,
      filled_more (known s) c.loop-entry.table s i c.saturating_sub.result (omega arith) (omega arith) (c.saturating_sub.ensures ∙ ap (λ (x : ℕ). x - 1) (filled-rest (known s) c.loop-entry.table s i c.loop-entry.invariant.1) ∙ sym (known-cell s i)) c.loop-entry.invariant.1,
    )
