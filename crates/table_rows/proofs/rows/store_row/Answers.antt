use Rattle.table_rows.proofs.Laning.{put-told}
use Rattle.wire.specs.Sizes.{table_row}
use Rattle.rounds.proofs.Turns.{swept-start, swept_kept, swept-set}
use Rattle.rounds.proofs.Upto.{within}
use Rattle.table_rows.proofs.Laning.{put_local, put-cell}
use lib.Seq.{set-get_or}
use lib.ListN.{get_or, set}
use Prim.Native.Nat.{ℕ, ◌+◌, ◌-◌, ◌*◌}
use mathlib.Core.Path.{◌≡◌, sym, ap, ◌∙◌}
use native.Mathlib.Omega.{arith}
use Rattle.std.proofs.Common.{rules}
use Rattle.table_rows.proofs.rows.store_row.Goals as goal
use Rattle.table_rows.proofs.rows.store_row.Goals.{else-old-row, then-old-row}

pub loop-i-init : goal.loop-i-init
loop-i-init c = (omega arith, search rules, swept-start _ _ _ _)

pub loop-i-preserved : goal.loop-i-preserved
loop-i-preserved c =
    let a = c.args in
    let i = c.loop-i.i in
    let x = get_or a.row i 0 in
    let at = 16 * (a.v - 1) + i in (
      omega arith,
      c.loop-i.invariant.1,
      (elim c.if-old-row.branch [
        | then-old-row w ↦ rw w.changed-is (swept-set table_row (put_local a.v a.row (omega arith)) at x 1 (omega arith) c.loop-i.invariant.2 (put-cell a.v a.row i _ (omega arith)) (omega arith) (λ e. w.if-old-row.true (sym e)) (within (omega arith) (omega arith)) (λ r. ap (λ (q : ℕ). get_or r q 0) (omega arith)))
        | else-old-row w ↦ rw (w.changed-is, ap (set c.loop-i.table at) (sym w.if-old-row.false) ∙ set-get_or c.loop-i.table at 0) (swept_kept table_row (put_local a.v a.row (omega arith)) at x (omega arith) c.loop-i.invariant.2 (put-cell a.v a.row i _ (omega arith)) (sym w.if-old-row.false))
      ]),
    )

pub returns-clause-table_after : goal.returns-clause-table_after
returns-clause-table_after c =
    let e : c.loop-i.i ≡ 16 = omega arith in
    (put-told c.args.v c.args.row (rw e at c.loop-i.invariant.2)).0

pub returns-clause-told : goal.returns-clause-told
returns-clause-told c =
    let e : c.loop-i.i ≡ 16 = omega arith in
    (put-told c.args.v c.args.row (rw e at c.loop-i.invariant.2)).1
