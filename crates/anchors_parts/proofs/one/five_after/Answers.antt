use Prim.Native.Nat.{ℕ, ◌-◌}
use mathlib.Core.Path.{sym, ap, ◌∙◌}
use native.Mathlib.Omega.{arith}
use Rattle.std.proofs.Common.{rules}
use Rattle.anchors_parts.specs.ReadAnchor.{numbers_after}
use Rattle.anchors_parts.proofs.EachLaws.{after_none, after_stop, after_more}
use Rattle.anchors_parts.proofs.one.five_after.Goals as goal

pub returns-in_err-next : goal.returns-in_err-next
returns-in_err-next c =
    let l = c.loop in
    let a = c.args in
    search (rules, l.invariant ∙ after_stop (a.skipped - l.counter) a.file.now l.place.at (omega arith) (sym c.in_err-next.ensures))

pub loop-preserved : goal.loop-preserved
loop-preserved c =
    let l = c.loop in
    let a = c.args in
    l.invariant
    ∙ after_more (a.skipped - l.counter) a.file.now l.place.at (omega arith) (sym c.in_ok-next.ensures)
    ∙ ap (λ (k : ℕ). numbers_after k a.file.now c.in_ok-next.next.at) (omega arith)

pub returns : goal.returns
returns c =
    let l = c.loop in
    let a = c.args in
    c.read_five-2.ensures ∙ sym (l.invariant ∙ after_none (a.skipped - l.counter) a.file.now l.place.at (omega arith))
