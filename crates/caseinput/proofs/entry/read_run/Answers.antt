use Rattle.std.proofs.Common.{refl, sym, ap, ◌∙◌, drop, Some, arith}
use Rattle.std.proofs.lemmas.List.{set_past, drop-drop}
use Rattle.caseinput.proofs.EntryLaws.{running_first, running_more, run_ends}
use Rattle.caseinput.proofs.entry.read_run.Goals as goal
use Rattle.caseinput.proofs.entry.read_run.Goals.{then-at-i, else-at-i}

pub loop-i-init : goal.loop-i-init
loop-i-init g c = λ xs e. running_first _ _ _ _ _ _ xs e

pub loop-i-preserved : goal.loop-i-preserved
loop-i-preserved g c = λ xs e. running_more _ _ _ (c.loop-i.invariant xs e) (omega arith) c.in_ok-x.ensures
    (elim c.if-at-i.branch [
      | then-at-i w ↦ w.space-is
      | else-at-i w ↦ w.space-is ∙ sym (set_past _ _ _ w.if-at-i.false)
    ])

pub returns : goal.returns
returns g c = λ xs e.
    let at = c.in_ok-at.ensures xs e in
    let n = c.in_ok-n.ensures (drop 4 xs) at.1 in
    let ends = run_ends _ xs (c.loop-i.invariant (drop 8 xs) (n.1 ∙ ap Some (drop-drop 4 4 xs))) (omega arith) n.0 at.0 in
    (refl, ends.0, ends.1)
