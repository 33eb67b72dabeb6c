use Rattle.std.proofs.Common.{sym, arith}
use Rattle.texts.proofs.Parting.{parting_mark, parting_passed, parting_ends, parting_none}
use Rattle.texts.proofs.part.Goals as goal
use Rattle.texts.proofs.part.Goals.{then-b-eq-MARK+else-left-eq0, else-b-eq-MARK}

pub returns-then-left-eq0 : goal.returns-then-left-eq0
returns-then-left-eq0 c = sym (parting_ends _ _ _ _ _ c.loop-i.invariant c.loop-i-test.true (omega arith) (omega arith))

pub loop-i-preserved : goal.loop-i-preserved
loop-i-preserved c =
    elim c.if-b-eq-MARK.branch [
      | then-b-eq-MARK+else-left-eq0 w ↦
          parting_mark _ _ _ _ _ _ _ c.loop-i.invariant c.loop-i-test.true (omega arith) (λ e. omega arith) w.left-is w.start-is
      | else-b-eq-MARK w ↦
          parting_passed _ _ _ _ _ _ _ c.loop-i.invariant c.loop-i-test.true (λ e. omega arith) w.left-is w.start-is
    ]

pub returns : goal.returns
returns c = sym (parting_none _ _ _ _ _ c.loop-i.invariant c.loop-i-test.false)
