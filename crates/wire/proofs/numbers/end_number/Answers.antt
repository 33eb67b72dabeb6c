use native.Mathlib.Omega.{arith}
use mathlib.Core.Path.{sym}
use Rattle.wire.proofs.Reading.{ended-refused, ended_whole, ended-first}
use Rattle.wire.proofs.numbers.end_number.Goals as goal
use Rattle.wire.proofs.numbers.end_number.Goals.{else-b-eq0, then-b-eq0+else-start-at}

pub returns-then-start-at : goal.returns-then-start-at
returns-then-start-at c = let a = c.args in rw c.at.ensures (sym (ended-refused a.b a.start a.at a.weight a.value (omega arith) (omega arith)))

pub returns : goal.returns
returns c =
    let a = c.args in
    elim c.if-b-eq0.branch [ then-b-eq0+else-start-at w ↦ sym (ended-first a.b a.start a.at a.weight a.value (omega arith)) | else-b-eq0 w ↦ sym (ended_whole a.b a.start a.at a.weight a.value (λ e. omega arith)) ]
