use Rattle.std.proofs.Common.{sym, arith}
use Rattle.changes.proofs.ChangeLaws.{taken_digit, taken_equals, taken_end, taken_letter}
use Rattle.changes.proofs.with.Goals as goal

pub returns-in-61 : goal.returns-in-61
returns-in-61 c = sym (taken_equals _ _ (omega arith))

pub returns-in-59 : goal.returns-in-59
returns-in-59 c = sym (taken_end _ _ (omega arith))

pub returns-in-48-to-57 : goal.returns-in-48-to-57
returns-in-48-to-57 c = rw c.from.ensures (sym (taken_digit _ _ (omega arith) (omega arith)))

pub returns-in_default : goal.returns-in_default
returns-in_default c = sym (taken_letter _ _ (λ l h. omega arith) (λ e. omega arith) (λ e. omega arith))

pub returns-in_default-2 : goal.returns-in_default-2
returns-in_default-2 c = sym (taken_letter _ _ (λ l h. omega arith) (λ e. omega arith) (λ e. omega arith))
