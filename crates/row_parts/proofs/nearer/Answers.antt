use native.Mathlib.Omega.{arith}
use Rattle.steps.proofs.RowTurns.{near_first, near_second, near_less, near-more}
use Rattle.row_parts.proofs.nearer.Goals as goal

pub returns-then-x-eq0 : goal.returns-then-x-eq0
returns-then-x-eq0 c = let a = c.args in near_first a.x a.y (omega arith)

pub returns-then-y-eq0 : goal.returns-then-y-eq0
returns-then-y-eq0 c = let a = c.args in near_second a.x a.y (omega arith) (omega arith)

pub returns-then-x-y : goal.returns-then-x-y
returns-then-x-y c = let a = c.args in near_less a.x a.y (omega arith) (omega arith)

pub returns-else-x-y : goal.returns-else-x-y
returns-else-x-y c = let a = c.args in near-more a.x a.y (omega arith) (omega arith)
