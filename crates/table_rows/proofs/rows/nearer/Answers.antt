use mathlib.Core.Path.{sym}
use native.Mathlib.Omega.{arith}
use Rattle.table_rows.proofs.Laning.{closer_second, closer_stays}
use Rattle.table_rows.proofs.rows.nearer.Goals as goal

pub returns-then-how_far : goal.returns-then-how_far
returns-then-how_far c = let a = c.args in sym (closer_second a.x a.y (omega arith) (rw (← c.how_far.ensures, ← c.how_far-2.ensures) c.if-how_far.true))

pub returns-else-how_far : goal.returns-else-how_far
returns-else-how_far c = let a = c.args in sym (closer_stays a.x a.y (omega arith) (λ h. omega (arith, c.how_far.ensures, c.how_far-2.ensures)))
