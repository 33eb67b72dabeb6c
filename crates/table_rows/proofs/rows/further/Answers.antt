use Rattle.rounds.specs.Kinds.{shift}
use Rattle.table_rows.proofs.Laning.{shift_none, shift-some}
use Prim.Native.Nat.{ℕ}
use mathlib.Core.Path.{sym, ap, ◌∙◌}
use native.Mathlib.Omega.{arith}
use Rattle.table_rows.proofs.rows.further.Goals as goal

pub returns-then-x-eq0 : goal.returns-then-x-eq0
returns-then-x-eq0 c =
    let a = c.args in
    sym (ap (λ (x : ℕ). shift x a.far) (omega arith) ∙ shift_none a.far)

pub returns-else-x-eq0 : goal.returns-else-x-eq0
returns-else-x-eq0 c = sym (shift-some c.args.x c.args.far (omega arith))
