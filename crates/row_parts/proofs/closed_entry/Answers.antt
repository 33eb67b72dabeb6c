use native.Mathlib.Omega.{arith}
use Rattle.steps.proofs.RowTurns.{entry-none, entry-some}
use Rattle.row_parts.proofs.closed_entry.Goals as goal

pub returns-then-walk-eq0 : goal.returns-then-walk-eq0
returns-then-walk-eq0 c = entry-none c.args.walk (omega arith)

pub returns-else-walk-eq0 : goal.returns-else-walk-eq0
returns-else-walk-eq0 c = entry-some c.args.walk (omega arith)
