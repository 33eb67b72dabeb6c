use Rattle.table_starts.proofs.Starts.{home_same, home-apart}
use native.Mathlib.Omega.{arith}
use Rattle.closed_rounds.proofs.closed.same_cell.Goals as goal

pub returns-then-a-b : goal.returns-then-a-b
returns-then-a-b c = home_same c.args.a c.args.b (omega arith)

pub returns-else-a-b : goal.returns-else-a-b
returns-else-a-b c = home-apart c.args.a c.args.b (omega arith)
