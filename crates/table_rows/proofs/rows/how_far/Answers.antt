use native.Mathlib.Omega.{arith}
use Rattle.table_rows.proofs.Laning.{far-wraps}
use Rattle.table_rows.proofs.rows.how_far.Goals as goal

pub returns : goal.returns
returns c = far-wraps c.args.x (omega arith)
