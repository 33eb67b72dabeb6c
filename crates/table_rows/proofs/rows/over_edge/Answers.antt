use Rattle.table_rows.proofs.Laning.{brought_level, brought-none}
use mathlib.Core.Path.{sym, ◌∙◌}
use native.Mathlib.Omega.{arith}
use Rattle.table_rows.proofs.rows.over_edge.Goals as goal

pub returns-then-there-here : goal.returns-then-there-here
returns-then-there-here c = c.further.ensures ∙ sym (brought_level _ _ c.args.there c.args.here (omega arith))

pub returns-else-there-here : goal.returns-else-there-here
returns-else-there-here c = sym (brought-none _ _ c.args.there c.args.here (omega arith))
