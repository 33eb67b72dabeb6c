use mathlib.Core.Path.{◌≡◌}
use lib.ListN.{length}
use Rattle.cover.specs.Row.{unknown}
use Rattle.steps.specs.Setting.{backs_in}
use Rattle.vertex_row.proofs.make_row.Given as goal

abbrev pub invariant-loop-i : goal.invariant-loop-i
invariant-loop-i l = (length l.row ≡ l.t.n) × (l.row ≡ backs_in l.t l.v l.i (unknown l.t.n))
