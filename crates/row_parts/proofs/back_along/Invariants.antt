use mathlib.Core.Path.{◌≡◌}
use lib.ListN.{length}
use Rattle.steps.specs.Setting.{back_in}
use Rattle.steps.specs.Rowing.{BackFits}
use Rattle.row_parts.proofs.back_along.Given as goal

abbrev pub invariant-loop-a : goal.invariant-loop-a
invariant-loop-a l =
    (length l.row ≡ length l.initial.row) × BackFits (length l.initial.row) l.lengths l.path l.a l.sum × (back_in l.lengths l.path l.from l.far l.initial.row ≡ back_in l.lengths l.path l.a l.sum l.row)
