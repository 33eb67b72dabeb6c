use mathlib.Core.Path.{◌≡◌}
use mathlib.Core.Bool.{true}
use Rattle.graph_paths.specs.Marks.{all_marked}
use Rattle.graph_paths.proofs.marks.all_marked.Given as goal

abbrev pub invariant-loop-v : goal.invariant-loop-v
invariant-loop-v l = all_marked l.flags l.v ≡ true
