use Prim.Native.Nat.{◌-◌}
use mathlib.Core.Path.{◌≡◌}
use Rattle.graph_paths.specs.Steps.{search_at}
use Rattle.graph_paths.proofs.search.find_edge.Given as goal

abbrev pub invariant-loop-passed : goal.invariant-loop-passed
invariant-loop-passed l =
    search_at l.count l.file l.start l.wanted.from l.wanted.to ≡ search_at (l.count - l.passed) l.file l.at l.wanted.from l.wanted.to
