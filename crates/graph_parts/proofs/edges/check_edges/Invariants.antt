use Prim.Native.Nat.{◌-◌}
use mathlib.Core.Path.{◌≡◌}
use Rattle.graph.specs.Reading.{edges_from}
use Rattle.graph_rules.specs.Edges.{edge_of}
use Rattle.graph_parts.specs.Answers.{answered}
use Rattle.graph_parts.proofs.edges.check_edges.Given as goal

abbrev pub invariant-loop : goal.invariant-loop
invariant-loop l =
    answered l.m (edges_from l.n l.m (edge_of l.initial.last) l.file l.initial.next.at) ≡ answered l.m
    (edges_from l.n (l.m - l.counter) (edge_of l.last) l.file l.next.at)
