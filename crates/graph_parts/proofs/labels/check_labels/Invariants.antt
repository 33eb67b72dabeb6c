use Prim.Native.Nat.{◌-◌}
use mathlib.Core.Path.{◌≡◌}
use Rattle.graph.specs.Reading.{labels_from}
use Rattle.graph_parts.specs.Answers.{labels_answer}
use Rattle.graph_parts.proofs.labels.check_labels.Given as goal

abbrev pub invariant-loop : goal.invariant-loop
invariant-loop l =
    labels_answer 0 (labels_from l.n 0 l.file l.initial.next.at) ≡ labels_answer l.sum (labels_from (l.n - l.counter) l.sum l.file l.next.at)
