use Prim.Native.Nat.{◌-◌}
use mathlib.Core.Path.{◌≡◌}
use Rattle.graph_parts.specs.Answers.{answered}
use Rattle.anchors.specs.AnchorReading.{anchors_from}
use Rattle.anchors_parts.specs.LabelTables.{content_of}
use Rattle.anchors_rules.specs.OneAnchor.{anchor_of}
use Rattle.anchors_parts.proofs.each.check_each.Given as goal

abbrev pub invariant-loop : goal.invariant-loop
invariant-loop l =
    answered l.count (anchors_from (content_of l.labels) l.read l.count (anchor_of l.initial.last) l.file l.initial.place.at)
    ≡ answered l.count (anchors_from (content_of l.labels) l.read (l.count - l.counter) (anchor_of l.last) l.file l.place.at)
