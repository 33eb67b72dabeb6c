use Rattle.anchors_parts.specs.LabelTables.{content_of}
use Rattle.anchors_parts.proofs.LabelLaws.{Placing}
use Rattle.anchors_parts.proofs.labels.label_places.Given as goal

abbrev pub invariant-loop-i : goal.invariant-loop-i
invariant-loop-i l = Placing l.graph l.at (content_of l.graph).labels l.initial.starts l.initial.lengths l.starts l.lengths l.i l.next
