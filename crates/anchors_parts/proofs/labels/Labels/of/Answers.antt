use Rattle.anchors_parts.proofs.LabelLaws.{tables-made}
use Rattle.anchors_parts.proofs.labels.Labels.of.Goals as goal

pub over-requires : goal.over-requires
over-requires c = tables-made c.args.graph.now c.args.at c.args.n _ _ _ _ c.requires.labels_at c.label_places.ensures.0 c.label_places.ensures.1
