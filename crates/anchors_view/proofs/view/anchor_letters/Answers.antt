use mathlib.Core.Path.{◌∙◌}
use Rattle.anchors_view.proofs.Viewing.{view_inside, view_bytes}
use Rattle.anchors_view.proofs.view.anchor_letters.Goals as goal

pub part_of-requires : goal.part_of-requires
part_of-requires c =
    let a = c.args in
    view_inside a.graph.now a.anchors.now a.number a.file c.view.result c.view.ensures (λ i. (c.type_inv.graph i).fits)

pub returns : goal.returns
returns c =
    let a = c.args in
    c.part_of.ensures ∙ view_bytes a.graph.now a.anchors.now a.number a.file c.view.result c.view.ensures
