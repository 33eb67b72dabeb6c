use Rattle.std.proofs.Common.{ℕ, ◌*◌, arith, length-take}
use Rattle.wire.specs.Sizes.{full_anchors}
use Rattle.graph_fill.specs.Filling.{numbers_in}
use Rattle.graph_fill.proofs.Fronts.{laid-back}
use Rattle.anchors.specs.Anchors.{per_anchor}
use Rattle.anchors_fill.proofs.fill_anchors.Goals as goal

pub fill_numbers-requires : goal.fill_numbers-requires
fill_numbers-requires c = omega (arith, length-take {A = ℕ})

pub returns : goal.returns
returns c =
    let a = c.args in
    laid-back full_anchors (numbers_in a.file.now (per_anchor * a.n) a.start).content a.anchors.now _ (omega arith) c.fill_numbers.ensures.1
