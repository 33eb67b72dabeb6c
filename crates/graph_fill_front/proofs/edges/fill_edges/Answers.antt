use Rattle.std.proofs.Common.{ℕ, ◌*◌, arith, length-take}
use Rattle.wire.specs.Sizes.{full_edges}
use Rattle.graph_fill.specs.Filling.{numbers_in}
use Rattle.graph_fill.proofs.Fronts.{laid-back}
use Rattle.graph_fill_front.proofs.edges.fill_edges.Goals as goal

pub fill_numbers-requires : goal.fill_numbers-requires
fill_numbers-requires c = omega (arith, length-take {A = ℕ})

pub returns : goal.returns
returns c =
    let a = c.args in
    laid-back full_edges (numbers_in a.file.now (2 * a.m) a.start).content a.out.now _ (omega arith) c.fill_numbers.ensures.1
