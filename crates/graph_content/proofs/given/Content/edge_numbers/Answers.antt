use Rattle.std.proofs.Common.{◌*◌, arith}
use Rattle.graph_content.proofs.Encoded.{numbers_part}
use Rattle.graph_content.proofs.given.Content.edge_numbers.Goals as goal

pub returns : goal.returns
returns c =
    let s = c.self.inside in
    let w = rw (← c.self.view_is) at c.requires in
    rw (← c.self.view_is) (numbers_part (2 * s.m) 0 s.edges.now (omega arith))
