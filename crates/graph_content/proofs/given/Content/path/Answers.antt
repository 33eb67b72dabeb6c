use Rattle.std.proofs.Common.{◌+◌, ◌*◌, arith, slice_index}
use Rattle.wire.specs.Sizes.{path_room}
use Rattle.graph_content.proofs.Encoded.{numbers_between}
use Rattle.graph_content.proofs.given.Content.path.Goals as goal

pub returns : goal.returns
returns c =
    let s = c.self.inside in
    let count = slice_index s.counts.now c.args.i in
    let w = rw (← c.self.view_is) at c.requires.within_room in
    rw (← c.self.view_is) (numbers_between (path_room * c.args.i) (path_room * c.args.i + count) count s.paths.now (omega arith) (omega arith))
