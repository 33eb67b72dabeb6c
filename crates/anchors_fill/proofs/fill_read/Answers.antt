use Rattle.std.proofs.Common.{◌∙◌, sym, arith}
use Rattle.wire.specs.Sizes.{full_letters}
use Rattle.wire.proofs.Laying.{laid-after}
use Rattle.anchors_fill.proofs.fill_read.Goals as goal

pub returns : goal.returns
returns c =
    let a = c.args in
    c.zero_rest.ensures
    ∙ laid-after full_letters a.read.now _ a.letters.now c.put_letters-r.result (sym c.put_letters-r.ensures.0) (omega arith) c.put_letters-r.ensures.1
