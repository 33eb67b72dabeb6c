use Prim.Native.Nat.{ℕ, ◌*◌}
use mathlib.Core.Path.{sym, ap, ◌∙◌}
use native.Mathlib.Omega.{arith}
use lib.ListN.{length, take}
use lib.Seq.{length-take-le}
use Rattle.wire.proofs.Encoding.{encode_most}
use Rattle.wire.specs.Sizes.{anchor_kind}
use Rattle.graph.specs.Encode.{encode_numbers}
use Rattle.graph_content.proofs.Encoded.{numbers_most}
use Rattle.anchors.specs.Anchors.{per_anchor}
use Rattle.anchors_bytes.proofs.anchors_size.Goals as goal

pub overflow_add-read : goal.overflow_add-read
overflow_add-read c = let a = c.args in omega (arith, encode_most anchor_kind, encode_most a.r)

pub overflow_add-read-2 : goal.overflow_add-read-2
overflow_add-read-2 c = let a = c.args in omega (arith, encode_most anchor_kind, encode_most a.r)

pub overflow_add-result : goal.overflow_add-result
overflow_add-result c = let a = c.args in omega (arith, encode_most anchor_kind, encode_most a.r, encode_most a.n)

pub slice_bounds-numbers_size-end : goal.slice_bounds-numbers_size-end
slice_bounds-numbers_size-end c =
    sym (length-take-le (per_anchor * c.args.n) c.args.anchors.now (omega arith))

pub overflow_add-result-2 : goal.overflow_add-result-2
overflow_add-result-2 c =
    let a = c.args in
    let xs = take (per_anchor * c.args.n) a.anchors.now in
    omega (arith, encode_most anchor_kind, encode_most a.r, encode_most a.n, numbers_most xs, length-take-le (per_anchor * c.args.n) a.anchors.now (omega arith))

pub returns : goal.returns
returns c =
    let a = c.args in
    omega (arith, c.numbers_size.ensures)
