-- How many bytes content in lent buffers takes in a file.
use Rattle.std.specs.Prelude.{ℕ, ◌+◌, ◌*◌, List, length, take}
use Rattle.wire.specs.Numbers.{encode}
use Rattle.wire.specs.Sizes.{anchor_kind}
use Rattle.graph.specs.Encode.{encode_numbers}
use Rattle.anchors.specs.Anchors.{per_anchor}

-- how many bytes r letters and the first n anchors of the numbers take in a file
abbrev pub size_in : ℕ → ℕ → List ℕ → ℕ
size_in r n numbers =
    length (encode anchor_kind)
    + (length (encode r) + (r + (length (encode n) + length (encode_numbers (take (per_anchor * n) numbers)))))
