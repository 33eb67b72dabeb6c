-- The bytes of an anchor file, from its content.
use Rattle.std.specs.Prelude.{ℕ, List, [], ◌∷◌, ◌++◌}
use Rattle.wire.specs.Numbers.{encode}
use Rattle.wire.specs.Sizes.{anchor_kind}
use Rattle.graph.specs.Encode.{encode_numbers}
use Rattle.anchors.specs.Anchors.{Anchor, AnchorSet, numbers_of, read_length, anchor_count}

-- "for each anchor v, x, c, length, weight"
unfoldable pub encode_each : List Anchor → List ℕ
encode_each [] = []
encode_each (a ∷ rest) = encode_numbers (numbers_of a) ++ encode_each rest

-- "Anchor file: 2; r; the r letters of the read; N; .."
unfoldable pub encode_anchors : AnchorSet → List ℕ
encode_anchors a =
    encode anchor_kind ++ (encode (read_length a) ++ (a.read ++ (encode (anchor_count a) ++ encode_each a.anchors)))
