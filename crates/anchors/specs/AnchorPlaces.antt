-- Where the parts of an anchor file start, from its content.
use Rattle.std.specs.Prelude.{ℕ, ◌+◌, length}
use Rattle.wire.specs.Numbers.{encode}
use Rattle.wire.specs.Sizes.{anchor_kind}
use Rattle.anchors.specs.Anchors.{AnchorSet, read_length, anchor_count}
use Rattle.anchors.specs.AnchorReading.{ParsedAnchors}

-- the letters of the read come after the kind and r
abbrev pub read_start : AnchorSet → ℕ
read_start a = length (encode anchor_kind) + length (encode (read_length a))

-- the anchors come after the read and N
abbrev pub anchors_start : AnchorSet → ℕ
anchors_start a = read_start a + read_length a + length (encode (anchor_count a))

-- content, as its file is parsed
abbrev pub parsed_anchors : AnchorSet → ParsedAnchors
parsed_anchors a = record { set = a; read_at = read_start a; anchors_at = anchors_start a }
