-- The first fault of the anchors that are given, as its number, 0 for none.
use Rattle.std.specs.Prelude.{ℕ, zero, suc, ◌+◌, List}
use Rattle.graph.specs.Content.{Graph}
use Rattle.wire.specs.Found.{first}
use Rattle.anchors.specs.Anchors.{Anchor}
use Rattle.anchors.specs.AnchorRules.{anchor_fault}
use Rattle.anchors.specs.AnchorEntries.{anchor_in}

-- of the anchors, `left` of them, from anchor i on, after the anchor `last`
unfoldable pub each_fault : Graph → List ℕ → ℕ → ℕ → Anchor → List ℕ → ℕ
each_fault g read zero i last numbers = 0
each_fault g read (suc left) i last numbers =
    first (anchor_fault g read last (anchor_in numbers i)) (each_fault g read left (i + 1) (anchor_in numbers i) numbers)
