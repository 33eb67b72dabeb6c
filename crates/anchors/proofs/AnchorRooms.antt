-- Lent buffers of full size.
-- Assumes nothing.
use Prim.Native.Nat.{◌≤◌}
use mathlib.Core.Path.{◌≡◌}
use mathlib.Core.Bool.{true}
use lib.ListN.{length}
use lib.Dec.{leb}
use borrow.Author.Tests.{leb-true, le-leb}
use Rattle.wire.specs.Sizes.{full_letters, full_anchors}
use Rattle.graph.proofs.Kept.{both}
use Rattle.anchors.specs.AnchorEntries.{AnchorBuffers, roomy_anchors}

pub full_buffers : (b : AnchorBuffers) → roomy_anchors b ≡ true → (full_letters ≤ length b.letters) × (full_anchors ≤ length b.anchors)
unfolding roomy_anchors
full_buffers b h =
    let t = both (leb full_letters (length b.letters)) _ h in
    (leb-true full_letters (length b.letters) t.0, leb-true full_anchors (length b.anchors) t.1)

pub buffers_full : (b : AnchorBuffers) → full_letters ≤ length b.letters → full_anchors ≤ length b.anchors → roomy_anchors b ≡ true
unfolding roomy_anchors
buffers_full b l n = simp (le-leb full_letters (length b.letters) l, le-leb full_anchors (length b.anchors) n)
