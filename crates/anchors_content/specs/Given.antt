-- Content in lent buffers, by the buffers one by one.
use Rattle.std.specs.Prelude.{ℕ, ◌^◌, ◌≤◌, ◌<◌, List, length, get_or}
use Rattle.wire.specs.Sizes.{full_letters, full_anchors}
use Rattle.anchors.specs.AnchorEntries.{AnchorsGiven}

-- content as the writer is given it
abbrev pub given_of : ℕ → ℕ → List ℕ → List ℕ → AnchorsGiven
given_of r n letters anchors = record { r = r; n = n; buffers = record { letters = letters; anchors = anchors } }

-- what holds of content that the code is lent: the buffers have full size, and every number fits 32 bits, as those of a slice do
pub record Lent (c : AnchorsGiven) : Type 0 where
  pub letters : full_letters ≤ length c.buffers.letters
  pub anchors : full_anchors ≤ length c.buffers.anchors
  pub r : c.r < 2 ^ 32
  pub n : c.n < 2 ^ 32
  pub numbers : (i : ℕ) → get_or c.buffers.anchors i 0 < 2 ^ 32
