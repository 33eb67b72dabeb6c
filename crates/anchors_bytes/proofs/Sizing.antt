-- The encoding of what stands in the used places, part after part, and its length.
-- Assumes nothing.
use Prim.Native.Nat.{ℕ, zero, suc, ◌+◌, ◌*◌, ◌≤◌}
use mathlib.Core.Path.{◌≡◌, refl, ap, ◌∙◌}
use mathlib.Core.List.{List, ◌++◌}
use native.Mathlib.Omega.{arith}
use lib.ListN.{length, take, length-append}
use lib.Seq.{length-take-le}
use Rattle.graph.specs.Entries.{numbers_in}
use Rattle.wire.specs.Numbers.{encode}
use Rattle.wire.specs.Sizes.{anchor_kind}
use Rattle.graph.specs.Encode.{encode_numbers}
use Rattle.anchors.specs.Anchors.{per_anchor}
use Rattle.anchors.specs.AnchorBytes.{encode_each, encode_anchors}
use Rattle.anchors.specs.AnchorEntries.{AnchorsGiven, anchor_in, anchors_in, set_in}
use Rattle.anchors.proofs.AnchorAccepting.{numbers_joined}
use Rattle.graph.proofs.Givens.{numbers_part}
use Rattle.anchors.proofs.AnchorGiven.{set-bytes}
use Rattle.anchors_bytes.specs.InPlaces.{size_in}

-- the anchors are written as their numbers
each-numbers : (left i : ℕ) (numbers : List ℕ)
    → encode_each (anchors_in left i numbers) ≡ encode_numbers (numbers_in (per_anchor * left) (per_anchor * i) numbers)
unfolding encode_each anchors_in encode_numbers numbers_in
each-numbers zero i numbers = refl
each-numbers (suc left) i numbers =
    let p : ℕ = per_anchor * i in
    let d : per_anchor * suc left ≡ suc (suc (suc (suc (suc (per_anchor * left))))) = omega arith in
    let e : per_anchor * (i + 1) ≡ p + 1 + 1 + 1 + 1 + 1 = omega arith in
    let two : p + 2 ≡ p + 1 + 1 = omega arith in
    let three : p + 3 ≡ p + 1 + 1 + 1 = omega arith in
    let four : p + 4 ≡ p + 1 + 1 + 1 + 1 = omega arith in
    numbers_joined (anchor_in numbers i) (encode_each (anchors_in left (i + 1) numbers))
    ∙ simp (each-numbers left (i + 1) numbers, d, e, two, three, four)

-- the bytes of the content by the parts of the buffers
module _ (c : AnchorsGiven) (hr : c.r ≤ length c.buffers.letters) (hn : per_anchor * c.n ≤ length c.buffers.anchors) where
  pub bytes_parts : encode_anchors (set_in c)
      ≡ encode anchor_kind
      ++ (encode c.r
      ++ (take c.r c.buffers.letters ++ (encode c.n ++ encode_numbers (take (per_anchor * c.n) c.buffers.anchors))))
  bytes_parts =
      set-bytes c
      ∙ simp (
        each-numbers c.n 0 c.buffers.anchors,
        numbers_part c.r 0 c.buffers.letters (omega arith),
        numbers_part (per_anchor * c.n) 0 c.buffers.anchors (omega arith),
      )

  -- and how many they are
  pub bytes-length : length (encode_anchors (set_in c)) ≡ size_in c.r c.n c.buffers.anchors
  bytes-length = ap length bytes_parts ∙ simp (length-append, length-take-le c.r c.buffers.letters hr)
