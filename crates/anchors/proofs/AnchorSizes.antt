-- How large good anchors are: their numbers, and the bytes of their encoding.
-- Assumes nothing.
use Prim.Native.Nat.{ℕ, zero, suc, ◌-◌, ◌*◌, ◌/◌, ◌≤◌, ◌<◌}
use mathlib.Core.Path.{ap}
use mathlib.Core.List.{List, [], ◌∷◌, flatten}
use native.Mathlib.Omega.{arith}
use lib.ListN.{length, get_or, length-append}
use Rattle.wire.specs.Numbers.{encode}
use Rattle.wire.specs.Sizes.{anchor_kind, most_vertices, most_letters, most_read, most_weight, most_file_bytes}
use Rattle.wire.proofs.Encoding.{split, encode_one, encode-more}
use Rattle.graph.specs.Content.{Graph}
use Rattle.graph.specs.Good.{All, GoodGraph}
use Rattle.graph.specs.Encode.{encode_numbers}
use Rattle.anchors.specs.Anchors.{Anchor, AnchorSet, numbers_of, read_length, anchor_count}
use Rattle.anchors.specs.AnchorBytes.{encode_each, encode_anchors}
use Rattle.anchors.specs.GoodAnchors.{GoodAnchor, GoodAnchors}

-- ---- the numbers

-- a label is no longer than all labels together
pub label_few : (ls : List (List ℕ)) (i : ℕ) → length (get_or ls i []) ≤ length (flatten ls)
unfolding flatten
label_few [] i = omega arith
label_few (l ∷ ls) zero = omega (arith, length-append l (flatten ls))
label_few (l ∷ ls) (suc i) = omega (arith, length-append l (flatten ls), label_few ls i)

-- an anchor's numbers are within their ranges
pub record Ranged (a : Anchor) : Type 0 where
  pub few_v : a.v ≤ most_vertices
  pub few_x : a.x ≤ most_letters
  pub few_c : a.c ≤ most_read
  pub few_len : a.len ≤ most_read
  pub few_weight : a.weight ≤ most_weight

pub anchor-ranged : (g : Graph) (read : List ℕ) (a : Anchor) → GoodGraph g → length read ≤ most_read → GoodAnchor g read a → Ranged a
anchor-ranged g read a k r h =
    let l = label_few g.labels (a.v - 1) in
    let m = k.few_letters in
    let y = h.in_label in
    let d = h.in_read in
    let n = h.some_length in
    let x = h.some_x in
    let c = h.some_c in
    record {
      few_v = omega (arith, h.vertex.1, k.few_vertices);
      few_x = omega arith;
      few_c = omega arith;
      few_len = omega arith;
      few_weight = h.few_weight;
    }

-- ---- the bytes

encode-two : (x : ℕ) → x < 128 * 128 → length (encode x) ≤ 2
encode-two x h =
    split 128 x
    (λ g. rw (encode-more x g (omega arith)) (rw (encode_one (x / 128) (omega arith)) (omega arith)))
    (λ g. rw (encode_one x g) (omega arith))

encode_three : (x : ℕ) → x < 128 * (128 * 128) → length (encode x) ≤ 3
encode_three x h =
    split 128 x
    (λ g. rw (encode-more x g (omega arith)) (omega (arith, encode-two (x / 128) (omega arith))))
    (λ g. rw (encode_one x g) (omega arith))

-- an anchor takes at most this many bytes
abbrev most_each : ℕ
most_each = 14

one-bytes : (a : Anchor) → Ranged a → length (encode_numbers (numbers_of a)) ≤ most_each
unfolding encode_numbers
one-bytes a h =
    let v = encode-two a.v (omega (arith, h.few_v)) in
    let x = encode_three a.x (omega (arith, h.few_x)) in
    let c = encode_three a.c (omega (arith, h.few_c)) in
    let l = encode_three a.len (omega (arith, h.few_len)) in
    let w = encode_three a.weight (omega (arith, h.few_weight)) in
    simp length-append (omega arith)

each-bytes : (g : Graph) (read : List ℕ) (more : List Anchor) → GoodGraph g → length read ≤ most_read → All (GoodAnchor g read) more
    → length (encode_each more) ≤ length more * most_each
unfolding encode_each All
each-bytes g read [] k r h = omega arith
each-bytes g read (a ∷ more) k r h =
    let o = one-bytes a (anchor-ranged g read a k r h.0) in
    let i = each-bytes g read more k r h.1 in
    simp length-append (omega arith)

-- the most that an anchor file takes: 1 byte for the kind, 3 for r, the read, 2 for N, and 14 for each anchor
abbrev pub most_anchor_bytes : ℕ
most_anchor_bytes = 61446

-- "4 with place 65,536 if the file would pass 65,536 bytes" never happens to an anchor file
pub anchor-bytes : (g : Graph) (a : AnchorSet) → GoodGraph g → GoodAnchors g a → length (encode_anchors a) ≤ most_anchor_bytes
unfolding encode_anchors
anchor-bytes g a k h =
    let t = encode_one anchor_kind (omega arith) in
    let r = encode_three (read_length a) (omega (arith, h.few_read)) in
    let n = encode-two (anchor_count a) (omega (arith, h.few_anchors)) in
    let e = each-bytes g a.read a.anchors k h.few_read h.each in
    let f = h.few_read in
    let m = h.few_anchors in
    simp (length-append, ap length t) (omega arith)

pub anchors-short : (g : Graph) (a : AnchorSet) → GoodGraph g → GoodAnchors g a → length (encode_anchors a) ≤ most_file_bytes
anchors-short g a k h = omega (arith, anchor-bytes g a k h)
