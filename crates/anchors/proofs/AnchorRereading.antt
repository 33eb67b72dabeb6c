-- Good content that was encoded is read back.
-- Assumes nothing.
use Prim.Native.Nat.{ℕ, ◌+◌, ◌^◌, ◌≤◌, ◌<◌}
use mathlib.Core.Path.{◌≡◌, refl, sym, ap, ◌∙◌}
use mathlib.Core.List.{List, [], ◌∷◌, ◌++◌, append_assoc, append-nil}
use native.Mathlib.Omega.{arith}
use native.Mathlib.Nat.{add-zero}
use lib.ListN.{length, drop, length-append}
use borrow.Author.Tests.{le-leb, eq-eqb}
use Rattle.wire.specs.Found.{good}
use Rattle.wire.specs.Numbers.{encode}
use Rattle.wire.specs.Sizes.{anchor_kind, most_read, most_anchors}
use Rattle.wire.proofs.NumberLaws.{number_suffix}
use Rattle.graph.specs.Content.{Graph}
use Rattle.graph.specs.Good.{All, Next, GoodGraph}
use Rattle.graph.specs.Encode.{encode_numbers}
use Rattle.graph.proofs.Rereading.{letters_again}
use Rattle.anchors.specs.Anchors.{Anchor, AnchorSet, numbers_of, read_length, anchor_count}
use Rattle.anchors.specs.AnchorRules.{no_anchor}
use Rattle.anchors.specs.AnchorBytes.{encode_each, encode_anchors}
use Rattle.anchors.specs.AnchorReading.{numbers_at, anchors_from, ParsedAnchors, whole_anchors, anchors_of}
use Rattle.anchors.specs.AnchorPlaces.{read_start, anchors_start, parsed_anchors}
use Rattle.anchors.specs.GoodAnchors.{GoodAnchor, GoodAnchors, KeyBelow}
use Rattle.anchors.proofs.AnchorKept.{none_below}
use Rattle.anchors.proofs.AnchorOrder.{anchor_free}
use Rattle.anchors.proofs.AnchorSizes.{Ranged, anchor-ranged, anchors-short}
use Rattle.anchors.proofs.AnchorAccepting.{AnchorParts, few_bytes, numbers_joined}

-- ---- anchors

-- an anchor's numbers fit 32 bits
abbrev pub Fitting : Anchor → Type 0
Fitting a = (a.v < 2 ^ 32) × (a.x < 2 ^ 32) × (a.c < 2 ^ 32) × (a.len < 2 ^ 32) × (a.weight < 2 ^ 32)

ranged_fit : (a : Anchor) → Ranged a → Fitting a
ranged_fit a h =
    (omega (arith, h.few_v), omega (arith, h.few_x), omega (arith, h.few_c), omega (arith, h.few_len), omega (arith, h.few_weight))

-- one anchor's numbers; its weight starts at a place within it
pub numbers-back : (s : List ℕ) (at : ℕ) (a : Anchor) (rest : List ℕ) → Fitting a → drop at s ≡ encode_numbers (numbers_of a) ++ rest
    → (w : ℕ)
    × (numbers_at s at ≡ good (record { anchor = a; weight_at = w; next = at + length (encode_numbers (numbers_of a)) }))
    × (drop (at + length (encode_numbers (numbers_of a))) s ≡ rest)
unfolding numbers_at
numbers-back s at a rest h e =
    let v = number_suffix s at a.v _ h.0 (e ∙ numbers_joined a rest) in
    let p : ℕ = at + length (encode a.v) in
    let x = number_suffix s p a.x _ h.1 v.1 in
    let q : ℕ = p + length (encode a.x) in
    let c = number_suffix s q a.c _ h.2 x.1 in
    let r : ℕ = q + length (encode a.c) in
    let l = number_suffix s r a.len _ h.3 c.1 in
    let t : ℕ = r + length (encode a.len) in
    let w = number_suffix s t a.weight rest h.4 l.1 in
    let n : t + length (encode a.weight) ≡ at + length (encode_numbers (numbers_of a)) =
    omega (arith, simp length-append at (ap length (numbers_joined a [])))
    in (
      t,
      simp (v.0, x.0, c.0, l.0, w.0) (ap (λ (k : ℕ). good (record { anchor = a; weight_at = t; next = k })) n),
      ap (λ (k : ℕ). drop k s) (sym n) ∙ w.1,
    )

module _ (g : Graph) (read : List ℕ) (k : GoodGraph g) (few : length read ≤ most_read) where
  anchors-back : (each : List Anchor) (last : Anchor) (s : List ℕ) (at : ℕ) (rest : List ℕ)
      → All (GoodAnchor g read) each
      → Next KeyBelow (last ∷ each)
      → drop at s ≡ encode_each each ++ rest
      → anchors_from g read (length each) last s at ≡ good (record { content = each; next = at + length (encode_each each) })
  unfolding anchors_from All Next encode_each
  anchors-back [] last s at rest h o e = ap (λ (j : ℕ). good (record { content = []; next = j })) (sym (add-zero at))
  anchors-back (a ∷ each) last s at rest h o e =
      let b : List ℕ = encode_numbers (numbers_of a) in
      let n = numbers-back s at a (encode_each each ++ rest) (ranged_fit a (anchor-ranged g read a k few h.0)) (e ∙ append_assoc b (encode_each each) rest) in
      let i = anchors-back each a s (at + length b) rest h.1 o.1 n.2 in
      let m : at + length b + length (encode_each each) ≡ at + length (b ++ encode_each each) = omega (arith, length-append b (encode_each each)) in
      simp (n.1, anchor_free g read last a h.0 o.0, i)
      (ap (λ (j : ℕ). good (record { content = a ∷ each; next = j })) m)

-- ---- the file

-- A file with the parts of a content is read as it: the converse of the inversion.
parts_whole : (g : Graph) (s : List ℕ) (q : ParsedAnchors) → AnchorParts g s q → whole_anchors g s ≡ good q
unfolding whole_anchors
parts_whole g s q p =
    simp (
      p.kind_is,
      p.length_is,
      le-leb 1 (read_length q.set) p.some_read,
      le-leb (read_length q.set) most_read p.few_read,
      p.read_is,
      p.count_is,
      le-leb 0 (anchor_count q.set) (omega arith),
      le-leb (anchor_count q.set) most_anchors p.few_anchors,
      p.anchors_is,
      eq-eqb (length s) (length s) refl,
    )

-- no anchor stands before the first
first_below : (g : Graph) (read : List ℕ) (each : List Anchor) → All (GoodAnchor g read) each → Next KeyBelow each → Next KeyBelow (no_anchor ∷ each)
unfolding All Next
first_below g read [] h o = tt
first_below g read (a ∷ each) h o = (none_below a h.0.vertex.0, o)

-- What was written is read back: "number 0 .. when every file rule holds".
encoded_parts : (g : Graph) (a : AnchorSet) → GoodGraph g → GoodAnchors g a → AnchorParts g (encode_anchors a) (parsed_anchors a)
unfolding encode_anchors
encoded_parts g a k h =
    let s : List ℕ = encode_anchors a in
    let r : ℕ = read_length a in
    let n : ℕ = anchor_count a in
    let p : ℕ = length (encode anchor_kind) in
    let z : 0 + p ≡ p = omega arith in
    let kind = number_suffix s 0 anchor_kind _ (omega arith) refl in
    let len = number_suffix s p r _ (omega (arith, h.few_read)) (ap (λ (j : ℕ). drop j s) (sym z) ∙ kind.1) in
    let read = letters_again a.read s (read_start a) _ h.letters len.1 in
    let count = number_suffix s (read_start a + r) n (encode_each a.anchors) (omega (arith, h.few_anchors)) read.1 in
    let each =
    anchors-back g a.read k h.few_read a.anchors no_anchor s (anchors_start a) [] h.each
    (first_below g a.read a.anchors h.each h.rise)
    (count.1 ∙ sym (append-nil (encode_each a.anchors)))
    in
    let l : length s ≡ anchors_start a + length (encode_each a.anchors) = simp length-append (omega arith) in
    record {
      length_at = p;
      kind_is = kind.0 ∙ ap (λ (j : ℕ). good (record { content = anchor_kind; next = j })) z;
      length_is = len.0;
      some_read = h.some_read;
      few_read = h.few_read;
      read_is = read.0;
      read_within = omega arith;
      count_is = count.0;
      few_anchors = h.few_anchors;
      anchors_is = each ∙ ap (λ (j : ℕ). good (record { content = a.anchors; next = j })) (sym l);
      anchors_within = omega arith;
    }

pub encoded_whole : (g : Graph) (a : AnchorSet) → GoodGraph g → GoodAnchors g a → whole_anchors g (encode_anchors a) ≡ good (parsed_anchors a)
encoded_whole g a k h = parts_whole g (encode_anchors a) (parsed_anchors a) (encoded_parts g a k h)

-- it is never too long
pub encoded_read : (g : Graph) (a : AnchorSet) → GoodGraph g → GoodAnchors g a → anchors_of g (encode_anchors a) ≡ good (parsed_anchors a)
encoded_read g a k h = few_bytes g (encode_anchors a) (anchors-short g a k h) ∙ encoded_whole g a k h
