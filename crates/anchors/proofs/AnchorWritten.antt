-- What is read of an encoding is what was encoded, whatever its numbers are.
-- Assumes nothing.
use Prim.Native.Nat.{ℕ, ◌+◌}
use mathlib.Core.Path.{◌≡◌, refl, sym, ap, ap₂, ◌∙◌}
use mathlib.Core.List.{List, [], ◌∷◌, ◌++◌, append_assoc, append-nil}
use lib.ListN.{length, take, drop}
use lib.Seq.{take-append_seam, drop-append_seam}
use Rattle.wire.specs.Found.{good, Part}
use Rattle.wire.specs.Sizes.{anchor_kind}
use Rattle.wire.proofs.Giving.{value_written}
use Rattle.wire.proofs.NumberLaws.{number-within}
use Rattle.graph.specs.Content.{Graph}
use Rattle.graph.specs.Encode.{encode_numbers}
use Rattle.graph.proofs.Accepting.{letters-read}
use Rattle.anchors.specs.Anchors.{Anchor, AnchorSet, numbers_of, read_length, anchor_count}
use Rattle.anchors.specs.AnchorRules.{no_anchor}
use Rattle.anchors.specs.AnchorBytes.{encode_each, encode_anchors}
use Rattle.anchors.specs.AnchorReading.{Numbers, numbers_at, anchors_from, ParsedAnchors, whole_anchors}
use Rattle.anchors.proofs.AnchorSteps.{numbers-step, anchors-step, anchors-none}
use Rattle.anchors.proofs.AnchorAccepting.{numbers_joined, whole_parts}

-- two lists of one length, each with something after it
same-front : (a b c d : List ℕ) → length a ≡ length b → a ++ c ≡ b ++ d → (a ≡ b) × (c ≡ d)
same-front a b c d n e = (
  sym (take-append_seam a c) ∙ ap₂ take n e ∙ take-append_seam b d,
  sym (drop-append_seam a c) ∙ ap₂ drop n e ∙ drop-append_seam b d,
)

-- the five numbers of an anchor
numbers_written : (s : List ℕ) (at : ℕ) (a : Anchor) (rest : List ℕ) (n : Numbers) → drop at s ≡ encode_numbers (numbers_of a) ++ rest
    → numbers_at s at ≡ good n → (n.anchor ≡ a) × (drop n.next s ≡ rest)
numbers_written s at a rest n d e =
    let t = numbers-step s at n e in
    let v = value_written s at a.v _ n.anchor.v t.v_end (d ∙ numbers_joined a rest) t.v_is in
    let x = value_written s t.v_end a.x _ n.anchor.x t.x_end v.1 t.x_is in
    let c = value_written s t.x_end a.c _ n.anchor.c t.c_end x.1 t.c_is in
    let l = value_written s t.c_end a.len _ n.anchor.len t.len_end c.1 t.len_is in
    let w = value_written s t.len_end a.weight rest n.anchor.weight t.weight_end l.1 t.weight_is in
    (same n.anchor v.0 x.0 c.0 l.0 w.0, ap (λ (j : ℕ). drop j s) t.next ∙ w.1)
  where
    same : (b : Anchor) → b.v ≡ a.v → b.x ≡ a.x → b.c ≡ a.c → b.len ≡ a.len → b.weight ≡ a.weight → b ≡ a
    same b v x c l w =
        let q : record { v = b.v; x = b.x; c = b.c; len = b.len; weight = b.weight } ≡ a = simp (v, x, c, l, w) in
        q

anchors_written : (g : Graph) (read : List ℕ) (each : List Anchor) (last : Anchor) (s : List ℕ) (at : ℕ) (rest : List ℕ) (r : Part (List Anchor))
    → drop at s ≡ encode_each each ++ rest → anchors_from g read (length each) last s at ≡ good r → r.content ≡ each
unfolding encode_each
anchors_written g read [] last s at rest r d e = ap (λ (p : Part (List Anchor)). p.content) (anchors-none g read last s at r e)
anchors_written g read (a ∷ each) last s at rest r d e =
    let t = anchors-step g read (length each) last s at r e in
    let n = numbers_written s at a (encode_each each ++ rest) t.first (d ∙ append_assoc (encode_numbers (numbers_of a)) (encode_each each) rest) t.first_is in
    let i = anchors_written g read each t.first.anchor s t.first.next rest t.rest n.1 t.rest_is in
    t.content ∙ ap₂ (λ (b : Anchor) (l : List Anchor). b ∷ l) n.0 i

-- What was written and is read is the content that was written.
pub whole_written : (g : Graph) (a : AnchorSet) (q : ParsedAnchors) → whole_anchors g (encode_anchors a) ≡ good q → q.set ≡ a
unfolding encode_anchors
whole_written g a q e =
    let s : List ℕ = encode_anchors a in
    let r : ℕ = read_length q.set in
    let p = whole_parts g s q e in
    let kind = value_written s 0 anchor_kind _ anchor_kind _ refl p.kind_is in
    let len = value_written s p.length_at (read_length a) _ r _ kind.1 p.length_is in
    let w = number-within s p.length_at r _ p.length_is in
    let l = letters-read r s q.read_at q.set.read w.1 p.read_is in
    let f = same-front q.set.read a.read (drop (q.read_at + r) s) _ len.0 (sym l.bytes ∙ len.1) in
    let count = value_written s (q.read_at + r) (anchor_count a) (encode_each a.anchors) (anchor_count q.set) _ f.1 p.count_is in
    let i =
    anchors_written g q.set.read a.anchors no_anchor s q.anchors_at [] _
    (count.1 ∙ sym (append-nil (encode_each a.anchors)))
    (ap (λ (j : ℕ). anchors_from g q.set.read j no_anchor s q.anchors_at) (sym count.0) ∙ p.anchors_is)
    in
    ap₂ (λ (t : List ℕ) (u : List Anchor). record { read = t; anchors = u }) f.0 i
