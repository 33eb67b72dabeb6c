-- Every proper prefix of an accepted anchor file is refused: its bytes end within the file.
-- Assumes nothing.
use Prim.Native.Nat.{ℕ, zero, suc, ◌+◌, ◌≤◌, ◌<◌}
use mathlib.Core.Path.{◌≡◌, refl, sym, ap, ap₂, ◌∙◌}
use mathlib.Core.Logic.{inl, inr}
use mathlib.Core.List.{List, ◌∷◌}
use native.Mathlib.Omega.{arith}
use lib.ListN.{length, take}
use lib.Dec.{eqb}
use Rattle.wire.specs.Cases.{pick}
use Rattle.wire.specs.Found.{good, fault, Part}
use Rattle.wire.specs.Refusals.{bytes_end, wrong_kind}
use Rattle.wire.specs.Sizes.{anchor_kind, most_read, most_anchors}
use Rattle.wire.proofs.Cutting.{CutTo, cut_good, cut_then, cut_number, cut_refuse}
use Rattle.graph.specs.Content.{Graph}
use Rattle.graph.specs.Reading.{letters_from}
use Rattle.graph.proofs.Kept.{range_free}
use Rattle.graph.proofs.Prefixes.{cut_length, letters_cut}
use Rattle.anchors.specs.Anchors.{Anchor, read_length, anchor_count}
use Rattle.anchors.specs.AnchorRules.{read_fault, anchor_count_fault, anchor_fault, fault_place, no_anchor}
use Rattle.anchors.specs.AnchorReading.{Numbers, numbers_at, anchors_from, ParsedAnchors, whole_anchors, anchors_of}
use Rattle.anchors.proofs.AnchorSteps.{numbers-step, anchors-step, anchors-none}
use Rattle.anchors.proofs.AnchorAccepting.{AnchorParts, not-long, few_bytes, anchor_parts}

module _ (s : List ℕ) (j : ℕ) (fits : j ≤ length s) where
  -- an anchor's numbers: they end within the prefix and are read again, or the bytes end
  numbers_cut : (at : ℕ) (a : Numbers) → numbers_at s at ≡ good a → CutTo j (a.next ≤ j) a (numbers_at (take j s) at)
  unfolding numbers_at
  numbers_cut at a e =
      let n = numbers-step s at a e in
      let q : a ≡ record { anchor = a.anchor; weight_at = n.len_end; next = n.weight_end } =
      ap₂ (λ (w u : ℕ). record { anchor = a.anchor; weight_at = w; next = u }) n.weight_at n.next
      in
      cut_number s at j a.anchor.v n.v_end _ fits n.v_is (λ h.
      cut_number s n.v_end j a.anchor.x n.x_end _ fits n.x_is (λ i.
      cut_number s n.x_end j a.anchor.c n.c_end _ fits n.c_is (λ k.
      cut_number s n.c_end j a.anchor.len n.len_end _ fits n.len_is (λ l.
      cut_number s n.len_end j a.anchor.weight n.weight_end _ fits n.weight_is (λ m.
      record { either = inl (omega (arith, n.next), ap good (sym q)) })))))

  anchors_cut : (g : Graph) (read : List ℕ) (left : ℕ) (last : Anchor) (at : ℕ) (r : Part (List Anchor)) → at ≤ j
      → anchors_from g read left last s at ≡ good r → CutTo j (r.next ≤ j) r (anchors_from g read left last (take j s) at)
  unfolding anchors_from
  anchors_cut g read zero last at r h e = rw (anchors-none g read last s at r e) (cut_good _ h)
  anchors_cut g read (suc left) last at r h e =
      let t = anchors-step g read left last s at r e in
      let a : Numbers = t.first in
      let f : ℕ = anchor_fault g read last a.anchor in
      let q : r ≡ record { content = a.anchor ∷ t.rest.content; next = t.rest.next } =
      ap₂ (λ (c : List Anchor) (n : ℕ). record { content = c; next = n }) t.content t.next
      in
      rw q
      (cut_then (numbers_at (take j s) at) a _ (numbers_cut at a t.first_is) (λ k.
      cut_refuse f (fault_place f at a.weight_at) _ t.kept
      (cut_then (anchors_from g read left a.anchor (take j s) a.next) t.rest _
      (anchors_cut g read left a.anchor a.next t.rest k t.rest_is) (λ m.
      cut_good _ m))))

  -- the parts, one after the other: the anchors do not end within the prefix
  parts_cut : (g : Graph) (q : ParsedAnchors) → AnchorParts g s q → j < length s → CutTo j (length s ≤ j) q (whole_anchors g (take j s))
  unfolding whole_anchors
  parts_cut g q p short =
      let r : ℕ = read_length q.set in
      let n : ℕ = anchor_count q.set in
      cut_number s 0 j anchor_kind _ _ fits p.kind_is (λ h.
      cut_refuse (pick (eqb anchor_kind anchor_kind) 0 wrong_kind) 0 _ refl
      (cut_number s p.length_at j r _ _ fits p.length_is (λ i.
      cut_refuse (read_fault r) p.length_at _ (range_free 1 most_read r p.some_read p.few_read)
      (cut_then (letters_from r (take j s) q.read_at) q.set.read _ (letters_cut s j fits r q.read_at q.set.read i p.read_is) (λ k.
      cut_number s (q.read_at + r) j n _ _ fits p.count_is (λ l.
      cut_refuse (anchor_count_fault n) (q.read_at + r) _ (range_free 0 most_anchors n (omega arith) p.few_anchors)
      (cut_then (anchors_from g q.set.read n no_anchor (take j s) q.anchors_at) (record { content = q.set.anchors; next = length s }) _
      (anchors_cut g q.set.read n no_anchor q.anchors_at _ l p.anchors_is) (λ m.
      absurd (omega arith)))))))))

-- the first j bytes of an accepted file of more
pub prefix_refused : (g : Graph) (s : List ℕ) (q : ParsedAnchors) (j : ℕ) → anchors_of g s ≡ good q → j < length s
    → anchors_of g (take j s) ≡ fault bytes_end j
prefix_refused g s q j e h =
    let few = (not-long g s q e).0 in
    few_bytes g (take j s) (omega (arith, cut_length s j (omega arith)))
    ∙ elim (parts_cut s j (omega arith) g q (anchor_parts g s q e) h).either [
      | inl k ↦ absurd (omega (arith, k.0))
      | inr k ↦ k
    ]
