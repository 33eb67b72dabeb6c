-- The order of an anchor's rules: "An anchor's five numbers are read, then 6, 11, 4 (place: the weight's first byte), 12, 7."
-- Assumes nothing.
use Prim.Native.Nat.{ℕ, suc}
use mathlib.Core.Path.{◌≡◌, refl, sym, subst}
use mathlib.Core.List.{List}
use mathlib.Core.Bool.{Bool, true, false}
use native.Mathlib.Omega.{arith}
use lib.ListN.{length}
use lib.Dec.{eqb}
use borrow.Author.Tests.{ne_eqb}
use Rattle.wire.specs.Found.{good, fault}
use Rattle.wire.specs.Refusals.{out_of_range, no_vertex, not_rising, outside, letters_differ}
use Rattle.wire.specs.Sizes.{most_weight}
use Rattle.graph.specs.Content.{Graph, vertex_count}
use Rattle.graph.specs.Good.{Vertex}
use Rattle.graph.specs.Rules.{range_fault, is_vertex}
use Rattle.graph.proofs.Kept.{vertex-is, is-vertex}
use Rattle.anchors.specs.Anchors.{Anchor}
use Rattle.anchors.specs.AnchorRules.{label_of, is_inside, letters_agree, own_fault, key_below, anchor_fault}
use Rattle.anchors.specs.AnchorReading.{Numbers, numbers_at, anchors_from}
use Rattle.anchors.specs.GoodAnchors.{GoodAnchor, KeyBelow}
use Rattle.anchors.proofs.AnchorKept.{Inside, Weighted, SameLetters, inside_is, is-inside, weight_is_lem, is-weight, letters-are, are-letters, key_is, is_key}

-- The number that the first rule gives which does not hold, in the order of document 01; 0 where all hold.
pub data FirstFault (g : Graph) (read : List ℕ) (last a : Anchor) : ℕ → Type 0 where
  first-vertex : (Vertex (vertex_count g) a.v → ⊥) → FirstFault g read last a no_vertex
  first-outside : Vertex (vertex_count g) a.v → (Inside g read a → ⊥) → FirstFault g read last a outside
  first-weight : Vertex (vertex_count g) a.v → Inside g read a → (Weighted a → ⊥) → FirstFault g read last a out_of_range
  first-letters : Vertex (vertex_count g) a.v → Inside g read a → Weighted a → (SameLetters g read a → ⊥) → FirstFault g read last a letters_differ
  first-order : Vertex (vertex_count g) a.v → Inside g read a → Weighted a → SameLetters g read a → (KeyBelow last a → ⊥)
      → FirstFault g read last a not_rising
  no_fault : Vertex (vertex_count g) a.v → Inside g read a → Weighted a → SameLetters g read a → KeyBelow last a → FirstFault g read last a 0

-- ---- tests that are passed or not

decided : {X : Type 0} (t : Bool) → (t ≡ true → X) → (t ≡ false → X) → X
decided true f g = f refl
decided false f g = g refl

-- a test that is not passed: its rule does not hold
failed : {P : Type 0} (t : Bool) → (P → t ≡ true) → t ≡ false → P → ⊥
failed t f e h = let p = f h in let z : ◌≡◌ {A = ℕ} 0 1 = cc in omega arith

-- and the other way
fails : {P : Type 0} (t : Bool) → (t ≡ true → P) → (P → ⊥) → t ≡ false
fails true f n = absurd (n (f refl))
fails false f n = refl

-- ---- the number is that of the first rule that does not hold

module _ (g : Graph) (read : List ℕ) (last a : Anchor) where
  at_vertex : is_vertex (vertex_count g) a.v ≡ false → anchor_fault g read last a ≡ no_vertex
  unfolding own_fault
  at_vertex v = simp v

  module _ (v : is_vertex (vertex_count g) a.v ≡ true) where
    at_outside : is_inside (length (label_of g a.v)) (length read) a ≡ false → anchor_fault g read last a ≡ outside
    unfolding own_fault
    at_outside i = simp (v, i)

    module _ (i : is_inside (length (label_of g a.v)) (length read) a ≡ true) where
      at_weight : eqb (range_fault 1 most_weight a.weight) 0 ≡ false → anchor_fault g read last a ≡ out_of_range
      unfolding own_fault
      at_weight w = simp (v, i, w)

      module _ (w : eqb (range_fault 1 most_weight a.weight) 0 ≡ true) where
        at_letters : letters_agree (label_of g a.v) read a ≡ false → anchor_fault g read last a ≡ letters_differ
        unfolding own_fault
        at_letters l = simp (v, i, w, l)

        at_order : letters_agree (label_of g a.v) read a ≡ true → key_below last a ≡ false → anchor_fault g read last a ≡ not_rising
        unfolding own_fault
        at_order l k = simp (v, i, w, l, k)

        at_none : letters_agree (label_of g a.v) read a ≡ true → key_below last a ≡ true → anchor_fault g read last a ≡ 0
        unfolding own_fault
        at_none l k = simp (v, i, w, l, k)

  -- "The first fault in this order is the answer."
  pub anchor-first : FirstFault g read last a (anchor_fault g read last a)
  anchor-first =
      decided (is_vertex (vertex_count g) a.v)
      (λ v.
      let hv = vertex-is (vertex_count g) a.v v in
      decided (is_inside (length (label_of g a.v)) (length read) a)
      (λ i.
      let hi = inside_is g read a i in
      decided (eqb (range_fault 1 most_weight a.weight) 0)
      (λ w.
      let hw = weight_is_lem a w in
      decided (letters_agree (label_of g a.v) read a)
      (λ l.
      let hl = letters-are g read a l in
      decided (key_below last a)
      (λ k. told 0 (at_none v i w l k) (no_fault hv hi hw hl (key_is last a k)))
      (λ k. told not_rising (at_order v i w l k) (first-order hv hi hw hl (failed (key_below last a) (is_key last a) k))))
      (λ l. told letters_differ (at_letters v i w l) (first-letters hv hi hw (failed (letters_agree (label_of g a.v) read a) (are-letters g read a) l))))
      (λ w. told out_of_range (at_weight v i w) (first-weight hv hi (failed (eqb (range_fault 1 most_weight a.weight) 0) (is-weight a) w))))
      (λ i. told outside (at_outside v i) (first-outside hv (failed (is_inside (length (label_of g a.v)) (length read) a) (is-inside g read a) i))))
      (λ v. told no_vertex (at_vertex v) (first-vertex (failed (is_vertex (vertex_count g) a.v) (is-vertex (vertex_count g) a.v) v)))
    where
      told : (k : ℕ) → anchor_fault g read last a ≡ k → FirstFault g read last a k → FirstFault g read last a (anchor_fault g read last a)
      told k e f = subst (FirstFault g read last a) (sym e) f

  -- and it is the only one
  pub first-only : (k : ℕ) → FirstFault g read last a k → anchor_fault g read last a ≡ k
  first-only k (first-vertex n) = at_vertex (fails (is_vertex (vertex_count g) a.v) (vertex-is (vertex_count g) a.v) n)
  first-only k (first-outside v n) =
      at_outside (is-vertex (vertex_count g) a.v v) (fails (is_inside (length (label_of g a.v)) (length read) a) (inside_is g read a) n)
  first-only k (first-weight v i n) =
      at_weight (is-vertex (vertex_count g) a.v v) (is-inside g read a i) (fails (eqb (range_fault 1 most_weight a.weight) 0) (weight_is_lem a) n)
  first-only k (first-letters v i w n) =
      at_letters (is-vertex (vertex_count g) a.v v) (is-inside g read a i) (is-weight a w)
      (fails (letters_agree (label_of g a.v) read a) (letters-are g read a) n)
  first-only k (first-order v i w l n) =
      at_order (is-vertex (vertex_count g) a.v v) (is-inside g read a i) (is-weight a w) (are-letters g read a l)
      (fails (key_below last a) (key_is last a) n)
  first-only k (no_fault v i w l o) =
      at_none (is-vertex (vertex_count g) a.v v) (is-inside g read a i) (is-weight a w) (are-letters g read a l) (is_key last a o)

  -- ---- all rules hold

  all_hold : (k : ℕ) → FirstFault g read last a k → k ≡ 0 → GoodAnchor g read a × KeyBelow last a
  all_hold k (first-vertex n) e = absurd (omega arith)
  all_hold k (first-outside v n) e = absurd (omega arith)
  all_hold k (first-weight v i n) e = absurd (omega arith)
  all_hold k (first-letters v i w n) e = absurd (omega arith)
  all_hold k (first-order v i w l n) e = absurd (omega arith)
  all_hold k (no_fault v i w l o) e = (
    record {
      vertex = v;
      some_x = i.some_x;
      some_c = i.some_c;
      some_length = i.some_length;
      in_label = i.in_label;
      in_read = i.in_read;
      some_weight = w.0;
      few_weight = w.1;
      letters = l;
    },
    o,
  )

  pub anchor_kept : anchor_fault g read last a ≡ 0 → GoodAnchor g read a × KeyBelow last a
  anchor_kept e = all_hold (anchor_fault g read last a) anchor-first e

  pub anchor_free : GoodAnchor g read a → KeyBelow last a → anchor_fault g read last a ≡ 0
  anchor_free h o =
      first-only 0
      (no_fault h.vertex
      (record { some_x = h.some_x; some_c = h.some_c; some_length = h.some_length; in_label = h.in_label; in_read = h.in_read })
      (h.some_weight, h.few_weight)
      h.letters
      o)

  -- ---- the place

  -- a fault of the weight is at the weight's first byte
  pub weight-place : (left : ℕ) (s : List ℕ) (at : ℕ) (n : Numbers) → numbers_at s at ≡ good n → n.anchor ≡ a → anchor_fault g read last a ≡ out_of_range
      → anchors_from g read (suc left) last s at ≡ fault out_of_range n.weight_at
  unfolding anchors_from
  weight-place left s at n e q f = simp (e, q, f)

  -- any other is at the anchor's first byte
  pub anchor-place : (left : ℕ) (s : List ℕ) (at : ℕ) (n : Numbers) (k : ℕ) → numbers_at s at ≡ good n → n.anchor ≡ a → anchor_fault g read last a ≡ k
      → (k ≡ 0 → ⊥) → (k ≡ out_of_range → ⊥) → anchors_from g read (suc left) last s at ≡ fault k at
  unfolding anchors_from
  anchor-place left s at n k e q f z w = simp (e, q, f, ne_eqb k 0 z, ne_eqb k out_of_range w)
