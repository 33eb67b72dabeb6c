-- The first fault of the anchors that are given, anchor after anchor.
-- Assumes nothing.
use Prim.Native.Nat.{ℕ, ◌+◌, ◌-◌, ◌≤◌, ◌<◌}
use mathlib.Core.Path.{◌≡◌, sym, ap, ◌∙◌}
use mathlib.Core.List.{List}
use mathlib.Core.Bool.{true, false}
use native.Mathlib.Omega.{arith}
use Rattle.wire.specs.Refusals.{not_rising}
use Rattle.graph.specs.Content.{Graph}
use Rattle.wire.specs.Found.{first}
use Rattle.graph_content.proofs.Encoded.{left-more, left-none}
use Rattle.graph_content.proofs.Faulting.{first_bad, first-none}
use Rattle.anchors.specs.Anchors.{Anchor}
use Rattle.anchors.specs.AnchorRules.{own_fault, key_below, anchor_fault}
use Rattle.anchors.specs.AnchorEntries.{anchor_in}
use Rattle.anchors_parts.proofs.EachLaws.{fault-own, fault-order, fault-none}
use Rattle.anchors_content.specs.FirstFaults.{each_fault}

module _ (g : Graph) (read : List ℕ) (n i : ℕ) (last : Anchor) (numbers : List ℕ) where
  each_step : i < n
      → each_fault g read (n - i) i last numbers
      ≡ first (anchor_fault g read last (anchor_in numbers i)) (each_fault g read (n - (i + 1)) (i + 1) (anchor_in numbers i) numbers)
  unfolding each_fault
  each_step h = simp (left-more n i h)

  pub each_over : n ≤ i → each_fault g read (n - i) i last numbers ≡ 0
  unfolding each_fault
  each_over h = simp (left-none n i h)

  -- the anchor a at hand has a fault k of its own
  pub each-own : (a : Anchor) (k : ℕ) → i < n → a ≡ anchor_in numbers i → k ≡ own_fault g read a → (k ≡ 0 → ⊥)
      → each_fault g read (n - i) i last numbers ≡ k
  each-own a k h e f z =
      let q : k ≡ anchor_fault g read last (anchor_in numbers i) =
      f ∙ sym (fault-own g read last a (λ t. z (f ∙ t))) ∙ ap (anchor_fault g read last) e in
      each_step h ∙ first_bad k _ _ q z

  -- it does not rise
  pub each-order : (a : Anchor) → i < n → a ≡ anchor_in numbers i → own_fault g read a ≡ 0 → key_below last a ≡ false
      → each_fault g read (n - i) i last numbers ≡ not_rising
  each-order a h e f o =
      let q : not_rising ≡ anchor_fault g read last (anchor_in numbers i) =
      sym (fault-order g read last a f o) ∙ ap (anchor_fault g read last) e in
      each_step h ∙ first_bad not_rising _ _ q (λ t. omega arith)

  -- it has no fault
  pub each_more : (a : Anchor) → i < n → a ≡ anchor_in numbers i → own_fault g read a ≡ 0 → key_below last a ≡ true
      → each_fault g read (n - i) i last numbers ≡ each_fault g read (n - (i + 1)) (i + 1) a numbers
  each_more a h e f o =
      let q : 0 ≡ anchor_fault g read last (anchor_in numbers i) =
      sym (fault-none g read last a f o) ∙ ap (anchor_fault g read last) e in
      each_step h ∙ first-none 0 _ _ q (omega arith)
      ∙ ap (λ (t : Anchor). each_fault g read (n - (i + 1)) (i + 1) t numbers) (sym e)
