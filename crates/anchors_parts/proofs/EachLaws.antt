-- The anchors of a file, one by one: the steps of the loop over them, and what was read of them.
-- Assumes nothing.
use Prim.Native.Nat.{ℕ, zero, suc, ◌-◌, ◌≤◌, ◌<◌}
use mathlib.Core.Path.{◌≡◌, sym, ap, ◌∙◌}
use mathlib.Core.List.{List, [], ◌∷◌}
use mathlib.Core.Bool.{true, false}
use native.Mathlib.Omega.{arith}
use native.Mathlib.Numerals.{sub-one}
use lib.ListN.{get_or}
use borrow.Author.Tests.{eq-eqb, ne_eqb}
use Rattle.wire.specs.Found.{Found, good, fault, Part, and_then, refuse}
use Rattle.wire.specs.Refusals.{not_rising, code}
use Rattle.wire.specs.declared.refusals.Refusal.{Refusal}
use Rattle.wire.specs.declared.refusals.Refusal.TheVariants.{
  BytesEnd,
  BadNumber,
  WrongKind,
  OutOfRange,
  NotLetter,
  NoVertex,
  NotRising,
  NotEdge,
  OnNoPath,
  LeftOver,
  Outside,
  LettersDiffer,
  SmallBuffer,
  ShortOutput,
}
use Rattle.graph.specs.Content.{Graph}
use Rattle.graph_parts.specs.Answers.{answered}
use Rattle.graph_parts.proofs.Passing.{refuse-none, refuse-some, answered-more}
use Rattle.anchors.specs.Anchors.{Anchor}
use Rattle.anchors.specs.AnchorRules.{own_fault, key_below, anchor_fault, fault_place, no_anchor}
use Rattle.anchors.specs.AnchorReading.{Numbers, numbers_at, anchors_from}
use Rattle.anchors_parts.specs.ReadAnchor.{numbers_after}
use Rattle.anchors.proofs.AnchorSteps.{anchors-step}

-- ---- an anchor's fault

-- no refusal has the number 0
pub code-some : (r : Refusal) → code r ≡ 0 → ⊥
code-some BytesEnd e = omega arith
code-some BadNumber e = omega arith
code-some WrongKind e = omega arith
code-some OutOfRange e = omega arith
code-some NotLetter e = omega arith
code-some NoVertex e = omega arith
code-some NotRising e = omega arith
code-some NotEdge e = omega arith
code-some OnNoPath e = omega arith
code-some LeftOver e = omega arith
code-some Outside e = omega arith
code-some LettersDiffer e = omega arith
code-some SmallBuffer e = omega arith
code-some ShortOutput e = omega arith

pub fault-own : (g : Graph) (read : List ℕ) (last a : Anchor) → (own_fault g read a ≡ 0 → ⊥) → anchor_fault g read last a ≡ own_fault g read a
fault-own g read last a n = simp (ne_eqb (own_fault g read a) 0 n)

pub fault-order : (g : Graph) (read : List ℕ) (last a : Anchor) → own_fault g read a ≡ 0 → key_below last a ≡ false
    → anchor_fault g read last a ≡ not_rising
fault-order g read last a e f = simp (eq-eqb (own_fault g read a) 0 e, f)

pub fault-none : (g : Graph) (read : List ℕ) (last a : Anchor) → own_fault g read a ≡ 0 → key_below last a ≡ true
    → anchor_fault g read last a ≡ 0
fault-none g read last a e f = simp (eq-eqb (own_fault g read a) 0 e, f)

-- ---- the steps

pub each-done : (g : Graph) (read : List ℕ) (left : ℕ) (last : Anchor) (s : List ℕ) (at : ℕ) → left ≤ 0
    → anchors_from g read left last s at ≡ good (record { content = []; next = at })
unfolding anchors_from
each-done g read left last s at h = let e : left ≡ 0 = omega arith in rw e

-- what follows an anchor's numbers
abbrev each_on : Graph → List ℕ → ℕ → Anchor → List ℕ → ℕ → Numbers → Found (Part (List Anchor))
each_on g read left last s at a =
    refuse (anchor_fault g read last a.anchor) (fault_place (anchor_fault g read last a.anchor) at a.weight_at)
    (and_then (anchors_from g read left a.anchor s a.next) (λ r.
    good (record { content = a.anchor ∷ r.content; next = r.next })))

each-suc : (g : Graph) (read : List ℕ) (left : ℕ) (last : Anchor) (s : List ℕ) (at : ℕ) → 0 < left
    → anchors_from g read left last s at ≡ and_then (numbers_at s at) (each_on g read (left - 1) last s at)
unfolding anchors_from
each-suc g read zero last s at h = absurd (omega arith)
each-suc g read (suc left) last s at h =
    ap (λ (k : ℕ). and_then (numbers_at s at) (each_on g read k last s at)) (sym (sub-one (suc left)))

module _ (g : Graph) (read : List ℕ) (left : ℕ) (last : Anchor) (s : List ℕ) (at : ℕ) (h : 0 < left) where
  pub each-stop : {k p : ℕ} → numbers_at s at ≡ fault k p → anchors_from g read left last s at ≡ fault k p
  each-stop e =
      each-suc g read left last s at h ∙ ap (λ (x : Found Numbers). and_then x (each_on g read (left - 1) last s at)) e

  each_read : {a : Numbers} → numbers_at s at ≡ good a → anchors_from g read left last s at ≡ each_on g read (left - 1) last s at a
  each_read e =
      each-suc g read left last s at h ∙ ap (λ (x : Found Numbers). and_then x (each_on g read (left - 1) last s at)) e

  -- a fault k of the anchor
  pub each_bad : {a : Numbers} {k : ℕ} → numbers_at s at ≡ good a → anchor_fault g read last a.anchor ≡ k → (k ≡ 0 → ⊥)
      → anchors_from g read left last s at ≡ fault k (fault_place k at a.weight_at)
  each_bad {a} e f n =
      each_read e
      ∙ refuse-some (anchor_fault g read last a.anchor) _ _ (λ z. n (sym f ∙ z))
      ∙ ap (λ (j : ℕ). fault j (fault_place j at a.weight_at)) f

  pub each_next : {a : Numbers} (x : ℕ) → numbers_at s at ≡ good a → anchor_fault g read last a.anchor ≡ 0
      → answered x (anchors_from g read left last s at) ≡ answered x (anchors_from g read (left - 1) a.anchor s a.next)
  each_next {a} x e f =
      ap (answered x) (each_read e ∙ refuse-none (anchor_fault g read last a.anchor) _ _ f)
      ∙ answered-more x (anchors_from g read (left - 1) a.anchor s a.next) (λ (l : List Anchor). a.anchor ∷ l)

-- ---- the anchor after others

module _ (skipped : ℕ) (s : List ℕ) (at : ℕ) where
  pub after_none : skipped ≤ 0 → numbers_after skipped s at ≡ numbers_at s at
  unfolding numbers_after
  after_none h = let e : skipped ≡ 0 = omega arith in rw e

after-suc : (skipped : ℕ) (s : List ℕ) (at : ℕ) → 0 < skipped
    → numbers_after skipped s at ≡ and_then (numbers_at s at) (λ a. numbers_after (skipped - 1) s a.next)
unfolding numbers_after
after-suc zero s at h = absurd (omega arith)
after-suc (suc k) s at h = ap (λ (j : ℕ). and_then (numbers_at s at) (λ a. numbers_after j s a.next)) (sym (sub-one (suc k)))

module _ (skipped : ℕ) (s : List ℕ) (at : ℕ) (h : 0 < skipped) where
  pub after_stop : {k p : ℕ} → numbers_at s at ≡ fault k p → numbers_after skipped s at ≡ fault k p
  after_stop e = after-suc skipped s at h ∙ ap (λ (x : Found Numbers). and_then x (λ a. numbers_after (skipped - 1) s a.next)) e

  pub after_more : {b : Numbers} → numbers_at s at ≡ good b → numbers_after skipped s at ≡ numbers_after (skipped - 1) s b.next
  after_more e = after-suc skipped s at h ∙ ap (λ (x : Found Numbers). and_then x (λ a. numbers_after (skipped - 1) s a.next)) e

-- anchor number i + 1 of those that were read is the one after i others
pub after_is : (g : Graph) (read : List ℕ) (left : ℕ) (last : Anchor) (s : List ℕ) (at : ℕ) (r : Part (List Anchor))
    → anchors_from g read left last s at ≡ good r → (i : ℕ) → i < left
    → (a : Numbers) × (numbers_after i s at ≡ good a) × (a.anchor ≡ get_or r.content i no_anchor)
after_is g read zero last s at r e i h = absurd (omega arith)
after_is g read (suc left) last s at r e zero h =
    let t = anchors-step g read left last s at r e in (
      t.first,
      after_none 0 s at (omega arith) ∙ t.first_is,
      ap (λ (l : List Anchor). get_or l 0 no_anchor) (sym t.content),
    )
after_is g read (suc left) last s at r e (suc i) h =
    let t = anchors-step g read left last s at r e in
    let u = after_is g read left t.first.anchor s t.first.next t.rest t.rest_is i (omega arith) in (
      u.0,
      after_more (suc i) s at (omega arith) t.first_is
          ∙ ap (λ (k : ℕ). numbers_after k s t.first.next) (sub-one (suc i))
          ∙ u.1,
      u.2 ∙ ap (λ (l : List Anchor). get_or l (suc i) no_anchor) (sym t.content),
    )
