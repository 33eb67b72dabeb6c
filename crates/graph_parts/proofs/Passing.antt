-- How a finding goes on: what a number, a rule or a count that was read makes of it.
-- Assumes nothing.
use Prim.Native.Nat.{ℕ}
use mathlib.Core.Path.{◌≡◌, refl, sym, ap, ◌∙◌}
use mathlib.Core.List.{List}
use mathlib.Core.Bool.{Bool}
use native.Mathlib.Omega.{arith}
use native.Mathlib.Decide.{ℕ_discrete}
use borrow.Author.Tests.{eq-eqb, ne_eqb}
use Rattle.wire.specs.Cases.{pick}
use Rattle.wire.specs.Found.{Found, good, fault, Part, and_then, refuse}
use Rattle.wire.specs.Numbers.{on_number, number, number_at}
use Rattle.wire.proofs.Reading.{read_same}
use Rattle.graph.specs.Rules.{range_fault}
use Rattle.graph_parts.specs.Answers.{ranged, count_at, answered}

module _ {B : Type 0} where
  pub refuse-none : (k place : ℕ) (x : Found B) → k ≡ 0 → refuse k place x ≡ x
  refuse-none k place x e = ap (λ (b : Bool). pick b x (fault k place)) (eq-eqb k 0 e)

  pub refuse-some : (k place : ℕ) (x : Found B) → (k ≡ 0 → ⊥) → refuse k place x ≡ fault k place
  refuse-some k place x n = ap (λ (b : Bool). pick b x (fault k place)) (ne_eqb k 0 n)

  pub number_read : (s : List ℕ) (at : ℕ) (go : ℕ → ℕ → Found B) {x : ℕ} {c : ℕ} → number_at s at ≡ good (record { content = x; next = c }) → number s at go ≡ go x c
  number_read s at go e = ap (λ (r : Found (Part ℕ)). on_number r go) e

  pub number-stop : (s : List ℕ) (at : ℕ) (go : ℕ → ℕ → Found B) {k p : ℕ} → number_at s at ≡ fault k p → number s at go ≡ fault k p
  number-stop s at go e = ap (λ (r : Found (Part ℕ)). on_number r go) e

-- a part with an entry more in front is answered alike
pub answered-more : {A B : Type 0} (x : ℕ) (y : Found (Part A)) (f : A → B)
    → answered x (and_then y (λ r. good (record { content = f r.content; next = r.next }))) ≡ answered x y
answered-more x (good r) f = refl
answered-more x (fault k p) f = refl

-- what was answered was found
pub answered-good : {A : Type 0} (x : ℕ) (y : Found (Part A)) {v : ℕ} {c : ℕ} → answered x y ≡ good (record { content = v; next = c })
    → (p : Part A) × (y ≡ good p) × (p.next ≡ c)
answered-good x (good p) e = (p, refl, (read_same e).1)
answered-good x (fault k p) e = let z : ◌≡◌ {A = ℕ} 0 1 = cc in absurd (omega arith)

pub answered-fault : {A : Type 0} (x : ℕ) (y : Found (Part A)) {k p : ℕ} → answered x y ≡ fault k p → y ≡ fault k p
answered-fault x (good q) e = let z : ◌≡◌ {A = ℕ} 0 1 = cc in absurd (omega arith)
answered-fault x (fault k p) e = cc

-- ---- a count with its range

module _ (low high : ℕ) (s : List ℕ) (at : ℕ) where
  pub count-stop : {k p : ℕ} → number_at s at ≡ fault k p → count_at low high s at ≡ fault k p
  unfolding count_at
  count-stop e = ap (ranged low high at) e

  pub count_bad : {x : ℕ} {c : ℕ} → number_at s at ≡ good (record { content = x; next = c }) → (range_fault low high x ≡ 0 → ⊥)
      → count_at low high s at ≡ fault (range_fault low high x) at
  unfolding count_at
  count_bad {x} {c} e n =
      ap (ranged low high at) e
      ∙ ap (λ (b : Bool). pick b (good (record { content = x; next = c })) (fault (range_fault low high x) at)) (ne_eqb (range_fault low high x) 0 n)

  pub count-read : {x : ℕ} {c : ℕ} → number_at s at ≡ good (record { content = x; next = c }) → range_fault low high x ≡ 0 → count_at low high s at ≡ good (record { content = x; next = c })
  unfolding count_at
  count-read {x} {c} e r =
      ap (ranged low high at) e
      ∙ ap (λ (b : Bool). pick b (good (record { content = x; next = c })) (fault (range_fault low high x) at)) (eq-eqb (range_fault low high x) 0 r)

  -- a reading that goes on with a number and refuses it out of its range goes on with the count
  on-count : {B : Type 0} (n : Found (Part ℕ)) (go : ℕ → ℕ → Found B)
      → on_number n (λ x a. refuse (range_fault low high x) at (go x a)) ≡ on_number (ranged low high at n) go
  on-count (good r) go =
      let x = r.content in
      let c = r.next in
      elim (ℕ_discrete (range_fault low high x) 0) [
        | yes e ↦ refuse-none (range_fault low high x) at (go x c) e
            ∙ sym (ap (λ (b : Bool). on_number (pick b (good (record { content = x; next = c })) (fault (range_fault low high x) at)) go) (eq-eqb (range_fault low high x) 0 e))
        | no e ↦ refuse-some (range_fault low high x) at (go x c) e
            ∙ sym (ap (λ (b : Bool). on_number (pick b (good (record { content = x; next = c })) (fault (range_fault low high x) at)) go) (ne_eqb (range_fault low high x) 0 e))
      ]
  on-count (fault k p) go = refl

  pub count-on : {B : Type 0} (go : ℕ → ℕ → Found B)
      → number s at (λ x a. refuse (range_fault low high x) at (go x a)) ≡ on_number (count_at low high s at) go
  unfolding count_at
  count-on go = on-count (number_at s at) go

-- a count that was read is a number of its range
ranged-value : (low high at : ℕ) (r : Found (Part ℕ)) {x : ℕ} {c : ℕ} → ranged low high at r ≡ good (record { content = x; next = c }) → (r ≡ good (record { content = x; next = c })) × (range_fault low high x ≡ 0)
ranged-value low high at (good r) {x} e =
    elim (ℕ_discrete (range_fault low high r.content) 0) [
      | yes h ↦
          let f = sym (ap (λ (b : Bool). pick b (good r) (fault (range_fault low high r.content) at)) (eq-eqb (range_fault low high r.content) 0 h)) ∙ e in
          (f, ap (range_fault low high) (sym (read_same f).0) ∙ h)
      | no n ↦
          let f = sym (ap (λ (b : Bool). pick b (good r) (fault (range_fault low high r.content) at)) (ne_eqb (range_fault low high r.content) 0 n)) ∙ e in
          let z : ◌≡◌ {A = ℕ} 0 1 = cc in
          absurd (omega arith)
    ]
ranged-value low high at (fault k p) e = let z : ◌≡◌ {A = ℕ} 0 1 = cc in absurd (omega arith)

pub count-value : (low high : ℕ) (s : List ℕ) (at : ℕ) {x : ℕ} {c : ℕ} → count_at low high s at ≡ good (record { content = x; next = c })
    → (number_at s at ≡ good (record { content = x; next = c })) × (range_fault low high x ≡ 0)
unfolding count_at
count-value low high s at e = ranged-value low high at (number_at s at) e
