-- What holds of a finding that goes on from another one: of its content, or of the number and the place of its fault.
-- Assumes nothing.
use Prim.Native.Nat.{ℕ}
use mathlib.Core.Path.{◌≡◌, refl, subst}
use mathlib.Core.List.{List}
use mathlib.Core.Bool.{Bool, true, false}
use native.Mathlib.Omega.{arith}
use native.Mathlib.Decide.{ℕ_discrete}
use lib.ListN.{length}
use borrow.Author.Tests.{eq-eqb, ne_eqb}
use Rattle.wire.specs.Cases.{pick}
use Rattle.wire.specs.Numbers.{number_at, on_number, number}
use Rattle.wire.specs.Found.{Found, good, fault, and_then, refuse, Part}
use Rattle.wire.proofs.NumberLaws.{Refusal, number-fault}

-- ---- both ends at once

-- P holds of the content that was found, or Q of the fault's number and place
abbrev pub Ended : {A : Type 0} → (A → Type 0) → (ℕ → ℕ → Type 0) → Found A → Type 0
Ended P Q (good a) = P a
Ended P Q (fault k place) = Q k place

pub record Ends {A : Type 0} (P : A → Type 0) (Q : ℕ → ℕ → Type 0) (x : Found A) : Type 0 where
  pub ends : Ended P Q x

pub ends-good : {A : Type 0} {P : A → Type 0} {Q : ℕ → ℕ → Type 0} (x : Found A) (a : A) → Ends P Q x → x ≡ good a → P a
ends-good {P} {Q} x a h e = (subst (Ends P Q) e h).ends

pub ends-fault : {A : Type 0} {P : A → Type 0} {Q : ℕ → ℕ → Type 0} (x : Found A) (k place : ℕ) → Ends P Q x → x ≡ fault k place → Q k place
ends-fault {P} {Q} x k place h e = (subst (Ends P Q) e h).ends

pub ends_then : {A B : Type 0} {P : A → Type 0} {R : B → Type 0} {Q : ℕ → ℕ → Type 0} (x : Found A) (go : A → Found B)
    → Ends P Q x → ((a : A) → x ≡ good a → P a → Ends R Q (go a)) → Ends R Q (and_then x go)
ends_then (good a) go h f = f a refl h.ends
ends_then (fault k p) go h f = record { ends = h.ends }

ends_on : {B : Type 0} {R : B → Type 0} {Q : ℕ → ℕ → Type 0} (n : Found (Part ℕ)) (go : ℕ → ℕ → Found B)
    → ((k p : ℕ) → n ≡ fault k p → Q k p)
    → ((x : ℕ) (c : ℕ) → n ≡ good (record { content = x; next = c }) → Ends R Q (go x c))
    → Ends R Q (on_number n go)
ends_on (good r) go h f = f r.content r.next refl
ends_on (fault k p) go h f = record { ends = h k p refl }

pub ends-number : {B : Type 0} {R : B → Type 0} {Q : ℕ → ℕ → Type 0} (s : List ℕ) (at : ℕ) (go : ℕ → ℕ → Found B)
    → ((k p : ℕ) → Refusal (length s) at k p → Q k p)
    → ((x : ℕ) (c : ℕ) → number_at s at ≡ good (record { content = x; next = c }) → Ends R Q (go x c))
    → Ends R Q (number s at go)
ends-number s at go h f = ends_on (number_at s at) go (λ k p e. h k p (number-fault s at k p e)) f

pub ends-refuse : {B : Type 0} {R : B → Type 0} {Q : ℕ → ℕ → Type 0} (k place : ℕ) (go : Found B)
    → ((k ≡ 0 → ⊥) → Q k place)
    → (k ≡ 0 → Ends R Q go)
    → Ends R Q (refuse k place go)
ends-refuse k place go h f =
    elim (ℕ_discrete k 0) [
      | yes e ↦ simp (eq-eqb k 0 e) (f e)
      | no n ↦ simp (ne_eqb k 0 n) (record { ends = h n })
    ]

pub ends-pick : {B : Type 0} {R : B → Type 0} {Q : ℕ → ℕ → Type 0} (b : Bool) (x y : Found B)
    → (b ≡ true → Ends R Q x)
    → (b ≡ false → Ends R Q y)
    → Ends R Q (pick b x y)
ends-pick true x y f g = f refl
ends-pick false x y f g = g refl

-- ---- what was found at the end was found on the way

pub then_good : {A B : Type 0} (x : Found A) (go : A → Found B) (b : B) → and_then x go ≡ good b → (a : A) × (x ≡ good a) × (go a ≡ good b)
then_good (good a) go b e = (a, refl, e)
then_good (fault k p) go b e = let z : ◌≡◌ {A = ℕ} 0 1 = cc in absurd (omega arith)

on-good : {B : Type 0} (n : Found (Part ℕ)) (go : ℕ → ℕ → Found B) (b : B) → on_number n go ≡ good b
    → (x : ℕ) × (c : ℕ) × (n ≡ good (record { content = x; next = c })) × (go x c ≡ good b)
on-good (good r) go b e = (r.content, r.next, refl, e)
on-good (fault k p) go b e = let z : ◌≡◌ {A = ℕ} 0 1 = cc in absurd (omega arith)

pub number-good : {B : Type 0} (s : List ℕ) (at : ℕ) (go : ℕ → ℕ → Found B) (b : B) → number s at go ≡ good b
    → (x : ℕ) × (c : ℕ) × (number_at s at ≡ good (record { content = x; next = c })) × (go x c ≡ good b)
number-good s at go b e = on-good (number_at s at) go b e

pub refuse-good : {B : Type 0} (k place : ℕ) (go : Found B) (b : B) → refuse k place go ≡ good b → (k ≡ 0) × (go ≡ good b)
refuse-good k place go b e =
    elim (ℕ_discrete k 0) [
      | yes h ↦ (h, simp (eq-eqb k 0 h) at e)
      | no n ↦ let f = simp (ne_eqb k 0 n) at e in let z : ◌≡◌ {A = ℕ} 0 1 = cc in absurd (omega arith)
    ]

-- a test that was passed: the fault of the other case was not found
pub pick_good : {B : Type 0} (b : Bool) (x : Found B) (k place : ℕ) (r : B) → pick b x (fault k place) ≡ good r → (b ≡ true) × (x ≡ good r)
pick_good true x k place r e = (refl, e)
pick_good false x k place r e = let z : ◌≡◌ {A = ℕ} 0 1 = cc in absurd (omega arith)

pub good-same : {A : Type 0} (a b : A) → good a ≡ good b → a ≡ b
good-same a b e = cc

-- the same, for a long line of steps: what was found is handed on
pub on_then : {A B X : Type 0} (x : Found A) (go : A → Found B) (b : B) → and_then x go ≡ good b
    → ((a : A) → x ≡ good a → go a ≡ good b → X) → X
on_then x go b e f = let t = then_good x go b e in f t.0 t.1 t.2

pub on-number : {B X : Type 0} (s : List ℕ) (at : ℕ) (go : ℕ → ℕ → Found B) (b : B) → number s at go ≡ good b
    → ((x : ℕ) (c : ℕ) → number_at s at ≡ good (record { content = x; next = c }) → go x c ≡ good b → X) → X
on-number s at go b e f = let t = number-good s at go b e in f t.0 t.1 t.2 t.3

pub on-refuse : {B X : Type 0} (k place : ℕ) (go : Found B) (b : B) → refuse k place go ≡ good b → (k ≡ 0 → go ≡ good b → X) → X
on-refuse k place go b e f = let t = refuse-good k place go b e in f t.0 t.1
