-- A file that is cut short: what was read before is read again as far as the bytes go, and else they "end within the file".
-- Assumes nothing.
use Prim.Native.Nat.{ℕ, ◌≤◌}
use mathlib.Core.Path.{◌≡◌, refl, sym, subst}
use mathlib.Core.Logic.{◌⊎◌, inl, inr}
use mathlib.Core.List.{List}
use lib.ListN.{length, take}
use borrow.Author.Tests.{eq-eqb}
use Rattle.wire.specs.Numbers.{number_at, on_number, number}
use Rattle.wire.specs.Refusals.{bytes_end}
use Rattle.wire.specs.Found.{Found, good, fault, and_then, refuse, Part}
use Rattle.wire.proofs.NumberLaws.{number_cut}

-- a finding in the first j bytes is b, and Q holds, or it is the end of the bytes
pub record CutTo {A : Type 0} (j : ℕ) (Q : Type 0) (b : A) (y : Found A) : Type 0 where
  pub either : (Q × (y ≡ good b)) ⊎ (y ≡ fault bytes_end j)

pub cut_good : {A : Type 0} {j : ℕ} {Q : Type 0} (b : A) → Q → CutTo j Q b (good b)
cut_good b q = record { either = inl (q, refl) }

pub cut_end : {A : Type 0} {j : ℕ} {Q : Type 0} {b : A} → CutTo j Q b (fault bytes_end j)
cut_end = record { either = inr refl }

pub cut_then : {A B : Type 0} {j : ℕ} {P Q : Type 0} {b : B} (x : Found A) (a : A) (go : A → Found B) → CutTo j P a x
    → (P → CutTo j Q b (go a)) → CutTo j Q b (and_then x go)
cut_then {j} {Q} {b} x a go h f =
    elim h.either [
      | inl k ↦ subst (λ (y : Found _). CutTo j Q b (and_then y go)) (sym k.1) (f k.0)
      | inr k ↦ subst (λ (y : Found _). CutTo j Q b (and_then y go)) (sym k) cut_end
    ]

pub cut_number : {B : Type 0} {Q : Type 0} {b : B} (s : List ℕ) (at j x : ℕ) (c : ℕ) (go : ℕ → ℕ → Found B) → j ≤ length s
    → number_at s at ≡ good (record { content = x; next = c }) → (c ≤ j → CutTo j Q b (go x c)) → CutTo j Q b (number (take j s) at go)
cut_number {Q} {b} s at j x c go h e f =
    elim (number_cut s at x c j h e) [
      | inl k ↦ subst (λ (y : Found (Part ℕ)). CutTo j Q b (on_number y go)) (sym k.1) (f k.0)
      | inr k ↦ subst (λ (y : Found (Part ℕ)). CutTo j Q b (on_number y go)) (sym k) cut_end
    ]

pub cut_refuse : {B : Type 0} {j : ℕ} {Q : Type 0} {b : B} (k place : ℕ) (go : Found B) → k ≡ 0 → CutTo j Q b go → CutTo j Q b (refuse k place go)
cut_refuse k place go e h = simp (eq-eqb k 0 e) h
