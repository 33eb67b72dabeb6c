-- Letters: what is known of a byte that is a letter, and of two letters that agree.
-- Assumes nothing.
use Prim.Native.Nat.{ℕ, ◌<◌}
use mathlib.Core.Path.{◌≡◌, refl}
use mathlib.Core.Bool.{true, false}
use native.Mathlib.Omega.{arith}
use native.Mathlib.Decide.{ℕ_discrete}
use borrow.Author.Tests.{eq-eqb, ne_eqb}
use Rattle.wire.specs.Letters.{letter_of, is_letter, agree}

-- a letter is a byte
pub letter_byte : (b : ℕ) → is_letter b ≡ true → b < 128
unfolding is_letter letter_of
letter_byte b h =
    elim (ℕ_discrete b 65) [
      | yes e ↦ omega arith
      | no n ↦ elim (ℕ_discrete b 67) [
        | yes e ↦ omega arith
        | no m ↦ elim (ℕ_discrete b 71) [
          | yes e ↦ omega arith
          | no k ↦ elim (ℕ_discrete b 84) [
            | yes e ↦ omega arith
            | no j ↦ absurd (false-true (simp (ne_eqb b 65 n, ne_eqb b 67 m, ne_eqb b 71 k, ne_eqb b 84 j) at h))
          ]
        ]
      ]
    ]
  where
    false-true : false ≡ true → ⊥
    false-true e = let z : ◌≡◌ {A = ℕ} 0 1 = cc in omega arith

-- letters that agree are the same letter
pub agree_same : (a b : ℕ) → agree a b ≡ true → (a ≡ b) × (is_letter a ≡ true)
unfolding agree
agree_same a b h =
    elim (ℕ_discrete a b) [
      | yes e ↦ (e, simp (eq-eqb a b e) at h)
      | no n ↦ absurd (false-true (simp (ne_eqb a b n) at h))
    ]
  where
    false-true : false ≡ true → ⊥
    false-true e = let z : ◌≡◌ {A = ℕ} 0 1 = cc in omega arith

pub same-agree : (a : ℕ) → is_letter a ≡ true → agree a a ≡ true
unfolding agree
same-agree a h = simp (eq-eqb a a refl) h
