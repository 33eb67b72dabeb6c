-- The step between two anchors, by its cases, and the bounds that keep its sums within their types.
-- Assumes nothing.
use Prim.Native.Nat.{ℕ, ◌+◌, ◌-◌, ◌≤◌, ◌<◌, max}
use mathlib.Core.Path.{◌≡◌, refl, sym, ◌∙◌, subst}
use mathlib.Core.Logic.{◌≢◌, ◌⊎◌, inl, inr}
use mathlib.Core.Bool.{and-false}
use mathlib.Core.List.{List}
use native.Mathlib.Omega.{arith}
use native.Mathlib.Decide.{ℕ_discrete, dec_lt}
use native.Mathlib.Nat.{le_refl}
use lib.ListN.{get_or}
use borrow.Author.Tests.{lt-ltb, le-ltb, le-leb, lt-leb, eq-eqb, ne_eqb}
use Rattle.pair_step.specs.Pairs.{read_gap_in, graph_gap_in, jump_in, step_in, Greatest}

module _ (row : List ℕ) (u y v x : ℕ) where
  pub jump-ahead : u ≡ v → y < x → jump_in row u y v x ≡ 1
  unfolding jump_in
  jump-ahead e h = simp (eq-eqb u v e, lt-ltb y x h)

  pub jump-apart : u ≢ v → jump_in row u y v x ≡ get_or row (u - 1) 0
  unfolding jump_in
  jump-apart n = simp (ne_eqb u v n)

  pub jump-round : x ≤ y → jump_in row u y v x ≡ get_or row (u - 1) 0
  unfolding jump_in
  jump-round h = simp (le-ltb y x h, and-false)

  -- a jump is past the first anchor's last letter, so that the graph gap is not below zero, and small
  pub jump_fits : 1 ≤ x → (get_or row (u - 1) 0 ≡ 0) ⊎ (y < get_or row (u - 1) 0) → get_or row (u - 1) 0 ≤ 131072
      → (jump_in row u y v x ≤ 131072) × (jump_in row u y v x ≢ 0 → y + 1 < jump_in row u y v x + x)
  jump_fits some a s = on (ℕ_discrete u v) (dec_lt y x)
    where
      far : jump_in row u y v x ≡ get_or row (u - 1) 0 → (jump_in row u y v x ≤ 131072) × (jump_in row u y v x ≢ 0 → y + 1 < jump_in row u y v x + x)
      far e = (omega arith, λ n. past a n)
        where
          past : (get_or row (u - 1) 0 ≡ 0) ⊎ (y < get_or row (u - 1) 0) → jump_in row u y v x ≢ 0 → y + 1 < jump_in row u y v x + x
          past (inl z) n = absurd (n (e ∙ z))
          past (inr h) n = omega arith

      on : Dec (u ≡ v) → Dec (y < x) → (jump_in row u y v x ≤ 131072) × (jump_in row u y v x ≢ 0 → y + 1 < jump_in row u y v x + x)
      on (yes e) (yes h) = let j = jump-ahead e h in (omega arith, λ n. omega arith)
      on (yes e) (no n) = far (jump-round (omega arith))
      on (no n) q = far (jump-apart n)

module _ (row : List ℕ) (u y d v x c : ℕ) where
  pub step_late : c ≤ d → step_in row u y d v x c ≡ 0
  unfolding step_in
  step_late h = simp (le-leb c d h)

  pub step-none : d < c → jump_in row u y v x ≡ 0 → step_in row u y d v x c ≡ 0
  unfolding step_in
  step-none h e = simp (lt-leb c d h, eq-eqb (jump_in row u y v x) 0 e)

  pub step-some : d < c → jump_in row u y v x ≢ 0 → step_in row u y d v x c ≡ read_gap_in d c + graph_gap_in (jump_in row u y v x - 1) x y + 1
  unfolding step_in
  step-some h n = simp (lt-leb c d h, ne_eqb (jump_in row u y v x) 0 n)

-- ---- the greatest of candidates, one after the other

module _ {own weight : ℕ} {step score : ℕ → ℕ} {P : ℕ → Type 0} where
  pub greatest-none : ((i : ℕ) → P i → ⊥) → Greatest own weight step score P own
  greatest-none n = record { heavy = le_refl own; each = λ i p l. absurd (n i p); which = inl refl }

  -- Q has one anchor more than P: what is at least the greatest so far and its candidate, and is one of them
  pub greatest-more : {Q : ℕ → Type 0} {r t j : ℕ} → Greatest own weight step score P r → ((i : ℕ) → P i → Q i) → Q j → ((i : ℕ) → Q i → P i ⊎ (i ≡ j))
      → r ≤ t → (1 ≤ step j → score j + weight ≤ t + (step j - 1)) → (t ≡ r) ⊎ ((1 ≤ step j) × (score j + weight ≡ t + (step j - 1)))
      → Greatest own weight step score Q t
  greatest-more {Q} {r} {t} {j} b more here only l above one = record { heavy = omega (arith, b.heavy); each = λ i q h. each i (only i q) h; which = which one }
    where
      each : (i : ℕ) → P i ⊎ (i ≡ j) → 1 ≤ step i → score i + weight ≤ t + (step i - 1)
      each i (inl p) h = omega (arith, b.each i p h)
      each i (inr q) h = subst (λ (k : ℕ). 1 ≤ step k → score k + weight ≤ t + (step k - 1)) (sym q) above h

      kept : t ≡ r → (r ≡ own) ⊎ ((i : ℕ) × P i × (1 ≤ step i) × (score i + weight ≡ r + (step i - 1))) → (t ≡ own) ⊎ ((i : ℕ) × Q i × (1 ≤ step i) × (score i + weight ≡ t + (step i - 1)))
      kept e (inl q) = inl (e ∙ q)
      kept e (inr (i, p, h, q)) = inr (i, more i p, h, omega arith)

      which : (t ≡ r) ⊎ ((1 ≤ step j) × (score j + weight ≡ t + (step j - 1))) → (t ≡ own) ⊎ ((i : ℕ) × Q i × (1 ≤ step i) × (score i + weight ≡ t + (step i - 1)))
      which (inl e) = kept e b.which
      which (inr (h, q)) = inr (j, here, h, q)

-- the greater of a score and a candidate is one of them
pub raised_one : (r x g : ℕ) → (max r (x - g) ≡ r) ⊎ (x ≡ max r (x - g) + g)
raised_one r x g = on (dec_lt r (x - g))
  where
    on : Dec (r < x - g) → (max r (x - g) ≡ r) ⊎ (x ≡ max r (x - g) + g)
    on (yes l) = inr (omega arith)
    on (no n) = inl (omega arith)
