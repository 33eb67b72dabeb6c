-- Looking back over the anchors that were taken, one after the other. Assumes nothing.
use Prim.Native.Nat.{ℕ, ◌+◌, ◌-◌, ◌≤◌, ◌<◌, max}
use mathlib.Core.Path.{◌≡◌, refl, sym, ap, ◌∙◌}
use mathlib.Core.Logic.{◌⊎◌, inl, inr}
use mathlib.Core.List.{List}
use native.Mathlib.Nat.{le_refl}
use native.Mathlib.Omega.{arith}
use native.Mathlib.Decide.{dec_lt}
use lib.ListN.{get_or}
use Rattle.pair_step.specs.Pairs.{Greatest}
use Rattle.pair_step.proofs.PairLaws.{greatest-more, raised_one}
use Rattle.read_order.specs.Order.{Among}

module _ (order : List ℕ) (q : ℕ) where
  among_up : (i : ℕ) → Among order q i → Among order (q + 1) i
  among_up i (p, l, e) = (p, omega arith, e)

  among-here : Among order (q + 1) (get_or order q 0)
  among-here = (q, omega arith, refl)

  among-only : (i : ℕ) → Among order (q + 1) i → Among order q i ⊎ (i ≡ get_or order q 0)
  among-only i (p, l, e) = on (dec_lt p q)
    where
      on : Dec (p < q) → Among order q i ⊎ (i ≡ get_or order q 0)
      on (yes h) = inl (p, h, e)
      on (no h) = let z : p ≡ q = omega arith in inr (sym e ∙ ap (λ (m : ℕ). get_or order m 0) z)

module _ {own weight : ℕ} {step score : ℕ → ℕ} (order : List ℕ) (q : ℕ) {r : ℕ} (b : Greatest own weight step score (Among order q) r) where
  -- an anchor with no step to this one changes nothing
  pub look_skip : step (get_or order q 0) ≡ 0 → Greatest own weight step score (Among order (q + 1)) r
  look_skip e = greatest-more b (among_up order q) (among-here order q) (among-only order q) (le_refl r) (λ l. absurd (omega arith)) (inl refl)

  -- one with a step gives its candidate
  pub look_take : (gaps : ℕ) {t : ℕ} → step (get_or order q 0) ≡ gaps + 1 → t ≡ max r (score (get_or order q 0) + weight - gaps) → Greatest own weight step score (Among order (q + 1)) t
  look_take gaps {t} e h =
      greatest-more b (among_up order q) (among-here order q) (among-only order q) (omega arith) (λ _. omega arith) (on (raised_one r (score (get_or order q 0) + weight) gaps))
    where
      on : (max r (score (get_or order q 0) + weight - gaps) ≡ r) ⊎ (score (get_or order q 0) + weight ≡ max r (score (get_or order q 0) + weight - gaps) + gaps)
          → (t ≡ r) ⊎ ((1 ≤ step (get_or order q 0)) × (score (get_or order q 0) + weight ≡ t + (step (get_or order q 0) - 1)))
      on (inl z) = inl (h ∙ z)
      on (inr z) = inr (omega arith, omega arith)
