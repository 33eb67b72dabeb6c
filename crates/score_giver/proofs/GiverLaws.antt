-- The lowest with a property, as a loop finds it, and what an anchor gives at its place in the lists. Assumes nothing.
use Prim.Native.Nat.{ℕ, ◌+◌, ◌-◌, ◌≤◌, ◌<◌}
use mathlib.Core.Path.{◌≡◌, subst}
use mathlib.Core.Logic.{◌≢◌}
use mathlib.Core.List.{List}
use native.Mathlib.Omega.{arith}
use native.Mathlib.Decide.{ℕ_discrete, dec_lt}
use lib.ListN.{get_or}
use Rattle.rounds.specs.Rounds.{Within}
use Rattle.rounds.proofs.Upto.{within}
use Rattle.pair_step.specs.Pairs.{Ends, step_in}
use Rattle.score_giver.specs.Giver.{NoneHas, Lowest, GivesIn}

-- ---- the lowest with a property

module _ (P : ℕ → Type 0) where
  pub none_zero : NoneHas P 0
  none_zero h w p = omega arith

  pub none_more : (i : ℕ) → NoneHas P i → (P (i + 1) → ⊥) → NoneHas P (i + 1)
  none_more i f out h w p = go (ℕ_discrete h (i + 1))
    where
      go : Dec (h ≡ i + 1) → ⊥
      go (yes e) = out (subst P e p)
      go (no d) = f h (within w.low (omega arith)) p

  pub lowest_here : (n i : ℕ) → i < n → NoneHas P i → P (i + 1) → Lowest P n (i + 1)
  lowest_here n i l f p = record { there = within (omega arith) (omega arith); has = p; low = λ h w q. above h w q (dec_lt i h) }
    where
      above : (h : ℕ) → Within n h → P h → Dec (i < h) → i + 1 ≤ h
      above h w q (yes k) = omega arith
      above h w q (no k) = absurd (f h (within w.low (omega arith)) q)

-- what an anchor gives, at its place in the lists
module _ (ends : Ends) (scores row : List ℕ) (score v x c weight : ℕ) where
  abbrev GivesAt : ℕ → Type 0
  GivesAt i =
      (1 ≤ step_in row (get_or ends.us i 0) (get_or ends.ys i 0) (get_or ends.ds i 0) v x c)
      × (get_or scores i 0 + weight ≡ score + (step_in row (get_or ends.us i 0) (get_or ends.ys i 0) (get_or ends.ds i 0) v x c - 1))

  pub gives_in : (i gaps : ℕ) → step_in row (get_or ends.us i 0) (get_or ends.ys i 0) (get_or ends.ds i 0) v x c ≡ gaps + 1 → get_or scores i 0 + weight ≡ score + gaps
      → GivesIn ends scores row score v x c weight (i + 1)
  gives_in i gaps s h = let e : i ≡ i + 1 - 1 = omega arith in subst GivesAt e (omega arith, omega arith)

  gives_at : (i : ℕ) → GivesIn ends scores row score v x c weight (i + 1) → GivesAt i
  gives_at i h = let e : i + 1 - 1 ≡ i = omega arith in subst GivesAt e h

  -- another candidate, or no step, does not give it
  pub gives_other : (i gaps : ℕ) → step_in row (get_or ends.us i 0) (get_or ends.ys i 0) (get_or ends.ds i 0) v x c ≡ gaps + 1 → get_or scores i 0 + weight ≢ score + gaps
      → GivesIn ends scores row score v x c weight (i + 1) → ⊥
  gives_other i gaps s n h = let g = gives_at i h in n (omega arith)

  pub gives_none : (i : ℕ) → step_in row (get_or ends.us i 0) (get_or ends.ys i 0) (get_or ends.ds i 0) v x c ≡ 0 → GivesIn ends scores row score v x c weight (i + 1) → ⊥
  gives_none i s h = let g = gives_at i h in omega arith
