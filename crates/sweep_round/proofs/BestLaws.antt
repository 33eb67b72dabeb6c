-- The greatest of a score and all candidates, in a loop's own numbers. Assumes nothing.
use Prim.Native.Nat.{ℕ, ◌+◌, ◌-◌, ◌≤◌, max}
use mathlib.Core.Path.{◌≡◌, ap, ◌∙◌}
use mathlib.Core.List.{List}
use native.Mathlib.Omega.{arith}
use native.Mathlib.Decide.{dec_le}
use lib.ListN.{get_or}
use Rattle.rounds.proofs.Gather.{gather_none, gather_skip, gather-take}
use Rattle.pair_step.specs.Pairs.{Ends, step_in, step_from}
use Rattle.sweep_round.specs.Round.{best_in}

module _ (ends : Ends) (scores row : List ℕ) (own v x c weight : ℕ) where
  -- the step from the anchor at place i of the lists
  abbrev pub step_placed : ℕ → ℕ
  step_placed i = step_in row (get_or ends.us i 0) (get_or ends.ys i 0) (get_or ends.ds i 0) v x c

  placed : (i : ℕ) → step_from ends row v x c (i + 1) ≡ step_placed i
  placed i = let e : i + 1 - 1 ≡ i = omega arith in rw e

  pub best_none : best_in ends scores row own v x c weight 0 ≡ own
  best_none = gather_none max (λ i. dec_le 1 (step_from ends row v x c i)) (λ i. get_or scores (i - 1) 0 + weight - (step_from ends row v x c i - 1)) own

  pub best_skip : (i : ℕ) → step_placed i ≡ 0 → best_in ends scores row own v x c weight (i + 1) ≡ best_in ends scores row own v x c weight i
  best_skip i h =
      gather_skip max (λ i. dec_le 1 (step_from ends row v x c i)) (λ i. get_or scores (i - 1) 0 + weight - (step_from ends row v x c i - 1)) own i
      (λ k. omega (arith, placed i))

  pub best-take : (i : ℕ) → 1 ≤ step_placed i
      → best_in ends scores row own v x c weight (i + 1) ≡ max (best_in ends scores row own v x c weight i) (get_or scores i 0 + weight - (step_placed i - 1))
  best-take i h =
      let e : i + 1 - 1 ≡ i = omega arith in
      gather-take max (λ i. dec_le 1 (step_from ends row v x c i)) (λ i. get_or scores (i - 1) 0 + weight - (step_from ends row v x c i - 1)) own i
      (omega (arith, placed i))
      ∙ ap (λ (j : ℕ). max (best_in ends scores row own v x c weight i) (get_or scores j 0 + weight - (step_placed j - 1))) e
