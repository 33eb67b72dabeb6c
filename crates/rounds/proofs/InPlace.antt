-- Rounds in place: what each step keeps, and what a loop's flag `changed` says of the entries. Assumes nothing.
use mathlib.Core.Path.{◌≡◌, refl, sym, ap, ◌∙◌}
use mathlib.Core.Logic.{◌≢◌}
use Prim.Native.Nat.{ℕ, zero, suc, ◌≤◌, ◌<◌}
use native.Mathlib.Nat.{le_refl}
use native.Mathlib.Omega.{arith}
use Rattle.rounds.specs.Rounds.{Within, sweep, iterate, Rounds}
use Rattle.rounds.proofs.Upto.{within, within-last}
use Rattle.rounds.proofs.Counts.{rounds_keep, iterate_keeps}

-- ---- what each step keeps

module _ {S : Type 0} (n : ℕ) (step : ℕ → S → S) (P : S → Type 0) where
  -- each of steps 1 to n keeps P
  abbrev pub Keeps : Type 0
  Keeps = (v : ℕ) (s : S) → Within n v → P s → P (step v s)

  pub sweep_keeps : Keeps → (v : ℕ) (s : S) → v ≤ n → P s → P (sweep step v s)
  unfolding sweep
  sweep_keeps h zero s l p = p
  sweep_keeps h (suc v) s l p = h (suc v) (sweep step v s) (within (omega arith) l) (sweep_keeps h v s (omega arith) p)

  pub round_keeps : Keeps → (s : S) → P s → P (sweep step n s)
  round_keeps h s p = sweep_keeps h n s (le_refl n) p

  -- it holds of every state that the rounds pass through: after k rounds, and v steps of the next
  pub passes : Keeps → (k v : ℕ) (s : S) → v ≤ n → P s → P (sweep step v (iterate (sweep step n) k s))
  passes h k v s l p = sweep_keeps h v (iterate (sweep step n) k s) l (iterate_keeps (sweep step n) P (round_keeps h) k s p)

  -- and of what they leave
  pub leaves : Keeps → {s t : S} {k : ℕ} → Rounds (sweep step n) s k t → P s → P t
  leaves h r p = rounds_keep (sweep step n) P (round_keeps h) r p

-- ---- what becomes of an entry

module _ {S A : Type 0} (n : ℕ) (step : ℕ → S → S) (get : ℕ → S → A) where
  -- a step touches its own entry only
  abbrev pub Local : Type 0
  Local = (u v : ℕ) (s : S) → Within n u → Within n v → u ≢ v → get u (step v s) ≡ get u s

module _ {S A : Type 0} (step : ℕ → S → S) (get : ℕ → S → A) where
  -- one of entries 1 to v is not what it was: what a flag `changed` says when v steps are made
  abbrev pub Moved : ℕ → S → Type 0
  Moved v s = (u : ℕ) × Within v u × (get u (sweep step v s) ≢ get u s)

module _ {S A : Type 0} (n : ℕ) (step : ℕ → S → S) (get : ℕ → S → A) (local : Local n step get) where
  -- an entry not yet come to is what it was
  pub ahead : (v u : ℕ) (s : S) → v < u → u ≤ n → get u (sweep step v s) ≡ get u s
  unfolding sweep
  ahead zero u s l h = refl
  ahead (suc v) u s l h = local u (suc v) (sweep step v s) (within (omega arith) h) (within (omega arith) (omega arith)) (omega arith) ∙ ahead v u s (omega arith) h

  -- the flag stays up
  pub moved_on : (v : ℕ) (s : S) → v < n → Moved step get v s → Moved step get (suc v) s
  unfolding sweep
  moved_on v s l (u, w, h) = (u, within w.low (omega arith), rw (local u (suc v) (sweep step v s) (within w.low (omega arith)) (within (omega arith) l) (omega arith)) h)

  -- the flag goes up
  pub moved_now : (v : ℕ) (s : S) → v < n → get (suc v) (step (suc v) (sweep step v s)) ≢ get (suc v) (sweep step v s) → Moved step get (suc v) s
  unfolding sweep
  moved_now v s l h = (suc v, within-last v, λ e. h (e ∙ sym (ahead v (suc v) s (le_refl _) l)))

-- a flag that is up is right
pub moved-busy : {S A : Type 0} (step : ℕ → S → S) (get : ℕ → S → A) (v : ℕ) (s : S) → Moved step get v s → sweep step v s ≢ s
moved-busy step get v s w e = w.2 (ap (get w.0) e)
