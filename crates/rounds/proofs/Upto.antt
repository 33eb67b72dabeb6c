-- The numbers 1 to n, and sums over them. One law, `total_tight`, serves every count: two sums of ordered terms that meet have equal terms.
-- Assumes nothing.
use mathlib.Core.Path.{◌≡◌, subst}
use mathlib.Core.Logic.{◌⊎◌, inl, inr, ite, ⊎_elim}
use Prim.Native.Nat.{ℕ, zero, suc, ◌+◌, ◌*◌, ◌≤◌, ◌<◌, zero-le}
use native.Mathlib.Nat.{le_of_suc-le-suc, le_refl, eq-or-lt_of_le}
use native.Mathlib.Omega.{arith}
use Rattle.rounds.specs.Rounds.{Within}

pub within : {n v : ℕ} → 1 ≤ v → v ≤ n → Within n v
within l h = record { low = l; high = h }

-- one of 1 to n is one of 1 to n + 1
pub within-suc : {n v : ℕ} → Within n v → Within (suc n) v
within-suc w = within w.low (omega arith)

-- the last of 1 to n + 1
pub within-last : (n : ℕ) → Within (suc n) (suc n)
within-last n = within (omega arith) (le_refl _)

pub within_none : {v : ℕ} → ¬ Within 0 v
within_none w = omega arith

-- one of 1 to n + 1 is the last, or one of 1 to n
pub within_cases : {n v : ℕ} → Within (suc n) v → (v ≡ suc n) ⊎ Within n v
within_cases {n} {v} w = go (eq-or-lt_of_le w.high)
  where
    go : (v ≡ suc n) ⊎ (v < suc n) → (v ≡ suc n) ⊎ Within n v
    go (inl e) = inl e
    go (inr l) = inr (within w.low (le_of_suc-le-suc l))

-- what holds of 1 to n and of n + 1 holds of 1 to n + 1
pub upto-suc : {P : ℕ → Type 0} (n : ℕ) → ((v : ℕ) → Within n v → P v) → P (suc n) → (v : ℕ) → Within (suc n) v → P v
upto-suc {P} n h p v w = go v (within_cases w)
  where
    go : (v : ℕ) → (v ≡ suc n) ⊎ Within n v → P v
    go v (inl e) = rw e p
    go v (inr k) = h v k

-- one of 1 to n + 1 with Q, which n + 1 has not, is one of 1 to n
pub step_down : (Q : ℕ → Type 0) {n v : ℕ} → Within (suc n) v → Q v → ¬ Q (suc n) → Within n v
step_down Q {n} {v} w q h = go (within_cases w)
  where
    go : (v ≡ suc n) ⊎ Within n v → Within n v
    go (inl e) = absurd (h (subst Q e q))
    go (inr k) = k

-- a decidable fact holds of each of 1 to n, or fails at one
pub all_or_not : {P : ℕ → Type 0} → ((v : ℕ) → Dec (P v)) → (n : ℕ) → ((v : ℕ) → Within n v → P v) ⊎ ((v : ℕ) × Within n v × (¬ P v))
all_or_not d zero = inl (λ v w. absurd (within_none w))
all_or_not {P} d (suc n) = go (all_or_not d n) (d (suc n))
  where
    go : ((v : ℕ) → Within n v → P v) ⊎ ((v : ℕ) × Within n v × (¬ P v)) → Dec (P (suc n)) → ((v : ℕ) → Within (suc n) v → P v) ⊎ ((v : ℕ) × Within (suc n) v × (¬ P v))
    go (inr (v, w, q)) d = inr (v, within-suc w, q)
    go (inl h) (yes p) = inl (upto-suc {P = P} n h p)
    go (inl h) (no q) = inr (suc n, within-last n, q)

-- one of 1 to n has the best value, by any order that compares any two
pub best_at : (R : ℕ → ℕ → Type 0) → ((x y : ℕ) → R x y ⊎ R y x) → ((x y z : ℕ) → R x y → R y z → R x z) → (f : ℕ → ℕ) (n : ℕ) → 1 ≤ n → (v : ℕ) × Within n v × ((u : ℕ) → Within n u → R (f u) (f v))
best_at R any trans f zero l = absurd (omega arith)
best_at R any trans f (suc zero) l = (1, within-last 0, upto-suc {P = λ u. R (f u) (f 1)} 0 (λ u w. absurd (within_none w)) (⊎_elim (λ r. r) (λ r. r) (any (f 1) (f 1))))
best_at R any trans f (suc (suc n)) l = go (best_at R any trans f (suc n) (omega arith))
  where
    go : ((v : ℕ) × Within (suc n) v × ((u : ℕ) → Within (suc n) u → R (f u) (f v))) → (v : ℕ) × Within (suc (suc n)) v × ((u : ℕ) → Within (suc (suc n)) u → R (f u) (f v))
    go (v, w, h) = pick (any (f (suc (suc n))) (f v))
      where
        pick : R (f (suc (suc n))) (f v) ⊎ R (f v) (f (suc (suc n))) → (v : ℕ) × Within (suc (suc n)) v × ((u : ℕ) → Within (suc (suc n)) u → R (f u) (f v))
        pick (inl r) = (v, within-suc w, upto-suc {P = λ u. R (f u) (f v)} (suc n) h r)
        pick (inr r) = (suc (suc n), within-last (suc n), upto-suc {P = λ u. R (f u) (f (suc (suc n)))} (suc n) (λ u k. trans _ _ _ (h u k) r) (⊎_elim (λ r. r) (λ r. r) (any _ _)))

-- what holds of both branches holds of the choice
pub ite_cases : {P C : Type 0} (Q : C → Type 0) (d : Dec P) {a b : C} → (P → Q a) → (¬ P → Q b) → Q (ite d a b)
ite_cases Q (yes p) f h = f p
ite_cases Q (no n) f h = h n

-- f 1 + .. + f n
unfoldable pub total : (ℕ → ℕ) → ℕ → ℕ
total f zero = zero
total f (suc n) = total f n + f (suc n)

module _ (f g : ℕ → ℕ) where
  pub total_mono : (n : ℕ) → ((v : ℕ) → Within n v → f v ≤ g v) → total f n ≤ total g n
  unfolding total
  total_mono zero h = zero-le
  total_mono (suc n) h = omega (arith, total_mono n (λ v w. h v (within-suc w)), h (suc n) (within-last n))

  pub total_tight : (n : ℕ) → ((v : ℕ) → Within n v → f v ≤ g v) → total g n ≤ total f n → (v : ℕ) → Within n v → f v ≡ g v
  unfolding total
  total_tight zero h t v w = absurd (within_none w)
  total_tight (suc n) h t v w =
      let m = total_mono n (λ v w. h v (within-suc w)) in
      let e = h (suc n) (within-last n) in
      upto-suc {P = λ v. f v ≡ g v} n (total_tight n (λ v w. h v (within-suc w)) (omega arith)) (omega arith) v w

pub total_const : (c n : ℕ) → total (λ _. c) n ≡ n * c
unfolding total
total_const c zero = omega arith
total_const c (suc n) = omega (arith, total_const c n)
