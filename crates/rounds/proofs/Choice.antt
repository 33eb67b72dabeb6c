-- What is there though nothing says which (`Some`): how such things are joined and chosen, and that a decidable fact needs no more. Assumes nothing.
use mathlib.Core.Path.{◌≡◌, refl}
use mathlib.Core.Logic.{◌⊎◌, inl, inr}
use Prim.Native.Nat.{ℕ, zero, suc, ◌≤◌, ◌<◌}
use native.Mathlib.Nat.{le_of_suc-le-suc, not-suc-le-zero, eq-or-lt_of_le, lt-suc_self}
use native.Mathlib.Decide.{ℕ_discrete, dec_le}
use native.Mathlib.Omega.{arith}
use Rattle.rounds.specs.Rounds.{Within}
use Rattle.rounds.specs.Best.{Some}
use Rattle.rounds.proofs.Upto.{within, within-suc, within-last, within_none}

infixl 20 ◌>>=◌
-- so that `do` joins them
pub ◌>>=◌ : {A B : Type 0} → Some A → (A → Some B) → Some B
◌>>=◌ a f k = a (λ x. f x k)

pub some : {A : Type 0} → A → Some A
some a k = k a

pub decided : {A : Type 0} → Some (A ⊎ (¬ A))
decided k = k (inr (λ a. k (inl a)))

pub by_dec : {A : Type 0} → Dec A → Some A → A
by_dec (yes a) s = a
by_dec (no h) s = absurd (s h)

-- the greatest number up to k with Q, or 0
pub greatest : (Q : ℕ → Type 0) (k : ℕ) → Some ((r : ℕ) × ((r ≡ 0) ⊎ Q r) × ((i : ℕ) → i ≤ k → Q i → i ≤ r))
greatest Q zero = some (0, inl refl, λ i l q. l)
greatest Q (suc k) = do
  w ← greatest Q k
  d ← decided
  some (go w d)
  where
    go : ((r : ℕ) × ((r ≡ 0) ⊎ Q r) × ((i : ℕ) → i ≤ k → Q i → i ≤ r)) → Q (suc k) ⊎ (¬ Q (suc k)) → (r : ℕ) × ((r ≡ 0) ⊎ Q r) × ((i : ℕ) → i ≤ suc k → Q i → i ≤ r)
    go w (inl q) = (suc k, inr q, λ i l _. l)
    go (r, a, g) (inr h) = (r, a, λ i l q. up i q (eq-or-lt_of_le l))
      where
        up : (i : ℕ) → Q i → (i ≡ suc k) ⊎ (i < suc k) → i ≤ r
        up i q (inl e) = absurd (h (rw e at q))
        up i q (inr l) = g i (le_of_suc-le-suc l) q

-- the least number with Q
pub smallest : (Q : ℕ → Type 0) (k : ℕ) → Q k → Some ((r : ℕ) × Q r × ((i : ℕ) → Q i → r ≤ i))
smallest Q k q = below (suc k) >>= end
  where
    Found : Type 0
    Found = (r : ℕ) × Q r × ((i : ℕ) → Q i → r ≤ i)

    step : (j : ℕ) → ((i : ℕ) → i < j → ¬ Q i) ⊎ Found → Q j ⊎ (¬ Q j) → ((i : ℕ) → i < suc j → ¬ Q i) ⊎ Found
    step j (inr w) d = inr w
    step j (inl h) (inl q) = inr (j, q, λ i qi. by_dec (dec_le j i) (λ n. h i (omega arith) qi))
    step j (inl h) (inr n) = inl (λ i l qi. up i qi (eq-or-lt_of_le (le_of_suc-le-suc l)))
      where
        up : (i : ℕ) → Q i → (i ≡ j) ⊎ (i < j) → ⊥
        up i qi (inl e) = n (rw e at qi)
        up i qi (inr l) = h i l qi

    below : (j : ℕ) → Some (((i : ℕ) → i < j → ¬ Q i) ⊎ Found)
    below zero = some (inl (λ i l. absurd (not-suc-le-zero l)))
    below (suc j) = do
      w ← below j
      d ← decided
      some (step j w d)

    end : ((i : ℕ) → i < suc k → ¬ Q i) ⊎ Found → Some Found
    end (inl h) = absurd (h k (lt-suc_self k) q)
    end (inr w) = some w

-- a value for each of 1 to n, where there is some for each
pub choose : {R : ℕ → ℕ → Type 0} (n : ℕ) → ((v : ℕ) → Within n v → Some ((a : ℕ) × R v a)) → Some ((T : ℕ → ℕ) × ((v : ℕ) → Within n v → R v (T v)))
choose zero h = some (λ _. 0, λ v w. absurd (within_none w))
choose {R} (suc n) h = do
  w ← choose n (λ v w. h v (within-suc w))
  a ← h (suc n) (within-last n)
  some (go w a)
  where
    go : ((T : ℕ → ℕ) × ((v : ℕ) → Within n v → R v (T v))) → ((a : ℕ) × R (suc n) a) → (T : ℕ → ℕ) × ((v : ℕ) → Within (suc n) v → R v (T v))
    go (T, t) (a, r) = (U, λ v w. at v w (ℕ_discrete v (suc n)))
      where
        pick : {v : ℕ} → Dec (v ≡ suc n) → ℕ → ℕ
        pick (yes _) v = a
        pick (no _) v = T v

        U : ℕ → ℕ
        U v = pick (ℕ_discrete v (suc n)) v

        at : (v : ℕ) → Within (suc n) v → (d : Dec (v ≡ suc n)) → R v (pick d v)
        at v w (yes e) = rw e r
        at v w (no h) = t v (within w.low (omega arith))
