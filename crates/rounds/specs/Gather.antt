-- The best of several values, as a loop over them computes it. Assumes nothing.
use Rattle.std.proofs.Math.Logic.{ite}
use Rattle.std.specs.Prelude.{ℕ, zero, suc}

-- the best, by `join`, of a first value and of those candidates 1 to k that pass the test: "the greatest of itself and all candidates"
unfoldable pub gather : {X : ℕ → Type 0} → (ℕ → ℕ → ℕ) → ((e : ℕ) → Dec (X e)) → (ℕ → ℕ) → ℕ → ℕ → ℕ
gather join test candidate first zero = first
gather join test candidate first (suc k) = ite (test (suc k)) (join (gather join test candidate first k) (candidate (suc k))) (gather join test candidate first k)
