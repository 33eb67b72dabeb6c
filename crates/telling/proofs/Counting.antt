-- How often a number stands in a list. Assumes nothing.
use Rattle.std.proofs.Common.{◌≡◌, ℕ, List, [], ◌∷◌, refl, arith}
use Rattle.std.proofs.lemmas.Grind.{common_steps}
use Rattle.std.specs.Prelude.{count_by, ◌==◌}
use Rattle.telling.specs.Counts.{times_in}

-- the elements that are x, of numbers
pub count_is_times : (x : ℕ) (xs : List ℕ) → count_by (λ y. y == x) xs ≡ times_in x xs
unfolding times_in
count_is_times x [] = refl
count_is_times x (y ∷ ys) = grind (arith, common_steps, count_is_times x ys)
