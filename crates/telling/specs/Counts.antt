-- How often a number stands in a list.
use Rattle.std.specs.Prelude.{ℕ, suc, List, [], ◌∷◌, cond, eqb}

-- how many places of a list hold x
unfoldable pub times_in : ℕ → List ℕ → ℕ
times_in x [] = 0
times_in x (y ∷ ys) = cond (eqb y x) (suc (times_in x ys)) (times_in x ys)
