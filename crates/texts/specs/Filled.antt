-- What is written of a text with places for numbers, each the mark `#`, which is 35.
use Rattle.std.specs.Prelude.{ℕ, List, [], ◌∷◌, ◌++◌, cond, eqb, drop}
use Rattle.std.specs.Fmt.{decimal}

-- the digits of the first of some numbers, or none
abbrev pub first_text : List ℕ → List ℕ
first_text [] = []
first_text (x ∷ xs) = decimal x

-- a text, with the next of the numbers in place of each mark
unfoldable pub filled : List ℕ → List ℕ → List ℕ
filled [] ns = []
filled (y ∷ ys) ns = cond (eqb y 35) (first_text ns ++ filled ys (drop 1 ns)) (y ∷ filled ys ns)
