-- A number in base ten, as the listing prints it.
use Rattle.std.specs.Prelude.{ℕ, zero, suc, ◌+◌, ◌/◌, ◌%◌, List, [], ◌∷◌, ◌++◌, ltb}
use Rattle.wire.specs.Cases.{pick}

-- the byte of a digit: `0` is 48
abbrev pub digit : ℕ → ℕ
digit k = k + 48

-- the digits of x, the highest first; at most l digits stand before the last
unfoldable pub decimal_in : ℕ → ℕ → List ℕ
decimal_in zero x = digit x ∷ []
decimal_in (suc l) x = pick (ltb x 10) (digit x ∷ []) (decimal_in l (x / 10) ++ (digit (x % 10) ∷ []))

-- a number in base ten with no zero in front, and `0` for 0; it has at most x digits before its last
unfoldable pub decimal : ℕ → List ℕ
unfolding decimal_in
decimal x = decimal_in x x
