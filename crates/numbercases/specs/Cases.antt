-- What reading the parts of a case finds.
use Rattle.std.specs.Prelude.{ℕ, ◌+◌, ◌-◌, ◌*◌, ◌/◌, ◌%◌, ◌≤◌, ◌<◌, ◌≡◌, List, [], ◌∷◌, length, get_or, Some, None}
use Rattle.std.specs.declared.option.Option.{Option}
use Rattle.numbercases.specs.Digits.{digit_byte}

-- the number that decimal digits write, where those before them write acc
unfoldable pub decimal_from : ℕ → List ℕ → ℕ
decimal_from acc [] = acc
decimal_from acc (b ∷ s) = decimal_from (acc * 10 + (b - 48)) s

-- a value is the one that the text s writes
abbrev pub DecimalOf : Option ℕ → List ℕ → Type 0
DecimalOf (Some v) s = v ≡ decimal_from 0 s
DecimalOf None s = Unit {0}

-- the text s writes the byte b with its pair k of digits
abbrev pub Pair : ℕ → List ℕ → ℕ → Type 0
Pair b s k = (digit_byte (b / 16) ≡ get_or s (2 * k) 0) × (digit_byte (b % 16) ≡ get_or s (2 * k + 1) 0)

-- and so each of the first n bytes of out
abbrev pub Pairs : ℕ → List ℕ → List ℕ → Type 0
Pairs n out s = (k : ℕ) → k < n → Pair (get_or out k 0) s k

-- the bytes are those that the text s writes, one for each two of its own (`-` writes none), and out has them
abbrev pub BytesOf : Option ℕ → List ℕ → List ℕ → Type 0
BytesOf (Some n) out s = (n ≡ length s / 2) × (n ≤ length out) × Pairs n out s
BytesOf None out s = Unit {0}
