-- What is written of bytes and of numbers.
use Rattle.std.specs.Prelude.{ℕ, ◌/◌, ◌%◌, false, List, [], ◌∷◌}
use Rattle.std.specs.List.{flat_map}
use Rattle.std.specs.Fmt.{decimal, digit_glyph}

-- a space, and a byte's two hexadecimal digits
abbrev pub byte_text : ℕ → List ℕ
byte_text b = 32 ∷ digit_glyph false (b / 16) ∷ digit_glyph false (b % 16) ∷ []

-- a space, and a number's decimal digits
abbrev pub number_text : ℕ → List ℕ
number_text x = 32 ∷ decimal x

-- so each of a list of bytes
abbrev pub bytes_text : List ℕ → List ℕ
bytes_text bs = flat_map byte_text bs

-- so each of a list of numbers
abbrev pub numbers_text : List ℕ → List ℕ
numbers_text xs = flat_map number_text xs
