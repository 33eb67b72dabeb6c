-- Hexadecimal digits, in upper case.
use Rattle.std.specs.Prelude.{ℕ, ◌+◌, cond, ltb}

-- the byte that writes a digit below 16: `0` to `9`, then `A` to `F`
abbrev pub digit_byte : ℕ → ℕ
digit_byte d = cond (ltb d 10) (48 + d) (55 + d)
