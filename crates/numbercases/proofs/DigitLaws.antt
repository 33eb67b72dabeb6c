-- The byte that writes a digit, on either side of ten. Assumes nothing.
use Prim.Native.Nat.{ℕ, ◌+◌, ◌≤◌, ◌<◌}
use mathlib.Core.Path.{◌≡◌}
use borrow.Author.Tests.{lt-ltb, le-ltb}
use Rattle.numbercases.specs.Digits.{digit_byte}

pub digit_low : (d : ℕ) → d < 10 → digit_byte d ≡ 48 + d
digit_low d h = simp (lt-ltb d 10 h)

pub digit-high : (d : ℕ) → 10 ≤ d → digit_byte d ≡ 55 + d
digit-high d h = simp (le-ltb d 10 h)
