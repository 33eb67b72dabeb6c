-- What lent buffers hold after a call.
use Rattle.std.specs.Prelude.{ℕ, ◌-◌, List, ◌++◌, length, drop, replicate}

-- the used places, and 0 in the others up to the full size
unfoldable pub padded : ℕ → List ℕ → List ℕ
padded full used = used ++ replicate (full - length used) 0

-- "After acceptance, unused places up to the full size hold 0 and places beyond it are untouched."
unfoldable pub laid : ℕ → List ℕ → List ℕ → List ℕ
unfolding padded
laid full used old = padded full used ++ drop full old

-- "The writer's output past the last byte written is untouched."
abbrev pub front : List ℕ → List ℕ → List ℕ
front written old = written ++ drop (length written) old
