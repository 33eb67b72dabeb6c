-- Zeros: rooms of them, and what stands behind the used places of a lent buffer.
use Rattle.std.specs.Prelude.{ℕ, ◌-◌, ◌≤◌, ◌≡◌, List, ◌++◌, length, take, drop, replicate}
use mathlib.Core.Path.{refl}
use native.Mathlib.Omega.{arith}
use Rattle.std.proofs.Common.{append_assoc}
use lib.Seq.{length-take-le}
use Rattle.wire.specs.Lent.{padded, laid}

-- n zeros
unfoldable pub zeros : ℕ → List ℕ
zeros n = replicate n 0

pub zeros_are : (n : ℕ) → zeros n ≡ replicate n 0
unfolding zeros
zeros_are n = refl

-- `laid` of a buffer's own used places: these, then 0 up to the full size, then what it held
pub laid_own : (from full : ℕ) (old : List ℕ) → from ≤ full → full ≤ length old
    → laid full (take from old) old ≡ take from old ++ (replicate (full - from) 0 ++ drop full old)
unfolding laid padded
laid_own from full old h k = rw (length-take-le from old (omega arith)) (append_assoc (take from old) (replicate (full - from) 0) (drop full old))
