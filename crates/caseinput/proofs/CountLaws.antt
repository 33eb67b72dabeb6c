-- How much of a buffer is kept. Assumes nothing.
use Rattle.std.proofs.Common.{◌≡◌, ℕ, ◌≤◌, List, length, sym, arith, length-take-le}
use Rattle.caseinput.specs.Counts.{IsPrefixLen}

-- a number of entries of t counts those of a list of the same length
pub counted : (k : ℕ) (s t : List ℕ) → length s ≡ length t → k ≤ length t → IsPrefixLen k s
counted k s t e h = let l : k ≤ length s = omega arith in (l, sym (length-take-le k s l))
