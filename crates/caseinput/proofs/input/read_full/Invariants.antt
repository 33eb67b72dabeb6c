use Rattle.std.proofs.Common.{◌≡◌, ℕ, List, length, ◌-◌, ◌≤◌, take, drop, Some}
use Rattle.caseinput.proofs.input.read_full.Given as goal

-- the first n bytes of the space are the first n of those that were left
abbrev pub invariant-loop-n : goal.invariant-loop-n
invariant-loop-n g l = record {
  within : l.n ≤ length l.space;
  read : (xs : List ℕ) → g.R.Read.remaining l.initial.from ≡ Some xs
      → (l.n ≤ length xs) × (take l.n l.space ≡ take l.n xs) × (g.R.Read.remaining l.from ≡ Some (drop l.n xs));
}

abbrev pub decreases-loop-n : goal.decreases-loop-n
decreases-loop-n g l = length l.space - l.n
