use Rattle.std.proofs.Common.{◌≡◌, ℕ, List, drop, Some}
use Rattle.caseinput.proofs.input.skip.Given as goal

-- as many bytes are gone as were passed
abbrev pub invariant-loop : goal.invariant-loop
invariant-loop g l = (xs : List ℕ) → g.R.Read.remaining l.initial.from ≡ Some xs → g.R.Read.remaining l.from ≡ Some (drop l.counter xs)
