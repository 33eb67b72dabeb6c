use Rattle.std.proofs.Common.{◌≡◌, drop}
use Rattle.numbercases.specs.Cases.{decimal_from}
use Rattle.numbercases.proofs.read_decimal.Given as goal

-- the number from the first digit on is the number from here on, after the value of the digits that were passed
abbrev pub invariant-loop-b : goal.invariant-loop-b
invariant-loop-b l = decimal_from 0 l.s ≡ decimal_from l.value (drop l.b-index l.s)
