use Rattle.std.proofs.Common.{◌*◌, ◌≤◌, length}
use Rattle.numbercases.specs.Cases.{Pairs}
use Rattle.numbercases.proofs.read_pairs.Given as goal

-- the pairs that were passed write the first bytes of out
abbrev pub invariant-loop-i : goal.invariant-loop-i
invariant-loop-i l = (l.i ≤ l.n) × (l.n ≤ length l.out) × (l.n * 2 ≤ length l.s) × Pairs l.i l.out l.s
