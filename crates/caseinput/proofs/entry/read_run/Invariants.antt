use Rattle.std.proofs.Common.{◌≡◌, ℕ, List, Some}
use Rattle.caseinput.proofs.EntryLaws.{Running}
use Rattle.caseinput.proofs.entry.read_run.Given as goal

-- the entries that are left give the whole run
abbrev pub invariant-loop-i : goal.invariant-loop-i
invariant-loop-i g l = (xs : List ℕ) → g.R.Read.remaining l.initial.from ≡ Some xs
    → Running g.T.Entry.value g.T.Entry.size l.n l.i l.at l.space (g.R.Read.remaining l.from) (record { rest = xs; space = l.initial.space })
