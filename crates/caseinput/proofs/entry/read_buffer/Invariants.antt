use Rattle.std.proofs.Common.{◌≡◌, ℕ, List, Some}
use Rattle.caseinput.proofs.EntryLaws.{Repeating}
use Rattle.caseinput.proofs.entry.read_buffer.Given as goal

-- the runs that are left give the whole buffer
abbrev pub invariant-loop : goal.invariant-loop
invariant-loop g l = (xs : List ℕ) → g.R.Read.remaining l.initial.from ≡ Some xs
    → Repeating g.T.Entry.value g.T.Entry.size l.runs l.counter l.space (g.R.Read.remaining l.from) (record { rest = xs; space = l.initial.space })
