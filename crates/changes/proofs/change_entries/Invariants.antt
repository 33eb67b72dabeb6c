use Rattle.changes.proofs.ChangeLaws.{Changing}
use Rattle.changes.proofs.change_entries.Given as goal

abbrev pub invariant-loop-b : goal.invariant-loop-b
invariant-loop-b g l = Changing g.T.Entry.entry l.list l.text l.initial.entries l.s l.b-index l.entries
