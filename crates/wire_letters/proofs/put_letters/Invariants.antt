use Rattle.wire.proofs.Laying.{Filled}
use Rattle.wire_letters.proofs.put_letters.Given as goal

abbrev pub invariant-loop-i : goal.invariant-loop-i
invariant-loop-i l = Filled l.letters l.out l.initial.out l.i
