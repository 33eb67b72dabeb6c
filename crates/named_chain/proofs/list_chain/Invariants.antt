use Rattle.wire.proofs.Laying.{Filled}
use Rattle.named_chain.proofs.list_chain.Given as goal

abbrev pub invariant-loop-i : goal.invariant-loop-i
invariant-loop-i l = Filled l.way l.chain l.initial.chain l.i
