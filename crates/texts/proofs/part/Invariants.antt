use Rattle.texts.proofs.Parting.{Parting}
use Rattle.texts.proofs.part.Given as goal

-- the part is the one after the marks that are left to pass
abbrev pub invariant-loop-i : goal.invariant-loop-i
invariant-loop-i l = Parting l.k l.text l.left l.start l.i
