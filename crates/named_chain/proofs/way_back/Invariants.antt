use Rattle.named_chain.proofs.WayLaws.{Going}
use Rattle.named_chain.proofs.way_back.Given as goal

abbrev pub invariant-loop-i : goal.invariant-loop-i
invariant-loop-i l = Going l.s l.scores l.back l.last l.at l.j

abbrev pub decreases-loop-i : goal.decreases-loop-i
decreases-loop-i l = l.at
