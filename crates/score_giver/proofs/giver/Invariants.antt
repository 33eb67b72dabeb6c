use Rattle.score_giver.specs.Giver.{NoneHas, GivesIn}
use Rattle.score_giver.proofs.giver.Given as goal

abbrev pub invariant-loop-i : goal.invariant-loop-i
invariant-loop-i l = NoneHas (GivesIn l.ends l.scores l.row l.score l.to.v l.to.x l.to.c l.to.weight) l.i
