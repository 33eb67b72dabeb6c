use Rattle.rounds.specs.Table.{entry}
use Rattle.pair_step.specs.Pairs.{Greatest, step_from}
use Rattle.read_order.specs.Order.{Among}
use Rattle.plain_look.proofs.look_back.Given as goal

abbrev pub invariant-loop-j : goal.invariant-loop-j
invariant-loop-j l = Greatest l.to.weight l.to.weight (step_from l.ends l.row l.to.v l.to.x l.to.c) (λ i. entry i l.scores) (Among l.taken l.j-index) l.best
