use Rattle.steps.specs.Rowing.{Stands}
use Rattle.read_order.specs.Order.{BestFirst}
use Rattle.plain_engine.proofs.plain_pass.Given as goal

abbrev pub invariant-loop-taken : goal.invariant-loop-taken
invariant-loop-taken l = Stands l.s l.stands l.row × BestFirst l.s l.order l.scores l.taken
