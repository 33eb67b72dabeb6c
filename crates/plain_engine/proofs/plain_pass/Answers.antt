use native.Mathlib.Omega.{arith}
use Rattle.read_order.proofs.InOrder.{first-all}
use Rattle.plain_engine.proofs.plain_pass.Goals as goal

pub returns : goal.returns
returns c = first-all c.requires.read_order c.loop-taken.invariant.1 (omega (arith, c.requires.read_order.size))
