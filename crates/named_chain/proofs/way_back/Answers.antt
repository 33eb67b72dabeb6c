use native.Mathlib.Omega.{arith}
use Rattle.named_chain.proofs.WayLaws.{going_start, going_end, going_more}
use Rattle.named_chain.proofs.way_back.Goals as goal

pub loop-i-init : goal.loop-i-init
loop-i-init c = rw c.requires.within.2 (going_start c.requires.within.0 c.requires.within.2)

pub loop-i-preserved : goal.loop-i-preserved
loop-i-preserved c = going_more c.requires.scored c.loop-i.invariant c.in-Some.ensures

pub returns-in-None : goal.returns-in-None
returns-in-None c = (omega (arith, c.loop-i.invariant.upto), going_end c.requires.scored c.loop-i.invariant c.in-None.ensures)
