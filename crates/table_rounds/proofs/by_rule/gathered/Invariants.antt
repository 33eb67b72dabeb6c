use Rattle.table_rows.specs.Lanes.{Lanes}
use Rattle.table_rows.specs.HeldEdges.{target}
use Rattle.table_rows.proofs.Linking.{Walking, ahead}
use Rattle.table_rounds.proofs.Relaxing.{taken_by}
use lib.ListN.{get_or}
use Rattle.table_rounds.proofs.by_rule.gathered.Given as goal

abbrev pub invariant-loop-e : goal.invariant-loop-e
invariant-loop-e g l = Walking (target l.edges.list) l.v l.edges.m l.e (λ k. Lanes l.row (taken_by l.table (g.R.EdgeRule.rules l.rule l.edges.m l.edges.list) (λ i. get_or l.fn.first i 0) l.v k))

abbrev pub decreases-loop-e : goal.decreases-loop-e
decreases-loop-e g l = ahead l.edges.m l.e
