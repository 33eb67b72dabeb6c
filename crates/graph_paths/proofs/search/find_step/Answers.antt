use native.Mathlib.Omega.{arith}
use borrow.Author.Tests.{eq-eqb, ne_eqb}
use Rattle.graph_paths.specs.Steps.{step_at}
use Rattle.graph_paths.proofs.search.find_step.Goals as goal

pub returns-then-last-eq0 : goal.returns-then-last-eq0
unfolding step_at
returns-then-last-eq0 c = simp (eq-eqb c.args.last 0 (omega arith))

pub returns : goal.returns
unfolding step_at
returns c = simp (ne_eqb c.args.last 0 (λ e. omega arith)) c.find_edge.ensures
