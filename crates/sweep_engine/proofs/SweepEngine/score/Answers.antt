use Rattle.sweep_engine.proofs.SweepHeld.{swept-held}
use Rattle.sweep_engine.proofs.Swept.{swept_all}
use Rattle.sweep_engine.proofs.SweepEngine.score.Goals as goal

pub returns : goal.returns
returns c = record { best = swept_all c.sweep_scores.ensures; is = λ g a H js score R. record { result = R; swept = swept-held H c.sweep_scores.ensures } }
