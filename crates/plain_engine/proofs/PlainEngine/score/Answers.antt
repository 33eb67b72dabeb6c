use mathlib.Core.Path.{refl}
use Rattle.plain_engine.proofs.PlainEngine.score.Goals as goal

pub returns : goal.returns
returns c = record { best = c.plain_scores.ensures; is = λ g a H js score R. record { result = R; none = refl } }
