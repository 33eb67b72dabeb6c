use mathlib.Core.Path.{refl}
use Rattle.placing.proofs.refusal.Goals as goal

pub returns : goal.returns
returns c = refl
