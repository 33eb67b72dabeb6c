use mathlib.Core.Path.{ap}
use Rattle.anchors.specs.View.{View}
use Rattle.toadtrellis.specs.declared.ToadPart.{ToadPart}
use Rattle.toadtrellis.proofs.toad_letters.Goals as goal

-- the start and the length of a view as the code holds it
part : View → ToadPart
part w = record { start = w.start; length = w.len }

pub returns : goal.returns
unfolding part
returns c = ap part c.view-w.ensures
