use mathlib.Core.Path.{refl}
use Rattle.graph_paths.specs.Marks.{no_marks}
use Rattle.graph_paths.proofs.marks.no_marks.Goals as goal

pub returns : goal.returns
unfolding no_marks
returns c = refl
