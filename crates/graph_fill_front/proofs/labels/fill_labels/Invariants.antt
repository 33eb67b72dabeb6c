use Rattle.graph_fill_front.proofs.LabelRuns.{LabelsFilled}
use Rattle.graph_fill_front.proofs.labels.fill_labels.Given as goal

abbrev pub invariant-loop-place : goal.invariant-loop-place
invariant-loop-place l = LabelsFilled l.file l.start l.initial.letters l.initial.place-items l.letters l.place-items l.cursor.at l.sum l.place-index
