use Rattle.graph_fill.proofs.PathRooms.{PathsFilled}
use Rattle.graph_fill.proofs.paths.fill_paths.Given as goal

abbrev pub invariant-loop-i : goal.invariant-loop-i
invariant-loop-i l = PathsFilled l.file l.start l.initial.paths l.initial.place-items l.paths l.place-items l.cursor.at l.i
