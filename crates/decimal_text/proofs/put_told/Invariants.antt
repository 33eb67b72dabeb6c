use lib.ListN.{drop}
use mathlib.Core.List.{◌++◌}
use Rattle.graph_bytes.proofs.Along.{Along}
use Rattle.decimal_text.specs.Words.{line_end, each, told, parts_in}
use Rattle.decimal_text.proofs.Each.{said_in}
use Rattle.decimal_text.proofs.put_told.Given as goal

abbrev pub invariant-loop-word : goal.invariant-loop-word
invariant-loop-word l = Along (told (parts_in l.parts)) (each said_in (drop l.word-index l.parts) ++ line_end) l.initial.out l.out l.at
