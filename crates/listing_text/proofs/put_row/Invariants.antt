use mathlib.Core.List.{[], ◌++◌}
use lib.ListN.{drop}
use Rattle.graph_bytes.proofs.Along.{Along}
use Rattle.listing_text.specs.Lines.{spaced}
use Rattle.listing_text.proofs.put_row.Given as goal

abbrev pub invariant-loop-n : goal.invariant-loop-n
invariant-loop-n l = Along (spaced l.numbers) (spaced (drop l.n-index l.numbers) ++ []) l.initial.out l.out l.at
