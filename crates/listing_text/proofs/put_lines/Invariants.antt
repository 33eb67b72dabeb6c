use mathlib.Core.List.{[], ◌++◌}
use lib.ListN.{drop}
use Rattle.graph_bytes.proofs.Along.{Along}
use Rattle.listing_text.specs.Lines.{lines_in}
use Rattle.listing_text.proofs.put_lines.Given as goal

abbrev pub invariant-loop-number : goal.invariant-loop-number
invariant-loop-number l =
    let lines = lines_in l.anchors.numbers.now l.anchors.scores.now in
    Along (lines l.chain) (lines (drop l.number-index l.chain) ++ []) l.initial.out l.out l.at
