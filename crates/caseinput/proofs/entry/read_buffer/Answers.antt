use Rattle.std.proofs.Common.{ap, ◌∙◌, drop, Some, arith}
use Rattle.std.proofs.lemmas.List.{drop-drop}
use Rattle.caseinput.proofs.EntryLaws.{repeating_first, repeating_more, buffer_ends}
use Rattle.caseinput.proofs.entry.read_buffer.Goals as goal

pub loop-init : goal.loop-init
loop-init g c = λ xs e. repeating_first _ _ _ _ _ xs e

pub loop-preserved : goal.loop-preserved
loop-preserved g c = λ xs e. repeating_more _ _ (c.loop.invariant xs e) (omega arith) c.in_ok-read_run.ensures

pub returns-clause-read : goal.returns-clause-read
returns-clause-read g c = λ xs e.
    let size = c.in_ok-size.ensures xs e in
    let runs = c.in_ok-runs.ensures (drop 4 xs) size.1 in
    let ends = buffer_ends _ xs (c.loop.invariant (drop 8 xs) (runs.1 ∙ ap Some (drop-drop 4 4 xs))) (omega arith) runs.0 in
    (omega (arith, size.0), ends.0, ends.1)
