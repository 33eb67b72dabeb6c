use Rattle.std.proofs.Common.{length, sym, ◌∙◌, arith}
use Rattle.std.proofs.lemmas.Result.{err_from_is_err_and}
use Rattle.graph_content.proofs.Faulting.{refused, taken, letters-step, letters_end}
use Rattle.graph_content.proofs.content.letters_fault.Goals as goal

pub returns-in_err-letter_fault : goal.returns-in_err-letter_fault
returns-in_err-letter_fault c =
    let l = c.loop-letter in
    let s = c.args.letters.now in
    let p = err_from_is_err_and c.from_residual.result c.from_residual.ensures.1 in
    rw (p.1, p.2) (sym (l.invariant ∙ letters-step s (length s) l.letter-index (omega arith) ∙ refused _ _ _ c.in_err-letter_fault.ensures))

pub loop-letter-preserved : goal.loop-letter-preserved
loop-letter-preserved c =
    let l = c.loop-letter in
    let s = c.args.letters.now in
    l.invariant ∙ letters-step s (length s) l.letter-index (omega arith) ∙ taken _ _ c.in_ok-letter_fault.ensures

pub returns : goal.returns
returns c =
    let l = c.loop-letter in
    let s = c.args.letters.now in
    sym (l.invariant ∙ letters_end s (length s) l.letter-index (omega arith))
