use Rattle.std.proofs.Common.{ℕ, ◌≡◌, ◌+◌, List, sym, ap, ap₂, ◌∙◌, arith, refl, slice_index, take}
use Rattle.std.proofs.lemmas.List.{get_or-take, length-take-le}
use Rattle.std.proofs.lemmas.Result.{err_from_is_err_and}
use Rattle.wire.specs.Sizes.{most_letters}
use Rattle.graph.specs.Entries.{Given}
use Rattle.graph_content.specs.Faults.{letters_fault}
use Rattle.graph_content.proofs.Cutting.{letters-cut}
use Rattle.graph_content.proofs.Faulting.{refused, taken, within, labels-step, labels-over}
use Rattle.graph_faults.proofs.sections.labels_fault.Goals as goal

pub returns-in_err-length_fault : goal.returns-in_err-length_fault
returns-in_err-length_fault c =
    let l = c.loop-length in
    let i = l.length-index in
    let g = c.args.content.now in
    let b = g.buffers in
    let n : c.content.inside.n ≡ g.n = ap (λ (h : Given). h.n) c.content.view_is in
    let used = length-take-le c.content.inside.n c.content.inside.lengths.now (omega arith) in
    let le : slice_index (take c.content.inside.n c.content.inside.lengths.now) i ≡ slice_index b.lengths i =
    get_or-take c.content.inside.n c.content.inside.lengths.now i 0 (omega arith) ∙ ap (λ (h : Given). slice_index h.buffers.lengths i) c.content.view_is in
    let f = rw le at c.in_err-length_fault.ensures in
    let p = err_from_is_err_and c.from_residual.result c.from_residual.ensures.1 in
    rw (p.1, p.2) (sym (l.invariant.told ∙ labels-step b.letters b.lengths g.n i l.sum (omega arith) ∙ refused _ _ _ f))

pub returns-in_err-letters_fault : goal.returns-in_err-letters_fault
returns-in_err-letters_fault c =
    let l = c.loop-length in
    let i = l.length-index in
    let g = c.args.content.now in
    let b = g.buffers in
    let n : c.content.inside.n ≡ g.n = ap (λ (h : Given). h.n) c.content.view_is in
    let used = length-take-le c.content.inside.n c.content.inside.lengths.now (omega arith) in
    let len = slice_index (take c.content.inside.n c.content.inside.lengths.now) i in
    let le : len ≡ slice_index b.lengths i =
    get_or-take c.content.inside.n c.content.inside.lengths.now i 0 (omega arith) ∙ ap (λ (h : Given). slice_index h.buffers.lengths i) c.content.view_is in
    let upto = (within 1 len (l.sum + len) most_letters (sym c.in_ok-length_fault.ensures)).1 in
    let f = rw le at c.in_ok-length_fault.ensures in
    let t = c.in_err-letters_fault.ensures
    ∙ letters-cut l.sum (l.sum + len) len c.content.inside.letters.now refl (omega arith)
    ∙ ap₂ (λ (k : ℕ) (s : List ℕ). letters_fault k s l.sum) le (ap (λ (h : Given). h.buffers.letters) c.content.view_is) in
    let p = err_from_is_err_and c.from_residual-in_err-letters_fault.result c.from_residual-in_err-letters_fault.ensures.1 in
    rw (p.1, p.2) (sym (l.invariant.told ∙ labels-step b.letters b.lengths g.n i l.sum (omega arith) ∙ taken _ _ f ∙ refused _ _ _ t))

pub loop-length-preserved : goal.loop-length-preserved
loop-length-preserved c =
    let l = c.loop-length in
    let i = l.length-index in
    let g = c.args.content.now in
    let b = g.buffers in
    let n : c.content.inside.n ≡ g.n = ap (λ (h : Given). h.n) c.content.view_is in
    let used = length-take-le c.content.inside.n c.content.inside.lengths.now (omega arith) in
    let len = slice_index (take c.content.inside.n c.content.inside.lengths.now) i in
    let le : len ≡ slice_index b.lengths i =
    get_or-take c.content.inside.n c.content.inside.lengths.now i 0 (omega arith) ∙ ap (λ (h : Given). slice_index h.buffers.lengths i) c.content.view_is in
    let upto = (within 1 len (l.sum + len) most_letters (sym c.in_ok-length_fault.ensures)).1 in
    let f = rw le at c.in_ok-length_fault.ensures in
    let t = c.in_ok-letters_fault.ensures
    ∙ letters-cut l.sum (l.sum + len) len c.content.inside.letters.now refl (omega arith)
    ∙ ap₂ (λ (k : ℕ) (s : List ℕ). letters_fault k s l.sum) le (ap (λ (h : Given). h.buffers.letters) c.content.view_is) in
    record {
      told = rw le (l.invariant.told ∙ labels-step b.letters b.lengths g.n i l.sum (omega arith) ∙ taken _ _ f ∙ taken _ _ t);
      upto = upto;
    }

pub returns : goal.returns
returns c =
    let l = c.loop-length in
    let g = c.args.content.now in
    let n : c.content.inside.n ≡ g.n = ap (λ (h : Given). h.n) c.content.view_is in
    let used = length-take-le c.content.inside.n c.content.inside.lengths.now (omega arith) in
    sym (l.invariant.told ∙ labels-over g.buffers.letters g.buffers.lengths g.n l.length-index l.sum (omega arith))
