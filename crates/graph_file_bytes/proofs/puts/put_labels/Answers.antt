use Rattle.std.proofs.Common.{ℕ, List, ◌≡◌, ◌+◌, ◌≤◌, refl, ap, ap₂, ◌∙◌, take, slice_index, arith}
use Rattle.std.proofs.lemmas.List.{get_or-take, length-take-le}
use Rattle.graph.specs.Entries.{Given, numbers_in}
use Rattle.graph_bytes.proofs.Along.{along_as, along_lent, along-more, along-done}
use Rattle.graph_content.proofs.Encoded.{numbers_between, label-next, labels_end}
use Rattle.graph_content.proofs.Faulting.{labels-good}
use Rattle.graph_file_bytes.proofs.puts.put_labels.Goals as goal

pub put_number-at-requires : goal.put_number-at-requires
put_number-at-requires c =
    let l = c.loop-length in
    let i = l.length-index in
    let s = c.content.inside in
    let g = c.args.content.now in
    let b = g.buffers in
    let n : s.n ≡ g.n = ap (λ (h : Given). h.n) c.content.view_is in
    let used = length-take-le s.n s.lengths.now (omega arith) in
    let x = slice_index (take s.n s.lengths.now) i in
    let le : x ≡ slice_index b.lengths i =
    get_or-take s.n s.lengths.now i 0 (omega arith) ∙ ap (λ (h : Given). slice_index h.buffers.lengths i) c.content.view_is in
    let good = labels-good b.letters b.lengths g.n i l.sum (omega arith) l.invariant.faultless in
    let fits : l.sum + x ≤ 32768 = omega (arith, good.0) in
    let part = numbers_between l.sum (l.sum + x) x s.letters.now refl (omega arith)
    ∙ ap₂ (λ (k : ℕ) (t : List ℕ). numbers_in k l.sum t) le (ap (λ (h : Given). h.buffers.letters) c.content.view_is) in
    let next = along_as _ (label-next b.letters b.lengths g.n i l.sum x _ le part (omega arith)) l.invariant.along in
    along_lent _ _ _ _ _ _ next

pub overflow_add-next : goal.overflow_add-next
overflow_add-next c =
    let l = c.loop-length in
    let i = l.length-index in
    let s = c.content.inside in
    let g = c.args.content.now in
    let b = g.buffers in
    let n : s.n ≡ g.n = ap (λ (h : Given). h.n) c.content.view_is in
    let used = length-take-le s.n s.lengths.now (omega arith) in
    let x = slice_index (take s.n s.lengths.now) i in
    let le : x ≡ slice_index b.lengths i =
    get_or-take s.n s.lengths.now i 0 (omega arith) ∙ ap (λ (h : Given). slice_index h.buffers.lengths i) c.content.view_is in
    let good = labels-good b.letters b.lengths g.n i l.sum (omega arith) l.invariant.faultless in
    let fits : l.sum + x ≤ 32768 = omega (arith, good.0) in
    omega (arith, fits)

pub slice_bounds-put_letters-end-in-loop-length : goal.slice_bounds-put_letters-end-in-loop-length
slice_bounds-put_letters-end-in-loop-length c =
    let l = c.loop-length in
    let i = l.length-index in
    let s = c.content.inside in
    let g = c.args.content.now in
    let b = g.buffers in
    let n : s.n ≡ g.n = ap (λ (h : Given). h.n) c.content.view_is in
    let used = length-take-le s.n s.lengths.now (omega arith) in
    let x = slice_index (take s.n s.lengths.now) i in
    let le : x ≡ slice_index b.lengths i =
    get_or-take s.n s.lengths.now i 0 (omega arith) ∙ ap (λ (h : Given). slice_index h.buffers.lengths i) c.content.view_is in
    let good = labels-good b.letters b.lengths g.n i l.sum (omega arith) l.invariant.faultless in
    let fits : l.sum + x ≤ 32768 = omega (arith, good.0) in
    omega (arith, fits)

pub put_letters-at-requires : goal.put_letters-at-requires
put_letters-at-requires c =
    let l = c.loop-length in
    let i = l.length-index in
    let s = c.content.inside in
    let g = c.args.content.now in
    let b = g.buffers in
    let n : s.n ≡ g.n = ap (λ (h : Given). h.n) c.content.view_is in
    let used = length-take-le s.n s.lengths.now (omega arith) in
    let x = slice_index (take s.n s.lengths.now) i in
    let le : x ≡ slice_index b.lengths i =
    get_or-take s.n s.lengths.now i 0 (omega arith) ∙ ap (λ (h : Given). slice_index h.buffers.lengths i) c.content.view_is in
    let good = labels-good b.letters b.lengths g.n i l.sum (omega arith) l.invariant.faultless in
    let fits : l.sum + x ≤ 32768 = omega (arith, good.0) in
    let part = numbers_between l.sum (l.sum + x) x s.letters.now refl (omega arith)
    ∙ ap₂ (λ (k : ℕ) (t : List ℕ). numbers_in k l.sum t) le (ap (λ (h : Given). h.buffers.letters) c.content.view_is) in
    let next = along_as _ (label-next b.letters b.lengths g.n i l.sum x _ le part (omega arith)) l.invariant.along in
    let p = c.put_number-at in
    let after = along-more _ _ _ _ l.out p.new.out l.at p.result next p.ensures.0 p.ensures.1 in
    along_lent _ _ _ _ _ _ after

pub loop-length-preserved : goal.loop-length-preserved
loop-length-preserved c =
    let l = c.loop-length in
    let i = l.length-index in
    let s = c.content.inside in
    let g = c.args.content.now in
    let b = g.buffers in
    let n : s.n ≡ g.n = ap (λ (h : Given). h.n) c.content.view_is in
    let used = length-take-le s.n s.lengths.now (omega arith) in
    let x = slice_index (take s.n s.lengths.now) i in
    let le : x ≡ slice_index b.lengths i =
    get_or-take s.n s.lengths.now i 0 (omega arith) ∙ ap (λ (h : Given). slice_index h.buffers.lengths i) c.content.view_is in
    let good = labels-good b.letters b.lengths g.n i l.sum (omega arith) l.invariant.faultless in
    let fits : l.sum + x ≤ 32768 = omega (arith, good.0) in
    let part = numbers_between l.sum (l.sum + x) x s.letters.now refl (omega arith)
    ∙ ap₂ (λ (k : ℕ) (t : List ℕ). numbers_in k l.sum t) le (ap (λ (h : Given). h.buffers.letters) c.content.view_is) in
    let next = along_as _ (label-next b.letters b.lengths g.n i l.sum x _ le part (omega arith)) l.invariant.along in
    let p = c.put_number-at in
    let after = along-more _ _ _ _ l.out p.new.out l.at p.result next p.ensures.0 p.ensures.1 in
    let q = c.put_letters-at in
    record {
      along = along-more _ _ _ _ _ q.new.out _ q.result after q.ensures.0 q.ensures.1;
      faultless = rw le good.1;
    }

pub returns : goal.returns
returns c =
    let l = c.loop-length in
    let i = l.length-index in
    let s = c.content.inside in
    let g = c.args.content.now in
    let b = g.buffers in
    let n : s.n ≡ g.n = ap (λ (h : Given). h.n) c.content.view_is in
    let used = length-take-le s.n s.lengths.now (omega arith) in
    along-done _ _ _ _ _ l.invariant.along (labels_end b.letters b.lengths g.n i l.sum (omega arith))
