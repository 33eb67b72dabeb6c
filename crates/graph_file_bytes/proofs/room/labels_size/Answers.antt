use Rattle.std.proofs.Common.{◌≡◌, ap, ◌∙◌, take, slice_index, arith}
use Rattle.std.proofs.lemmas.List.{get_or-take, length-take-le}
use Rattle.wire.proofs.Encoding.{encode_most}
use Rattle.graph.specs.Entries.{Given}
use Rattle.graph_content.proofs.Encoded.{size-next, size_end}
use Rattle.graph_file_bytes.proofs.room.labels_size.Goals as goal

pub overflow_add-total : goal.overflow_add-total
overflow_add-total c =
    let l = c.loop-length in
    let i = l.length-index in
    let s = c.content.inside in
    let g = c.args.content.now in
    let n : s.n ≡ g.n = ap (λ (h : Given). h.n) c.content.view_is in
    let used = length-take-le s.n s.lengths.now (omega arith) in
    let x = slice_index (take s.n s.lengths.now) i in
    let own : x ≡ slice_index s.lengths.now i = get_or-take s.n s.lengths.now i 0 (omega arith) in
    let le : x ≡ slice_index g.buffers.lengths i = own ∙ ap (λ (h : Given). slice_index h.buffers.lengths i) c.content.view_is in
    let b = encode_most x in
    let w = c.content.invariant.1.lengths i in
    omega arith

pub overflow_add-total-in-loop-length : goal.overflow_add-total-in-loop-length
overflow_add-total-in-loop-length c =
    let l = c.loop-length in
    let i = l.length-index in
    let s = c.content.inside in
    let g = c.args.content.now in
    let n : s.n ≡ g.n = ap (λ (h : Given). h.n) c.content.view_is in
    let used = length-take-le s.n s.lengths.now (omega arith) in
    let x = slice_index (take s.n s.lengths.now) i in
    let own : x ≡ slice_index s.lengths.now i = get_or-take s.n s.lengths.now i 0 (omega arith) in
    let le : x ≡ slice_index g.buffers.lengths i = own ∙ ap (λ (h : Given). slice_index h.buffers.lengths i) c.content.view_is in
    let b = encode_most x in
    let w = c.content.invariant.1.lengths i in
    omega arith

pub loop-length-preserved : goal.loop-length-preserved
loop-length-preserved c =
    let l = c.loop-length in
    let i = l.length-index in
    let s = c.content.inside in
    let g = c.args.content.now in
    let n : s.n ≡ g.n = ap (λ (h : Given). h.n) c.content.view_is in
    let used = length-take-le s.n s.lengths.now (omega arith) in
    let x = slice_index (take s.n s.lengths.now) i in
    let own : x ≡ slice_index s.lengths.now i = get_or-take s.n s.lengths.now i 0 (omega arith) in
    let le : x ≡ slice_index g.buffers.lengths i = own ∙ ap (λ (h : Given). slice_index h.buffers.lengths i) c.content.view_is in
    let b = encode_most x in
    let w = c.content.invariant.1.lengths i in
    let e = size-next g.buffers.lengths g.n i (omega arith) in
    let f = rw (← le) at e in
    (omega arith, omega arith)

pub returns : goal.returns
returns c =
    let l = c.loop-length in
    let i = l.length-index in
    let s = c.content.inside in
    let g = c.args.content.now in
    let n : s.n ≡ g.n = ap (λ (h : Given). h.n) c.content.view_is in
    let used = length-take-le s.n s.lengths.now (omega arith) in
    let e = size_end g.buffers.lengths g.n i (omega arith) in
    (omega arith, omega arith)
