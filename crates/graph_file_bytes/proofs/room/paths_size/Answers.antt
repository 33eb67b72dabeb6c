use Rattle.std.proofs.Common.{◌≡◌, ◌≤◌, ap, ◌∙◌, length, length-append, arith}
use Rattle.wire.proofs.Encoding.{encode_most}
use Rattle.graph.specs.Entries.{Given}
use Rattle.graph_content.proofs.Encoded.{length-numbers, numbers_most, path-next, paths_end}
use Rattle.graph_file_bytes.proofs.room.paths_size.Goals as goal

pub overflow_cast-path : goal.overflow_cast-path
overflow_cast-path c =
    let l = c.loop-i in
    let g = c.args.content.now in
    let b = g.buffers in
    let k : c.content.inside.k ≡ g.k = ap (λ (h : Given). h.k) c.content.view_is in
    let p = c.path-path.result.now in
    let few : length p ≤ 1024 = omega (arith, ap length c.path-path.ensures ∙ length-numbers _ _ b.paths, c.requires.1 l.i (omega arith)) in
    omega (arith, few)

pub overflow_add-total : goal.overflow_add-total
overflow_add-total c =
    let l = c.loop-i in
    let g = c.args.content.now in
    let b = g.buffers in
    let k : c.content.inside.k ≡ g.k = ap (λ (h : Given). h.k) c.content.view_is in
    let p = c.path-path.result.now in
    let few : length p ≤ 1024 = omega (arith, ap length c.path-path.ensures ∙ length-numbers _ _ b.paths, c.requires.1 l.i (omega arith)) in
    let h = encode_most (length p) in
    let m = numbers_most p in
    omega (arith, few)

pub overflow_add-total-in-loop-i : goal.overflow_add-total-in-loop-i
overflow_add-total-in-loop-i c =
    let l = c.loop-i in
    let g = c.args.content.now in
    let b = g.buffers in
    let k : c.content.inside.k ≡ g.k = ap (λ (h : Given). h.k) c.content.view_is in
    let p = c.path-path.result.now in
    let few : length p ≤ 1024 = omega (arith, ap length c.path-path.ensures ∙ length-numbers _ _ b.paths, c.requires.1 l.i (omega arith)) in
    let h = encode_most (length p) in
    let m = numbers_most p in
    omega (arith, few)

pub loop-i-preserved : goal.loop-i-preserved
loop-i-preserved c =
    let l = c.loop-i in
    let g = c.args.content.now in
    let b = g.buffers in
    let k : c.content.inside.k ≡ g.k = ap (λ (h : Given). h.k) c.content.view_is in
    let p = c.path-path.result.now in
    let few : length p ≤ 1024 = omega (arith, ap length c.path-path.ensures ∙ length-numbers _ _ b.paths, c.requires.1 l.i (omega arith)) in
    let h = encode_most (length p) in
    let m = numbers_most p in
    let e = simp length-append at (ap length (path-next b.paths b.counts g.k l.i p c.path-path.ensures (omega arith))) in
    (omega arith, omega arith)

pub returns : goal.returns
returns c =
    let l = c.loop-i in
    let g = c.args.content.now in
    let b = g.buffers in
    let k : c.content.inside.k ≡ g.k = ap (λ (h : Given). h.k) c.content.view_is in
    let e = ap length (paths_end b.paths b.counts g.k l.i (omega arith)) in
    (omega arith, omega arith)
