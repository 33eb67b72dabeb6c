use Rattle.std.proofs.Common.{◌≡◌, ap, ◌∙◌, length, arith}
use Rattle.graph.specs.Entries.{Given}
use Rattle.graph_content.proofs.Encoded.{length-numbers, path-next, paths_end}
use Rattle.graph_bytes.proofs.Along.{along_as, along_lent, along-more, along-done}
use Rattle.graph_bytes.proofs.puts.put_paths.Goals as goal

pub overflow_cast-path : goal.overflow_cast-path
overflow_cast-path c =
    let g = c.args.content.now in
    let few = c.requires.roomed.1 c.loop-i.i (omega (arith, ap (λ (h : Given). h.k) c.content.view_is)) in
    omega (arith, ap length c.path-path.ensures ∙ length-numbers _ _ g.buffers.paths)

pub put_number-at-requires : goal.put_number-at-requires
put_number-at-requires c =
    let g = c.args.content.now in
    let l = c.loop-i in
    let k : c.content.inside.k ≡ g.k = ap (λ (h : Given). h.k) c.content.view_is in
    let next = along_as _ (path-next g.buffers.paths g.buffers.counts g.k l.i _ c.path-path.ensures (omega arith)) l.invariant in
    along_lent _ _ _ _ _ _ next

pub put_numbers-at-requires : goal.put_numbers-at-requires
put_numbers-at-requires c =
    let g = c.args.content.now in
    let l = c.loop-i in
    let k : c.content.inside.k ≡ g.k = ap (λ (h : Given). h.k) c.content.view_is in
    let next = along_as _ (path-next g.buffers.paths g.buffers.counts g.k l.i _ c.path-path.ensures (omega arith)) l.invariant in
    let p = c.put_number-at in
    let after = along-more _ _ _ _ l.out p.new.out l.at p.result next p.ensures.0 p.ensures.1 in
    along_lent _ _ _ _ _ _ after

pub loop-i-preserved : goal.loop-i-preserved
loop-i-preserved c =
    let g = c.args.content.now in
    let l = c.loop-i in
    let k : c.content.inside.k ≡ g.k = ap (λ (h : Given). h.k) c.content.view_is in
    let next = along_as _ (path-next g.buffers.paths g.buffers.counts g.k l.i _ c.path-path.ensures (omega arith)) l.invariant in
    let p = c.put_number-at in
    let q = c.put_numbers-at in
    let after = along-more _ _ _ _ l.out p.new.out l.at p.result next p.ensures.0 p.ensures.1 in
    along-more _ _ _ _ _ q.new.out _ q.result after q.ensures.0 q.ensures.1

pub returns : goal.returns
returns c =
    let g = c.args.content.now in
    let k : c.content.inside.k ≡ g.k = ap (λ (h : Given). h.k) c.content.view_is in
    along-done _ _ _ _ _ c.loop-i.invariant (paths_end g.buffers.paths g.buffers.counts g.k c.loop-i.i (omega arith))
