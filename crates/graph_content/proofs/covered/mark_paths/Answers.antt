use Rattle.std.proofs.Common.{◌≡◌, sym, ap, length, arith}
use Rattle.graph.specs.Entries.{Given, paths_in}
use Rattle.graph.specs.Rules.{is_on_any}
use Rattle.graph_content.proofs.Flagging.{onward-path, onward-done, any_none, path-vertices}
use Rattle.graph_content.proofs.covered.mark_paths.Goals as goal

pub path-requires : goal.path-requires
path-requires c =
    let k : c.content.inside.k ≡ c.args.content.now.k = ap (λ (h : Given). h.k) c.content.view_is in
    record { path_there = omega arith; within_room = c.requires.roomed.0 c.loop-i.i (omega arith) }

pub mark_path-requires : goal.mark_path-requires
mark_path-requires c =
    let l = c.loop-i in
    let g = c.args.content.now in
    let k : c.content.inside.k ≡ g.k = ap (λ (h : Given). h.k) c.content.view_is in
    rw c.path.ensures (path-vertices (length c.args.flags.now) (length l.flags) g.k l.i g.buffers.paths g.buffers.counts (omega arith) (sym l.invariant.long) c.requires.roomed.1)

pub loop-i-preserved : goal.loop-i-preserved
loop-i-preserved c =
    let l = c.loop-i in
    let g = c.args.content.now in
    let b = g.buffers in
    let k : c.content.inside.k ≡ g.k = ap (λ (h : Given). h.k) c.content.view_is in
    let f = rw c.path.ensures at c.mark_path.ensures in
    onward-path c.args.flags.now (is_on_any (paths_in g.k 0 b.paths b.counts)) l.flags c.mark_path.new.flags g.k l.i b.paths b.counts (omega arith) l.invariant f

pub returns : goal.returns
returns c =
    let g = c.args.content.now in
    let k : c.content.inside.k ≡ g.k = ap (λ (h : Given). h.k) c.content.view_is in
    onward-done _ _ _ _ c.loop-i.invariant (λ v. any_none g.k c.loop-i.i v g.buffers.paths g.buffers.counts (omega arith))
