use Rattle.std.proofs.Common.{arith}
use Rattle.graph.specs.Rules.{is_on}
use Rattle.graph_content.proofs.Flagging.{onward-one, onward-done, on_none}
use Rattle.graph_content.proofs.covered.mark_path.Goals as goal

pub mark-requires : goal.mark-requires
mark-requires c =
    let q = c.requires c.loop-vertex.vertex-index (omega arith) in
    (q.0, omega (arith, q.1, c.loop-vertex.invariant.long))

pub loop-vertex-preserved : goal.loop-vertex-preserved
loop-vertex-preserved c =
    let l = c.loop-vertex in
    let a = c.args in
    let q = c.requires l.vertex-index (omega arith) in
    rw c.mark.ensures (onward-one a.flags.now (is_on a.vertices.now) l.flags a.vertices.now l.vertex-index (omega arith) q.0 (omega (arith, q.1, l.invariant.long)) l.invariant)

pub returns : goal.returns
returns c = onward-done _ _ _ _ c.loop-vertex.invariant (λ v. on_none c.args.vertices.now c.loop-vertex.vertex-index v (omega arith))
