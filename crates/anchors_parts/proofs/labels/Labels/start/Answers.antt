use native.Mathlib.Omega.{arith}
use Rattle.anchors_parts.proofs.LabelLaws.{labels_find, start_found}
use Rattle.anchors_parts.proofs.labels.Labels.start.Goals as goal

pub bounds-starts-v : goal.bounds-starts-v
bounds-starts-v c =
    let i = c.self.inside in
    let f = labels_find i.graph.now c.args.self.now i.n i.starts.now i.lengths.now c.args.v c.self.invariant c.self.view_is c.requires.le_v.0 c.requires.le_v.1 in
    omega (arith, f.in_starts)

pub returns : goal.returns
returns c =
    let i = c.self.inside in
    start_found i.graph.now c.args.self.now i.n i.starts.now i.lengths.now c.args.v c.self.invariant.1 c.self.view_is c.requires.le_v.0 c.requires.le_v.1
