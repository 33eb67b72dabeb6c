use Prim.Native.Nat.{ℕ}
use mathlib.Core.Path.{ap, ◌∙◌}
use mathlib.Core.List.{List}
use native.Mathlib.Omega.{arith}
use Rattle.anchors.specs.AnchorRules.{label_of}
use Rattle.anchors_parts.specs.LabelTables.{content_of}
use Rattle.anchors_parts.proofs.LabelLaws.{labels_find, found_part}
use Rattle.anchors_parts.proofs.labels.Labels.letters.Goals as goal

pub bounds-starts-place : goal.bounds-starts-place
bounds-starts-place c =
    let i = c.self.inside in
    let f = labels_find i.graph.now c.args.self.now i.n i.starts.now i.lengths.now c.args.v c.self.invariant c.self.view_is c.requires.le_v.0 c.requires.le_v.1 in
    omega (arith, f.in_starts)

pub bounds-lengths-place : goal.bounds-lengths-place
bounds-lengths-place c =
    let i = c.self.inside in
    let f = labels_find i.graph.now c.args.self.now i.n i.starts.now i.lengths.now c.args.v c.self.invariant c.self.view_is c.requires.le_v.0 c.requires.le_v.1 in
    omega (arith, f.in_lengths)

pub slice_bounds-result-end : goal.slice_bounds-result-end
slice_bounds-result-end c =
    let i = c.self.inside in
    let f = labels_find i.graph.now c.args.self.now i.n i.starts.now i.lengths.now c.args.v c.self.invariant c.self.view_is c.requires.le_v.0 c.requires.le_v.1 in
    let w = f.within in
    omega arith

pub returns : goal.returns
returns c =
    let i = c.self.inside in
    let f = labels_find i.graph.now c.args.self.now i.n i.starts.now i.lengths.now c.args.v c.self.invariant c.self.view_is c.requires.le_v.0 c.requires.le_v.1 in
    found_part i.graph.now i.starts.now i.lengths.now c.args.v f
    ∙ ap (λ (s : List ℕ). label_of (content_of s) c.args.v) c.self.view_is
