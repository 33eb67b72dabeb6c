use Rattle.std.proofs.Common.{◌≡◌, ◌-◌, take}
use Rattle.anchors.specs.AnchorRules.{no_anchor}
use Rattle.anchors_parts.specs.LabelTables.{content_of}
use Rattle.anchors_rules.specs.OneAnchor.{anchor_of}
use Rattle.anchors_content.specs.FirstFaults.{each_fault}
use Rattle.anchors_content.proofs.content.each_fault.Given as goal

abbrev pub invariant-loop-i : goal.invariant-loop-i
invariant-loop-i l =
    let g = l.content in
    let read = take g.r g.buffers.letters in
    each_fault (content_of l.labels) read g.n 0 no_anchor g.buffers.anchors
    ≡ each_fault (content_of l.labels) read (g.n - l.i) l.i (anchor_of l.last) g.buffers.anchors
