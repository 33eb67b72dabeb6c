use mathlib.Core.Path.{◌≡◌}
use native.Mathlib.Omega.{arith}
use Rattle.wire.specs.Sizes.{full_lengths}
use Rattle.wire_lent.proofs.Rooms.{room-long}
use Rattle.anchors_parts.proofs.LabelLaws.{few-vertices}
use Rattle.std.proofs.Common.{rules}
use Rattle.wire.specs.Found.{good}
use Rattle.graph.specs.Reading.{graph_of}
use Rattle.graph_check.specs.Checked.{checked_of}
use Rattle.anchors.specs.AnchorReading.{anchors_of}
use Rattle.anchors_parts.specs.LabelTables.{content_of}
use Rattle.anchors_check.specs.CheckedAnchors.{checked_anchors_of}
use Rattle.anchors_check.proofs.BothLaws.{graph-told, graph-refuses, anchors-refuse, both-told}
use Rattle.anchors_check.proofs.check_anchors.Goals as goal

pub returns-in_err-g : goal.returns-in_err-g
returns-in_err-g c = let f = graph-refuses c.args.graph.now c.args.file.now in search (rules, f, c.check_graph.ensures)

pub of-labels-requires-clause-labels_at : goal.of-labels-requires-clause-labels_at
of-labels-requires-clause-labels_at c =
    let e : good c.in_ok-g.g ≡ checked_of (graph_of c.args.graph.now) = search (rules, c.check_graph.ensures) in
    (graph-told c.args.graph.now e).labels

pub of-labels-requires-clause-room : goal.of-labels-requires-clause-room
of-labels-requires-clause-room c =
    let e : good c.in_ok-g.g ≡ checked_of (graph_of c.args.graph.now) = search (rules, c.check_graph.ensures) in
    let k = few-vertices _ _ _ (graph-told c.args.graph.now e).labels in
    (omega (arith, k, room-long full_lengths c.zeros-starts.ensures), omega (arith, k, room-long full_lengths c.zeros-lengths.ensures))

pub returns-in_err-a : goal.returns-in_err-a
returns-in_err-a c =
    let e : good c.in_ok-g.g ≡ checked_of (graph_of c.args.graph.now) = search (rules, c.check_graph.ensures) in
    let f = anchors-refuse c.args.graph.now c.args.file.now e in
    search (rules, f, c.check_over.ensures, c.of-labels.ensures)

pub returns : goal.returns
returns c =
    let e : good c.in_ok-g.g ≡ checked_of (graph_of c.args.graph.now) = search (rules, c.check_graph.ensures) in
    let f : good c.in_ok-a.a ≡ checked_anchors_of (anchors_of (content_of c.of-labels.result) c.args.file.now) = search (rules, c.check_over.ensures) in
    both-told c.args.graph.now c.args.file.now e (rw c.of-labels.ensures at f)
