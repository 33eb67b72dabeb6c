-- The view of an anchor's letters: which part of which file.
use Rattle.std.specs.Prelude.{ℕ, ◌+◌, ◌-◌, List, ◌&&◌, length, get_or, take, drop, leb, eqb}
use Rattle.wire.specs.Cases.{pick}
use Rattle.wire.specs.Found.{Reply, accepted, refused}
use Rattle.wire.specs.Numbers.{encode}
use Rattle.wire.specs.Refusals.{graph_file, anchor_file}
use Rattle.graph.specs.Encode.{encode_labels}
use Rattle.anchors.specs.Anchors.{Anchor, anchor_count}
use Rattle.anchors.specs.AnchorRules.{label_of, no_anchor}
use Rattle.anchors.specs.AnchorEntries.{Both, both_reply}

-- a part of a file: where it starts and how long it is, in the file named
pub record View : Type 0 where
  pub file : ℕ
  pub start : ℕ
  pub len : ℕ

-- "the empty part at the front of the graph file"
abbrev pub empty_view : View
empty_view = record { file = graph_file; start = 0; len = 0 }

-- anchor number j, "All numbering is from 1"
abbrev pub anchor_numbered : Both → ℕ → Anchor
anchor_numbered p j = get_or p.anchors.set.anchors (j - 1) no_anchor

-- where the letters of vertex v's label start in the graph file: after the labels before it and its own length
unfoldable pub label_start : Both → ℕ → ℕ
label_start p v =
    p.graph.labels_at
    + length (encode_labels (take (v - 1) p.graph.graph.labels))
    + length (encode (length (label_of p.graph.graph v)))

-- the letters x..y of the label, in the graph file
abbrev pub label_view : Both → Anchor → View
label_view p a = record { file = graph_file; start = label_start p a.v + (a.x - 1); len = a.len }

-- the letters c..d of the read, in the anchor file
abbrev pub read_view : Both → Anchor → View
read_view p a = record { file = anchor_file; start = p.anchors.read_at + (a.c - 1); len = a.len }

-- the view of anchor number j in the file named, "1 or 2"; empty "exactly when .. the anchor's number is not 1 to N, or the file named is neither"
unfoldable pub view_in : Both → ℕ → ℕ → View
view_in p j file =
    pick (◌&&◌ (leb 1 j) (leb j (anchor_count p.anchors.set)))
    (pick (eqb file graph_file) (label_view p (anchor_numbered p j))
    (pick (eqb file anchor_file) (read_view p (anchor_numbered p j)) empty_view))
    empty_view

-- .. and when a file is refused
abbrev pub view_of : Reply Both → ℕ → ℕ → View
view_of (accepted p) j file = view_in p j file
view_of (refused k f place) j file = empty_view

-- the bytes of a view
abbrev pub bytes_of : View → List ℕ → List ℕ → List ℕ
bytes_of w graph anchors = take w.len (drop w.start (pick (eqb w.file graph_file) graph anchors))

-- "The letters of one anchor are handed back as they stand in whichever of the two files the caller names, 1 or 2"
unfoldable pub letters_view : List ℕ → List ℕ → ℕ → ℕ → List ℕ
letters_view graph anchors j file = bytes_of (view_of (both_reply graph anchors) j file) graph anchors
