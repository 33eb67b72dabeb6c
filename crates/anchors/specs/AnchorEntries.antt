-- What the entries on both files reply, and what the lent buffers hold afterwards, in every case.
use Rattle.std.specs.Prelude.{ℕ, zero, suc, ◌+◌, ◌*◌, List, [], ◌∷◌, Bool, ◌&&◌, length, get_or, leb}
use Rattle.wire.specs.Cases.{pick}
use Rattle.wire.specs.Found.{Found, as_content, Reply, accepted, refused, in_file, on_accepted}
use Rattle.wire.specs.Lent.{laid, front}
use Rattle.wire.specs.Refusals.{out_of_range, small_buffer, short_output, graph_file, anchor_file}
use Rattle.wire.specs.Sizes.{most_file_bytes, full_letters, full_anchors}
use Rattle.graph.specs.Content.{Graph}
use Rattle.graph.specs.Reading.{Parsed, graph_of}
use Rattle.graph.specs.Entries.{numbers_in}
use Rattle.anchors.specs.Anchors.{Anchor, AnchorSet, per_anchor, anchor_numbers}
use Rattle.anchors.specs.AnchorBytes.{encode_anchors}
use Rattle.anchors.specs.AnchorReading.{ParsedAnchors, whole_anchors, anchors_of}

-- ---- both files

-- both files, accepted
pub record Both : Type 0 where
  pub graph : Parsed
  pub anchors : ParsedAnchors

-- "A call on both files takes the whole graph file first."
unfoldable pub both_reply : List ℕ → List ℕ → Reply Both
both_reply graph file =
    on_accepted (in_file graph_file (graph_of graph)) (λ p.
    on_accepted (in_file anchor_file (anchors_of p.graph file)) (λ q. accepted (record { graph = p; anchors = q })))

-- ---- the reader

-- the lent buffers of an anchor file
pub record AnchorBuffers : Type 0 where
  pub letters : List ℕ
  pub anchors : List ℕ

-- full size, by the lengths of the buffers: "letters 32,768", "anchors 10,240 numbers"
abbrev pub room_for_anchors : ℕ → ℕ → Bool
room_for_anchors letters anchors = ◌&&◌ (leb full_letters letters) (leb full_anchors anchors)

-- each has full size
unfoldable pub roomy_anchors : AnchorBuffers → Bool
roomy_anchors b = room_for_anchors (length b.letters) (length b.anchors)

-- 13, then both files
unfoldable pub read_anchors_reply : List ℕ → List ℕ → AnchorBuffers → Reply Both
read_anchors_reply graph file b = pick (roomy_anchors b) (both_reply graph file) (refused small_buffer 0 0)

-- the buffers with an anchor file's content
unfoldable pub filled_anchors : AnchorSet → AnchorBuffers → AnchorBuffers
filled_anchors a b = record {
  letters = laid full_letters a.read b.letters;
  anchors = laid full_anchors (anchor_numbers a.anchors) b.anchors;
}

-- "No refusal writes anything"; an acceptance leaves the content
abbrev pub read_anchors_after : Reply Both → AnchorBuffers → AnchorBuffers
read_anchors_after (accepted p) b = filled_anchors p.anchors.set b
read_anchors_after (refused k file place) b = b

-- ---- the writer

-- content as a caller gives it: r, N, and the buffers, of which only the used places are looked at
pub record AnchorsGiven : Type 0 where
  pub r : ℕ
  pub n : ℕ
  pub buffers : AnchorBuffers

-- anchor i of the anchors' numbers, counted from 0
abbrev pub anchor_in : List ℕ → ℕ → Anchor
anchor_in numbers i = record {
  v = get_or numbers (per_anchor * i) 0;
  x = get_or numbers (per_anchor * i + 1) 0;
  c = get_or numbers (per_anchor * i + 2) 0;
  len = get_or numbers (per_anchor * i + 3) 0;
  weight = get_or numbers (per_anchor * i + 4) 0;
}

-- the anchors, `left` of them, from anchor i on
unfoldable pub anchors_in : ℕ → ℕ → List ℕ → List Anchor
anchors_in zero i numbers = []
anchors_in (suc left) i numbers = anchor_in numbers i ∷ anchors_in left (i + 1) numbers

-- the read and the anchors in the used places, taken without any test: "Content means the used places."
abbrev pub set_in : AnchorsGiven → AnchorSet
set_in c = record {
  read = numbers_in c.r 0 c.buffers.letters;
  anchors = anchors_in c.n 0 c.buffers.anchors;
}

-- the content that is given, or its first fault: "4 to 9, 11 and 12 as the reader would for that content (with place 0 for faults of the content)"
unfoldable pub anchors_given : Graph → AnchorsGiven → Found AnchorSet
anchors_given g c = as_content (λ q. q.set) (whole_anchors g (encode_anchors (set_in c)))

-- "then 4 with place 65,536 if the file would pass 65,536 bytes, then 14, which is given exactly if the encoding is longer than the room"
unfoldable pub anchor_size_reply : ℕ → AnchorSet → Reply AnchorSet
anchor_size_reply room a =
    pick (leb (length (encode_anchors a)) most_file_bytes)
    (pick (leb (length (encode_anchors a)) room) (accepted a) (refused short_output 0 0))
    (refused out_of_range anchor_file most_file_bytes)

-- "the anchor writer takes content and the graph file's bytes, which are checked right after 13"; then the content, then the size
unfoldable pub write_anchors_reply : AnchorsGiven → List ℕ → ℕ → Reply AnchorSet
write_anchors_reply c graph room =
    pick (roomy_anchors c.buffers)
    (on_accepted (in_file graph_file (graph_of graph)) (λ p.
    on_accepted (in_file anchor_file (anchors_given p.graph c)) (anchor_size_reply room)))
    (refused small_buffer 0 0)

-- the output: the encoding at its front, or as it was
abbrev pub write_anchors_after : Reply AnchorSet → List ℕ → List ℕ
write_anchors_after (accepted a) out = front (encode_anchors a) out
write_anchors_after (refused k file place) out = out
