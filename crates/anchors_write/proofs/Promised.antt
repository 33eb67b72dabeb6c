-- From the checks of the writer to its promise: what each way through it answers.
-- Assumes nothing.
use Prim.Native.Nat.{ℕ, ◌≤◌, ◌<◌}
use mathlib.Core.Path.{◌≡◌, ap, ◌∙◌}
use mathlib.Core.List.{List}
use mathlib.Core.Bool.{true, false}
use native.Mathlib.Omega.{arith}
use lib.ListN.{length}
use borrow.Author.Tests.{le-leb, lt-leb}
use Rattle.wire.specs.Found.{Found, good, fault, accepted, refused, in_file, on_accepted, refusal_number}
use Rattle.wire.specs.Lent.{front}
use Rattle.wire.specs.Refusals.{out_of_range, small_buffer, short_output, graph_file, anchor_file}
use Rattle.wire.specs.Sizes.{most_file_bytes}
use Rattle.graph.specs.Reading.{Parsed, graph_of}
use Rattle.graph_check.specs.Checked.{checked_of}
use Rattle.anchors.specs.Anchors.{AnchorSet}
use Rattle.anchors.specs.AnchorBytes.{encode_anchors}
use Rattle.anchors.specs.AnchorEntries.{AnchorsGiven, set_in, anchors_given, roomy_anchors, anchor_size_reply, write_anchors_reply}
use Rattle.anchors_parts.specs.LabelTables.{parsed_of, content_of, Accepts}
use Rattle.anchors_write.specs.declared.WrittenAnchors.{WrittenAnchors}
use Rattle.anchors_write.specs.Answer.{refused_with, Written}
use Rattle.anchors.proofs.FileOrder.{small-first, graph-before, content-next}
use Rattle.anchors.proofs.AnchorWriting.{content-refused, content-taken}

-- a fault that the check of the graph file answered was found
pub faulty : (x : Found Parsed) {k place : ℕ} → fault k place ≡ checked_of x → x ≡ fault k place
faulty (good p) e = let z : ◌≡◌ {A = ℕ} 0 1 = cc in absurd (omega arith)
faulty (fault k place) e = cc

module _ (c : AnchorsGiven) (graph out : List ℕ) (r : WrittenAnchors) where
  refused_written : (k f place : ℕ) → write_anchors_reply c graph (length out) ≡ refused k f place → r ≡ refused_with k f place
      → Written c graph out out r
  refused_written k f place h e = record { answer = e ∙ rw h; out = rw h }

  -- a buffer is below full size
  pub small_written : roomy_anchors c.buffers ≡ false → r ≡ refused_with small_buffer 0 0 → Written c graph out out r
  small_written h e = refused_written small_buffer 0 0 (small-first c graph (length out) h) e

  -- the graph file has a fault
  pub graph_written : (k place : ℕ) → roomy_anchors c.buffers ≡ true → graph_of graph ≡ fault k place → r ≡ refused_with k graph_file place
      → Written c graph out out r
  graph_written k place h g e = refused_written k graph_file place (graph-before c graph (length out) k place h g) e

  -- the graph file is accepted
  module _ (full : roomy_anchors c.buffers ≡ true) (a : Accepts graph) where
    over : write_anchors_reply c graph (length out)
        ≡ on_accepted (in_file anchor_file (anchors_given (content_of graph) c)) (anchor_size_reply (length out))
    unfolding content_of
    over = content-next c graph (length out) (parsed_of graph) full a

    -- the content has a fault
    pub content_written : (k : ℕ) → k ≡ refusal_number (anchors_given (content_of graph) c) → (k ≡ 0 → ⊥) → r ≡ refused_with k anchor_file 0
        → Written c graph out out r
    content_written k e n q = refused_written k anchor_file 0 (over ∙ rw (content-refused (content_of graph) c k e n)) q

    -- it has none: the size decides
    module _ (none : refusal_number (anchors_given (content_of graph) c) ≡ 0) where
      sized : write_anchors_reply c graph (length out) ≡ anchor_size_reply (length out) (set_in c)
      sized =
          over
          ∙ ap (λ (x : Found AnchorSet). on_accepted (in_file anchor_file x) (anchor_size_reply (length out))) (content-taken (content_of graph) c none)

      pub long_written : most_file_bytes < length (encode_anchors (set_in c)) → r ≡ refused_with out_of_range anchor_file most_file_bytes
          → Written c graph out out r
      unfolding anchor_size_reply
      long_written h e =
          refused_written out_of_range anchor_file most_file_bytes (sized ∙ simp (lt-leb (length (encode_anchors (set_in c))) most_file_bytes h)) e

      -- the file is not too long
      module _ (few : length (encode_anchors (set_in c)) ≤ most_file_bytes) where
        pub short_written : length out < length (encode_anchors (set_in c)) → r ≡ refused_with short_output 0 0 → Written c graph out out r
        unfolding anchor_size_reply
        short_written h e =
            refused_written short_output 0 0
            (sized
            ∙ simp (le-leb (length (encode_anchors (set_in c))) most_file_bytes few, lt-leb (length (encode_anchors (set_in c))) (length out) h))
            e

        pub done_written : (after : List ℕ) → length (encode_anchors (set_in c)) ≤ length out → after ≡ front (encode_anchors (set_in c)) out
            → r ≡ record { number = 0; file = 0; place = 0; bytes = length (encode_anchors (set_in c)) }
            → Written c graph out after r
        unfolding anchor_size_reply
        done_written after h e q =
            let s : write_anchors_reply c graph (length out) ≡ accepted (set_in c) =
            sized
            ∙ simp (le-leb (length (encode_anchors (set_in c))) most_file_bytes few, le-leb (length (encode_anchors (set_in c))) (length out) h) in
            record { answer = q ∙ rw s; out = e ∙ rw s }
