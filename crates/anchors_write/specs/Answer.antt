-- What the anchor writer answers, and what its output holds afterwards.
use Rattle.std.specs.Prelude.{ℕ, ◌≡◌, List, length}
use Rattle.std.proofs.Common.{sym, ◌∙◌}
use Rattle.wire.specs.Found.{Reply, accepted, refused}
use Rattle.anchors.specs.Anchors.{AnchorSet}
use Rattle.anchors.specs.AnchorBytes.{encode_anchors}
use Rattle.anchors.specs.AnchorEntries.{AnchorsGiven, write_anchors_reply, write_anchors_after}
use Rattle.anchors_write.specs.declared.WrittenAnchors.{WrittenAnchors}

-- a refusal
abbrev pub refused_with : ℕ → ℕ → ℕ → WrittenAnchors
refused_with k file place = record { number = k; file = file; place = place; bytes = 0 }

-- "Each answer holds the number, the file (1 graph, 2 anchors) and the place; an acceptance has 0 in all three. No refusal writes
-- anything, and its other numbers (rounds, score, lengths) are 0." The other number here is how many bytes were written.
abbrev pub written_of : Reply AnchorSet → WrittenAnchors
written_of (accepted a) = record { number = 0; file = 0; place = 0; bytes = length (encode_anchors a) }
written_of (refused k file place) = refused_with k file place

-- the answer r and the output after it, for content c over a graph file, and an output that held `before`
pub record Written (c : AnchorsGiven) (graph before after : List ℕ) (r : WrittenAnchors) : Type 0 where
  pub answer : r ≡ written_of (write_anchors_reply c graph (length before))
  pub out : after ≡ write_anchors_after (write_anchors_reply c graph (length before)) before

-- the contract admits one answer and one output
pub one_answer : (c : AnchorsGiven) (graph before a b : List ℕ) (r s : WrittenAnchors)
    → Written c graph before a r → Written c graph before b s → (r ≡ s) × (a ≡ b)
one_answer c graph before a b r s h k = (h.answer ∙ sym k.answer, h.out ∙ sym k.out)
