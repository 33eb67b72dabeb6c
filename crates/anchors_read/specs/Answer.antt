-- What the reader of an anchor file promises: its answer, and every place of the lent buffers.
use Rattle.std.specs.Prelude.{ℕ, ◌≡◌, List}
use Rattle.std.proofs.Common.{sym, ◌∙◌}
use Rattle.wire.specs.Found.{Reply, accepted, refused}
use Rattle.anchors.specs.Anchors.{read_length, anchor_count}
use Rattle.anchors.specs.AnchorEntries.{Both, AnchorBuffers, read_anchors_reply, read_anchors_after}
use Rattle.anchors_check.specs.declared.AnchorSections.{AnchorSections}
use Rattle.anchors_read.specs.declared.AnchorsAnswer.{AnchorsAnswer}

-- "Each answer holds the number, the file (1 graph, 2 anchors) and the place; an acceptance has 0 in all three." An acceptance has r and N;
-- of a refusal, "its other numbers (rounds, score, lengths) are 0".
abbrev pub answer_of : Reply Both → AnchorsAnswer
answer_of (accepted p) = record {
  number = 0;
  file = 0;
  place = 0;
  letters = read_length p.anchors.set;
  anchors = anchor_count p.anchors.set;
}
answer_of (refused k file place) = record { number = k; file = file; place = place; letters = 0; anchors = 0 }

-- the same for the sections of an accepted anchor file
abbrev pub counts_answer : AnchorSections → AnchorsAnswer
counts_answer a = record { number = 0; file = 0; place = 0; letters = a.r; anchors = a.n }

-- the reader's promise: b and `after` are the lent buffers before and after the call, r is the answer
pub record Answered (graph file : List ℕ) (b after : AnchorBuffers) (r : AnchorsAnswer) : Type 0 where
  pub answer : r ≡ answer_of (read_anchors_reply graph file b)
  pub buffers : after ≡ read_anchors_after (read_anchors_reply graph file b) b

-- it admits one answer, and one content of every buffer
pub one_answer : (graph file : List ℕ) (b x y : AnchorBuffers) (r q : AnchorsAnswer) → Answered graph file b x r → Answered graph file b y q
    → (r ≡ q) × (x ≡ y)
one_answer graph file b x y r q h k = (h.answer ∙ sym k.answer, h.buffers ∙ sym k.buffers)
