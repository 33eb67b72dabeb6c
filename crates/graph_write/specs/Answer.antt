-- What the graph writer answers, and what its output holds afterwards.
use Rattle.std.specs.Prelude.{ℕ, ◌≡◌, List, length}
use Rattle.std.proofs.Common.{sym, ◌∙◌}
use Rattle.wire.specs.Found.{Reply, accepted, refused}
use Rattle.graph.specs.Content.{Graph}
use Rattle.graph.specs.Encode.{encode_graph}
use Rattle.graph.specs.Entries.{Given, write_reply, write_after}
use Rattle.graph_write.specs.declared.WrittenAnswer.{WrittenAnswer}

-- a refusal
abbrev pub refused_with : ℕ → ℕ → ℕ → WrittenAnswer
refused_with k file place = record { number = k; file = file; place = place; bytes = 0 }

-- "Each answer holds the number, the file (1 graph, 2 anchors) and the place; an acceptance has 0 in all three. No refusal writes
-- anything, and its other numbers (rounds, score, lengths) are 0." The other number here is how many bytes were written.
abbrev pub written_of : Reply Graph → WrittenAnswer
written_of (accepted g) = record { number = 0; file = 0; place = 0; bytes = length (encode_graph g) }
written_of (refused k file place) = refused_with k file place

-- the answer r and the output after it, for content c and an output that held `before` and has `room` bytes
pub record Written (c : Given) (room : ℕ) (before after : List ℕ) (r : WrittenAnswer) : Type 0 where
  pub answer : r ≡ written_of (write_reply c room)
  pub out : after ≡ write_after (write_reply c room) before

-- the contract admits one answer and one output
pub one_answer : (c : Given) (room : ℕ) (before a b : List ℕ) (r s : WrittenAnswer)
    → Written c room before a r → Written c room before b s → (r ≡ s) × (a ≡ b)
one_answer c room before a b r s h k = (h.answer ∙ sym k.answer, h.out ∙ sym k.out)
