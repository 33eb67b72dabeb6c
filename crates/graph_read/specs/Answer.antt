-- What the reader of a graph file promises: its answer, and every place of the lent buffers.
use Rattle.std.specs.Prelude.{ℕ, ◌≡◌, List, length}
use Rattle.std.proofs.Common.{sym, ◌∙◌}
use Rattle.wire.specs.Found.{Reply, accepted, refused}
use Rattle.graph.specs.Content.{vertex_count, edge_count, path_count, letters_of}
use Rattle.graph.specs.Reading.{Parsed}
use Rattle.graph.specs.Entries.{Buffers, read_reply, read_after}
use Rattle.graph_check.specs.declared.Sections.{Sections}
use Rattle.graph_read.specs.declared.GraphAnswer.{GraphAnswer}

-- "Each answer holds the number, the file (1 graph, 2 anchors) and the place; an acceptance has 0 in all three." An acceptance has the
-- counts of the content; of a refusal, "its other numbers (rounds, score, lengths) are 0".
abbrev pub answer_of : Reply Parsed → GraphAnswer
answer_of (accepted p) = record {
  number = 0;
  file = 0;
  place = 0;
  vertices = vertex_count p.graph;
  letters = length (letters_of p.graph);
  edges = edge_count p.graph;
  paths = path_count p.graph;
}
answer_of (refused k file place) = record { number = k; file = file; place = place; vertices = 0; letters = 0; edges = 0; paths = 0 }

-- the same for the sections of an accepted file
abbrev pub counts_answer : Sections → GraphAnswer
counts_answer s = record { number = 0; file = 0; place = 0; vertices = s.n; letters = s.letters; edges = s.m; paths = s.k }

-- the reader's promise: b and `after` are the lent buffers before and after the call, r is the answer
pub record Answered (file : List ℕ) (b after : Buffers) (r : GraphAnswer) : Type 0 where
  pub answer : r ≡ answer_of (read_reply file b)
  pub buffers : after ≡ read_after (read_reply file b) b

-- it admits one answer, and one content of every buffer
pub one_answer : (file : List ℕ) (b x y : Buffers) (r q : GraphAnswer) → Answered file b x r → Answered file b y q → (r ≡ q) × (x ≡ y)
one_answer file b x y r q h k = (h.answer ∙ sym k.answer, h.buffers ∙ sym k.buffers)
