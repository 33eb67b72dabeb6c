-- What the entry `tables` promises: its answer, and every place of the lent buffers.
use Rattle.std.specs.Prelude.{ℕ, ◌≡◌, List}
use Rattle.wire.specs.Found.{Reply, accepted, refused}
use Rattle.graph.specs.Content.{Graph, vertex_count, path_count}
use Rattle.graph.specs.Reading.{Parsed}
use Rattle.cover.specs.TableEntries.{Tables, IsTables, TableBuffers, tables_reply, filled_tables}
use Rattle.tables.specs.declared.TablesAnswer.{TablesAnswer}

-- "Each answer holds the number, the file (1 graph, 2 anchors) and the place"; of a refusal, "its other numbers (rounds, score, lengths) are 0"
abbrev pub refusal_of : ℕ → ℕ → ℕ → TablesAnswer
refusal_of k file place = record { number = k; file = file; place = place; vertices = 0; paths = 0; reachrounds = 0; distancerounds = 0 }

-- "an acceptance has 0 in all three"; it has n, K and the rounds: "Each count is reported"
abbrev pub acceptance_of : Graph → Tables → TablesAnswer
acceptance_of g t = record {
  number = 0;
  file = 0;
  place = 0;
  vertices = vertex_count g;
  paths = path_count g;
  reachrounds = t.reach_rounds;
  distancerounds = t.distance_rounds;
}

-- the tables of an accepted graph are in the buffers, and their counts in the answer
pub record Tabled (g : Graph) (b after : TableBuffers) (r : TablesAnswer) : Type 0 where
  pub tables : Tables
  pub are : IsTables g tables
  pub buffers : after ≡ filled_tables tables b
  pub answer : r ≡ acceptance_of g tables

-- "No refusal writes anything"
pub record Untabled (k file place : ℕ) (b after : TableBuffers) (r : TablesAnswer) : Type 0 where
  pub buffers : after ≡ b
  pub answer : r ≡ refusal_of k file place

-- by the reply
abbrev pub Outcome : Reply Parsed → TableBuffers → TableBuffers → TablesAnswer → Type 0
Outcome (accepted p) b after r = Tabled p.graph b after r
Outcome (refused k file place) b after r = Untabled k file place b after r

-- the promise: b and `after` are the lent buffers before and after the call, r is the answer
pub record Answered (file : List ℕ) (b after : TableBuffers) (r : TablesAnswer) : Type 0 where
  pub outcome : Outcome (tables_reply file b) b after r
