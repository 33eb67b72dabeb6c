-- An accepted graph, and that it lies in buffers with its tables.
use Rattle.std.specs.Prelude.{ℕ, ◌*◌, ◌≡◌, List, take}
use Rattle.wire.specs.Found.{good}
use Rattle.wire.specs.Sizes.{table_row}
use Rattle.graph.specs.Content.{Graph}
use Rattle.graph.specs.Reading.{Parsed, graph_of}
use Rattle.graph_read.specs.declared.GraphAnswer.{GraphAnswer}
use Rattle.placing_over.specs.Lying.{TablesLie}

-- some graph is accepted
pub record SomeGraph (graph : List ℕ) : Type 0 where
  pub parsed : Parsed
  pub found : graph_of graph ≡ good parsed

-- the graph lies there, with its tables at the front of their buffers, by the numbers of the reader's answer
abbrev pub Ready : Graph → List ℕ → List ℕ → List ℕ → List ℕ → List ℕ → GraphAnswer → Type 0
Ready g lengths paths reach distance closed r =
    TablesLie g r.vertices r.paths lengths paths (take (table_row * r.vertices) reach) (take (table_row * r.vertices) distance) (take r.vertices closed)
