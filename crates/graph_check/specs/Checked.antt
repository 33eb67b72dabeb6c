-- What the check of a graph file answers: "If the answer is an enum, a definition gives this paper's number and values for each of its cases."
use Rattle.std.specs.Prelude.{ℕ, ◌≡◌, length}
use mathlib.Core.List.{List, flatten}
use Rattle.wire.specs.Found.{Found, good, fault}
use Rattle.wire.specs.Sizes.{graph_kind}
use Rattle.graph.specs.Content.{vertex_count, edge_count, path_count, letters_of}
use Rattle.graph.specs.Reading.{Front, front_of, Parsed}
use Rattle.graph_check.specs.declared.Head.{Head}
use Rattle.graph_check.specs.declared.Sections.{Sections}

-- the counts of an accepted file, and where its sections start
abbrev pub sections_of : Parsed → Sections
sections_of p = record {
  n = vertex_count p.graph;
  letters = length (letters_of p.graph);
  labels = p.labels_at;
  m = edge_count p.graph;
  edges = p.edges_at;
  k = path_count p.graph;
  paths = p.paths_at;
}

-- the sections of an accepted file, or the fault's number and place
abbrev pub checked_of : Found Parsed → Found Sections
checked_of (good p) = good (sections_of p)
checked_of (fault k place) = fault k place

-- the counts and places of a file up to its edges
abbrev pub head_of : Front → Head
head_of f = record {
  n = length f.labels;
  letters = length (flatten f.labels);
  labels = f.labels_at;
  m = length f.edges;
  edges = f.edges_at;
  next = record { at = f.next };
}

-- the file s was read up to its edges, and `head` is what was found
pub record HasHead (s : List ℕ) (head : Head) : Type 0 where
  pub front : Front
  pub reads : front_of graph_kind s ≡ good front
  pub same : head ≡ head_of front
