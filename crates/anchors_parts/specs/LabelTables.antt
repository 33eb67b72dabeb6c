-- Where the labels lie in an accepted graph file: what the check of an anchor file goes by.
use Rattle.std.specs.Prelude.{ℕ, ◌+◌, ◌≡◌, ◌<◌, List, [], ◌∷◌, length, get_or}
use Rattle.wire.specs.Found.{Found, good, fault}
use Rattle.wire.specs.Lent.{front}
use Rattle.wire.specs.Numbers.{encode}
use Rattle.graph.specs.Content.{Graph, vertex_count, lengths_of}
use Rattle.graph.specs.Reading.{Parsed, graph_of}

-- what was found, or else a
abbrev pub found_or : {A : Type 0} → A → Found A → A
found_or a (good b) = b
found_or a (fault k place) = a

-- no graph: it stands for the content of a file that is refused
abbrev pub no_graph : Parsed
no_graph = record { graph = record { labels = []; edges = []; paths = [] }; labels_at = 0; edges_at = 0; paths_at = 0 }

-- what reading the graph file s finds, and its content
unfoldable pub parsed_of : List ℕ → Parsed
parsed_of s = found_or no_graph (graph_of s)

unfoldable pub content_of : List ℕ → Graph
unfolding parsed_of
content_of s = (parsed_of s).graph

-- the file s is accepted
abbrev pub Accepts : List ℕ → Type 0
Accepts s = graph_of s ≡ good (parsed_of s)

-- where the letters of each label start, for labels that start at a place of the file: after the labels before it and its own length
unfoldable pub starts_of : ℕ → List (List ℕ) → List ℕ
starts_of at [] = []
starts_of at (l ∷ ls) =
    (at + length (encode (length l))) ∷ starts_of (at + length (encode (length l)) + length l) ls

-- the same of the graph file s
unfoldable pub starts_in : List ℕ → List ℕ
unfolding parsed_of content_of starts_of
starts_in s = starts_of (parsed_of s).labels_at (content_of s).labels

-- the graph file s is accepted, and its n labels start at the place `at`
pub record LabelsAt (s : List ℕ) (at n : ℕ) : Type 0 where
  pub accepted : Accepts s
  pub place : at ≡ (parsed_of s).labels_at
  pub count : n ≡ vertex_count (content_of s)

-- the graph file s is accepted and has n vertices, and the tables begin with where each label starts and how long it is
pub record LabelTables (s : List ℕ) (n : ℕ) (starts lengths : List ℕ) : Type 0 where
  pub accepted : Accepts s
  pub count : n ≡ vertex_count (content_of s)
  pub places : starts ≡ front (starts_in s) starts
  pub sizes : lengths ≡ front (lengths_of (content_of s)) lengths
