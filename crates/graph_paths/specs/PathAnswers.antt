-- The edges that a path's steps are looked for among, and what its flags say once the paths were read.
use Rattle.std.specs.Prelude.{ℕ, List, [], Bool}
use Rattle.wire.specs.Found.{Found, good, fault, Part}
use Rattle.graph.specs.Content.{Edge}
use Rattle.graph.specs.Rules.{no_edge}
use Rattle.graph.specs.Reading.{edges_from}
use Rattle.graph_paths.specs.Marks.{Marks}

-- a part that was read
abbrev pub IsGood : {A : Type 0} → Found A → Type 0
IsGood (good a) = Unit {0}
IsGood (fault k place) = ⊥

-- the m edges of a graph of n vertices at a place of the file s were read
abbrev pub HasEdges : ℕ → ℕ → List ℕ → ℕ → Type 0
HasEdges n m s at = IsGood (edges_from n m no_edge s at)

-- the entries of a part that was read
abbrev pub entries : {A : Type 0} → Found (Part (List A)) → List A
entries (good p) = p.content
entries (fault k place) = []

-- these edges
abbrev pub edges_in : ℕ → ℕ → List ℕ → ℕ → List Edge
edges_in n m s at = entries (edges_from n m no_edge s at)

-- where the paths were read, the flags say which vertices are on them
abbrev pub Marked : List Bool → ℕ → Found (Part (List (List ℕ))) → Type 0
Marked flags n (good p) = Marks flags n p.content
Marked flags n (fault k place) = Unit {0}
