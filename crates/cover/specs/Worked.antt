-- The graphs of document 01's worked cases, and their tables.
use Rattle.std.specs.Prelude.{ℕ, List, [], ◌∷◌, ◌++◌, replicate}
use Rattle.graph.specs.Content.{Graph}
use Rattle.cover.specs.TableEntries.{Tables}

-- a row of a table with two paths at most
abbrev pub two : ℕ → ℕ → List ℕ
two a b = a ∷ b ∷ replicate 14 0

-- "Graph G1, hex: 01 04 02 41 43 01 47 02 54 54 02 43 41 04 01 02 01 03 02 04 03 04 02 03 01 02 04 03 01 03 04."
abbrev pub g1 : Graph
g1 = record {
  labels = (0x41 ∷ 0x43 ∷ []) ∷ (0x47 ∷ []) ∷ (0x54 ∷ 0x54 ∷ []) ∷ (0x43 ∷ 0x41 ∷ []) ∷ [];
  edges = record { from = 1; to = 2 } ∷ record { from = 1; to = 3 } ∷ record { from = 2; to = 4 } ∷ record { from = 3; to = 4 } ∷ [];
  paths = (1 ∷ 2 ∷ 4 ∷ []) ∷ (1 ∷ 3 ∷ 4 ∷ []) ∷ [];
}

-- "reach rows for vertices 1 to 4: 1 1; 2 1; 1 2; 3 3. Distances: 0 0; 0 2; 2 0; 0 0."
abbrev pub g1_tables : Tables
g1_tables = record {
  reach = two 1 1 ++ two 2 1 ++ two 1 2 ++ two 3 3;
  distance = two 0 0 ++ two 0 2 ++ two 2 0 ++ two 0 0;
  closed = 0 ∷ 0 ∷ 0 ∷ 0 ∷ [];
  reach_rounds = 2;
  distance_rounds = 2;
}

-- "G2: labels A, CC, G; edges 1-2, 2-3, 3-2; one path 1 2 3."
abbrev pub g2 : Graph
g2 = record {
  labels = (0x41 ∷ []) ∷ (0x43 ∷ 0x43 ∷ []) ∷ (0x47 ∷ []) ∷ [];
  edges = record { from = 1; to = 2 } ∷ record { from = 2; to = 3 } ∷ record { from = 3; to = 2 } ∷ [];
  paths = (1 ∷ 2 ∷ 3 ∷ []) ∷ [];
}

-- "Reach 1 3 3, distance 0 1 0; closed walks 0 3 3."
abbrev pub g2_tables : Tables
g2_tables = record {
  reach = two 1 0 ++ two 3 0 ++ two 3 0;
  distance = two 0 0 ++ two 1 0 ++ two 0 0;
  closed = 0 ∷ 3 ∷ 3 ∷ [];
  reach_rounds = 2;
  distance_rounds = 2;
}
