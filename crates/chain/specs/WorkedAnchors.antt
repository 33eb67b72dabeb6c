-- The anchors of document 01's worked cases, and what the sweep makes of them.
use Rattle.std.specs.Prelude.{ℕ, ◌+◌, ◌≡◌, [], ◌∷◌, ℤ}
use Rattle.graph.specs.Content.{Graph}
use Rattle.graph.specs.Good.{GoodGraph}
use Rattle.anchors.specs.Anchors.{Anchor, AnchorSet}
use Rattle.anchors.specs.GoodAnchors.{GoodAnchors}
use Rattle.chain.specs.Steps.{Step}
use Rattle.chain.specs.Chains.{score}
use Rattle.chain.specs.ChainEntries.{Result, IsSweep}

-- an anchor by its numbers in file order: "(v x c length weight)"
abbrev anchor : ℕ → ℕ → ℕ → ℕ → ℕ → Anchor
anchor v x c len weight = record { v = v; x = x; c = c; len = len; weight = weight }

-- over G1, "Anchors: 02 06 41 43 54 54 43 41 03 01 01 01 02 02 03 01 03 02 02 04 01 05 02 02."
abbrev pub acttca : AnchorSet
acttca = record {
  read = 0x41 ∷ 0x43 ∷ 0x54 ∷ 0x54 ∷ 0x43 ∷ 0x41 ∷ [];
  anchors = anchor 1 1 1 2 2 ∷ anchor 3 1 3 2 2 ∷ anchor 4 1 5 2 2 ∷ [];
}

abbrev pub acttca_result : Result
acttca_result = record { scores = 2 ∷ 4 ∷ 6 ∷ []; chain = 1 ∷ 2 ∷ 3 ∷ []; score = 6; rounds = 2 }

-- "G1's read with its first and third anchors only", of weight 2 or of another
abbrev pub first_third : ℕ → AnchorSet
first_third weight = record { read = acttca.read; anchors = anchor 1 1 1 2 weight ∷ anchor 4 1 5 2 weight ∷ [] }

-- "the score 2, the chain the first alone, one round"
abbrev pub first_third_result : Result
first_third_result = record { scores = 2 ∷ 2 ∷ []; chain = 1 ∷ []; score = 2; rounds = 1 }

-- "the gaps are 2 and 1, the candidate 1": of the step from the first of two anchors to the second, where the first's score is its weight
pub record Candidate (g : Graph) (A B : Anchor) (read_gap graph_gap : ℕ) (z : ℤ) : Type 0 where
  pub step : Step g A B (read_gap + graph_gap)
  pub gaps : (k : ℕ) (s : Step g A B k) → (s.read_gap ≡ read_gap) × (s.graph_gap ≡ graph_gap)
  pub is : score (A.weight + B.weight) (read_gap + graph_gap) ≡ z

-- "G2, read CCGCC, anchors (v x c length weight) 2 1 1 2 2; 2 1 4 2 2; 3 1 3 1 1: score 5, chain 1 3 2, three rounds."
abbrev pub ccgcc : AnchorSet
ccgcc = record {
  read = 0x43 ∷ 0x43 ∷ 0x47 ∷ 0x43 ∷ 0x43 ∷ [];
  anchors = anchor 2 1 1 2 2 ∷ anchor 2 1 4 2 2 ∷ anchor 3 1 3 1 1 ∷ [];
}

abbrev pub ccgcc_result : Result
ccgcc_result = record { scores = 2 ∷ 5 ∷ 3 ∷ []; chain = 1 ∷ 3 ∷ 2 ∷ []; score = 5; rounds = 3 }

-- "G2, read ACC, anchors 1 1 1 1 1; 2 1 2 2 2: cover distance 4, score 2, chain 2."
abbrev pub acc : AnchorSet
acc = record { read = 0x41 ∷ 0x43 ∷ 0x43 ∷ []; anchors = anchor 1 1 1 1 1 ∷ anchor 2 1 2 2 2 ∷ [] }

abbrev pub acc_result : Result
acc_result = record { scores = 1 ∷ 2 ∷ []; chain = 2 ∷ []; score = 2; rounds = 1 }

-- "One vertex A, read AAA, three anchors of weight 1: score 1, chain 1"
abbrev pub alone : Graph
alone = record { labels = (0x41 ∷ []) ∷ []; edges = []; paths = (1 ∷ []) ∷ [] }

abbrev pub aaa : AnchorSet
aaa = record { read = 0x41 ∷ 0x41 ∷ 0x41 ∷ []; anchors = anchor 1 1 1 1 1 ∷ anchor 1 1 2 1 1 ∷ anchor 1 1 3 1 1 ∷ [] }

abbrev pub alone_result : Result
alone_result = record { scores = 1 ∷ 1 ∷ 1 ∷ []; chain = 1 ∷ []; score = 1; rounds = 1 }

-- "with an edge to itself, score 3, chain 1 2 3."
abbrev pub looped : Graph
looped = record { labels = (0x41 ∷ []) ∷ []; edges = record { from = 1; to = 1 } ∷ []; paths = (1 ∷ []) ∷ [] }

abbrev pub looped_result : Result
looped_result = record { scores = 1 ∷ 2 ∷ 3 ∷ []; chain = 1 ∷ 2 ∷ 3 ∷ []; score = 3; rounds = 2 }

-- a worked case: the graph and the anchors fulfil every file rule, and the sweep's result is r
pub record Works (g : Graph) (a : AnchorSet) (r : Result) : Type 0 where
  pub graph : GoodGraph g
  pub anchors : GoodAnchors g a
  pub sweep : IsSweep g a.anchors r
