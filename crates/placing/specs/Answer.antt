-- What the chaining entries promise: the answer, and every place of the lent buffers.
use Rattle.std.specs.Prelude.{ℕ, ◌≡◌, List, length}
use Rattle.wire.specs.Found.{Reply, accepted, refused}
use Rattle.graph.specs.Content.{Graph}
use Rattle.anchors.specs.Anchors.{Anchor}
use Rattle.anchors.specs.AnchorEntries.{Both}
use Rattle.chain.specs.ChainEntries.{Result, ChainBuffers, chain_reply, filled_chain}
use Rattle.placing_over.specs.declared.over.Placement.{Placement}
use Rattle.placing_over.specs.Laying.{placement_of}
use Rattle.placing.specs.declared.ChainAnswer.{ChainAnswer}

-- "Each answer holds the number, the file (1 graph, 2 anchors) and the place"; of a refusal, "its other numbers (rounds, score, lengths) are 0"
abbrev pub refusal_of : ℕ → ℕ → ℕ → ChainAnswer
refusal_of k file place = record { number = k; file = file; place = place; anchors = 0; score = 0; rounds = 0; length = 0 }

-- "an acceptance has 0 in all three"; it has N, and what the placement has
abbrev pub placed_of : ℕ → Placement → ChainAnswer
placed_of anchors t = record {
  number = 0;
  file = 0;
  place = 0;
  anchors = anchors;
  score = t.score;
  rounds = t.rounds;
  length = t.length;
}

-- of a result: N, the greatest score, the rounds and the chain's length
abbrev pub acceptance_of : List Anchor → Result → ChainAnswer
acceptance_of anchors t = placed_of (length anchors) (placement_of t)

-- an engine's result for accepted files is in the buffers and in the answer; Is says what a result of this engine is
pub record Placed (Is : Graph → List Anchor → Result → Type 0) (g : Graph) (anchors : List Anchor) (b after : ChainBuffers) (r : ChainAnswer) : Type 0 where
  pub result : Result
  pub is : Is g anchors result
  pub buffers : after ≡ filled_chain result b
  pub answer : r ≡ acceptance_of anchors result

-- "No refusal writes anything"
pub record Unplaced (k file place : ℕ) (b after : ChainBuffers) (r : ChainAnswer) : Type 0 where
  pub buffers : after ≡ b
  pub answer : r ≡ refusal_of k file place

-- by the reply
abbrev pub Outcome : (Graph → List Anchor → Result → Type 0) → Reply Both → ChainBuffers → ChainBuffers → ChainAnswer → Type 0
Outcome Is (accepted p) b after r = Placed Is p.graph.graph p.anchors.set.anchors b after r
Outcome Is (refused k file place) b after r = Unplaced k file place b after r

-- the promise of an entry: b and `after` are the lent buffers before and after the call, r is the answer
pub record Answered (Is : Graph → List Anchor → Result → Type 0) (graph file : List ℕ) (b after : ChainBuffers) (r : ChainAnswer) : Type 0 where
  pub outcome : Outcome Is (chain_reply graph file b) b after r
