-- What a chaining entry has on its way, before its engine: the reply with the anchors of accepted files.
use Rattle.std.specs.Prelude.{ℕ, ◌≤◌, ◌≡◌, List, ◌≢◌, length}
use Rattle.wire.specs.Found.{good, accepted, refused}
use Rattle.wire.specs.Sizes.{full_scores, full_chain}
use Rattle.graph.specs.Reading.{Parsed, graph_of}
use Rattle.anchors.specs.Anchors.{AnchorSet, read_length}
use Rattle.anchors.specs.AnchorEntries.{Both}
use Rattle.anchors_read.specs.declared.AnchorsAnswer.{AnchorsAnswer}
use Rattle.chain.specs.ChainEntries.{ChainBuffers, chain_reply}
use Rattle.engine.specs.Lying.{AnchorsLie}

-- both files are accepted, each lent buffer has full size, and the anchors lie in `numbers`
pub record Taken (graph file : List ℕ) (b : ChainBuffers) (numbers : List ℕ) (r : AnchorsAnswer) : Type 0 where
  pub both : Both
  pub reply : chain_reply graph file b ≡ accepted both
  pub graph_is : graph_of graph ≡ good both.graph
  pub rooms : (full_scores ≤ length b.scores) × (full_chain ≤ length b.chain)
  pub letters : read_length both.anchors.set ≡ r.letters
  pub anchors : AnchorsLie both.graph.graph both.anchors.set r.anchors numbers

-- what a call begins with: number 0, and then that, or the refusal
pub record Begun (graph file : List ℕ) (b : ChainBuffers) (numbers : List ℕ) (r : AnchorsAnswer) : Type 0 where
  pub takes : r.number ≡ 0 → Taken graph file b numbers r
  pub refuses : r.number ≢ 0 → chain_reply graph file b ≡ refused r.number r.file r.place

-- some graph is accepted, and the numbers of some anchors over it lie there
pub record SomeRead (graph : List ℕ) (count : ℕ) (numbers : List ℕ) : Type 0 where
  pub parsed : Parsed
  pub found : graph_of graph ≡ good parsed
  pub a : AnchorSet
  pub anchors : AnchorsLie parsed.graph a count numbers
