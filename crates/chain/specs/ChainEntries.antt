-- What the engines reply, and what the lent buffers hold afterwards, in every case.
use Rattle.std.specs.Prelude.{ℕ, ◌≡◌, List, Bool, ◌&&◌, length, leb}
use Rattle.wire.specs.Cases.{pick}
use Rattle.wire.specs.Found.{Reply, refused}
use Rattle.wire.specs.Lent.{laid}
use Rattle.wire.specs.Refusals.{small_buffer}
use Rattle.wire.specs.Sizes.{full_scores, full_chain}
use Rattle.rounds.specs.Rounds.{Within}
use Rattle.rounds.specs.Table.{entry}
use Rattle.graph.specs.Content.{Graph}
use Rattle.anchors.specs.Anchors.{Anchor}
use Rattle.anchors.specs.AnchorEntries.{Both, both_reply}
use Rattle.chain.specs.Chains.{IsBest}
use Rattle.chain.specs.Named.{Returned}
use Rattle.chain.specs.Sweep.{Swept}

-- the result of an engine
pub record Result : Type 0 where
  pub scores : List ℕ
  pub chain : List ℕ
  pub score : ℕ
  pub rounds : ℕ

-- the scores and the chain of anchors over a graph
pub record IsResult (g : Graph) (anchors : List Anchor) (r : Result) : Type 0 where
  pub size : length r.scores ≡ length anchors
  -- each score is "the best of all chains ending there"
  pub best : (j : ℕ) → Within (length anchors) j → IsBest g anchors j (entry j r.scores)
  -- the chain is the named one, and its score the greatest
  pub returned : Returned g anchors r.scores r.chain r.score

-- the sweep's: its rounds are those of the rule
pub record IsSweep (g : Graph) (anchors : List Anchor) (r : Result) : Type 0 where
  pub result : IsResult g anchors r
  pub swept : Swept g anchors r.rounds r.scores

-- the plain pass's: it "reports no rounds"
pub record IsPlain (g : Graph) (anchors : List Anchor) (r : Result) : Type 0 where
  pub result : IsResult g anchors r
  pub none : r.rounds ≡ 0

-- the lent buffers
pub record ChainBuffers : Type 0 where
  pub scores : List ℕ
  pub chain : List ℕ

-- full size, by the lengths of the buffers: "scores and chain 2,048"
abbrev pub room_for_chain : ℕ → ℕ → Bool
room_for_chain scores chain = ◌&&◌ (leb full_scores scores) (leb full_chain chain)

-- each has full size
unfoldable pub roomy_chain : ChainBuffers → Bool
roomy_chain b = room_for_chain (length b.scores) (length b.chain)

-- 13, then the graph file, then the anchor file
unfoldable pub chain_reply : List ℕ → List ℕ → ChainBuffers → Reply Both
chain_reply graph file b = pick (roomy_chain b) (both_reply graph file) (refused small_buffer 0 0)

-- the buffers with a result
unfoldable pub filled_chain : Result → ChainBuffers → ChainBuffers
filled_chain r b = record { scores = laid full_scores r.scores b.scores; chain = laid full_chain r.chain b.chain }
