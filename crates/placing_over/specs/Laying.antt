-- What is laid into the lent buffers: the chain by an engine's scores, and an engine's result.
use Rattle.std.specs.Prelude.{ℕ, ◌≡◌, List, length, take}
use Rattle.wire.specs.Lent.{laid}
use Rattle.wire.specs.Sizes.{full_scores}
use Rattle.graph.specs.Content.{Graph}
use Rattle.anchors.specs.Anchors.{Anchor}
use Rattle.chain.specs.ChainEntries.{Result, ChainBuffers, filled_chain}
use Rattle.steps.specs.Setting.{Setting}
use Rattle.named_chain.specs.Returning.{ChainLaid}
use Rattle.placing_over.specs.declared.over.Placement.{Placement}

-- by the scores at the front of the buffer, the chain is laid and the unused scores are 0; the rounds are t
pub record Ended (s : Setting) (t : ℕ) (b after : ChainBuffers) (r : Placement) : Type 0 where
  pub chain : ChainLaid s (take s.count b.scores) b.chain after.chain r.length r.score
  pub scores : after.scores ≡ laid full_scores (take s.count b.scores) b.scores
  pub rounds : r.rounds ≡ t

-- a result, as the work on one anchor file gives it
abbrev pub placement_of : Result → Placement
placement_of t = record { score = t.score; rounds = t.rounds; length = length t.chain }

-- an engine's result lies in the buffers and in the placement; Is says what a result of this engine is
pub record Laid (Is : Graph → List Anchor → Result → Type 0) (g : Graph) (anchors : List Anchor) (b after : ChainBuffers) (r : Placement) : Type 0 where
  pub result : Result
  pub is : Is g anchors result
  pub buffers : after ≡ filled_chain result b
  pub placement : r ≡ placement_of result
