-- What an engine leaves over a setting.
use Rattle.std.specs.Prelude.{ℕ, List}
use Rattle.graph.specs.Content.{Graph}
use Rattle.anchors.specs.Anchors.{Anchor, AnchorSet}
use Rattle.chain.specs.ChainEntries.{Result, IsResult}
use Rattle.steps.specs.Setting.{Setting, Holds}
use Rattle.steps.specs.Scores.{AllBest}

-- the scores are the best of all chains, whatever is held; with a chain by them and with these rounds, they are a result of the engine
pub record Leaves (Is : Graph → List Anchor → Result → Type 0) (s : Setting) (rounds : ℕ) (scores : List ℕ) : Type 0 where
  pub best : AllBest s scores
  pub is : (g : Graph) (a : AnchorSet) → Holds s g a → (js : List ℕ) (score : ℕ)
      → IsResult g a.anchors (record { scores = scores; chain = js; score = score; rounds = rounds })
      → Is g a.anchors (record { scores = scores; chain = js; score = score; rounds = rounds })
