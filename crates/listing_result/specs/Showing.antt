-- The listing of an engine's result, and the result as it lies in numbers and buffers. Document 01, chapter "Listing".
use Rattle.std.specs.Prelude.{ℕ, ◌-◌, ◌≤◌, ◌<◌, ◌≡◌, List, ◌++◌, length, get_or, take}
use Rattle.wire.specs.Sizes.{full_anchors, full_scores, full_chain, most_anchors}
use Rattle.rounds.specs.Rounds.{Within}
use Rattle.rounds.specs.Table.{entry}
use Rattle.anchors.specs.Anchors.{Anchor}
use Rattle.anchors.specs.AnchorEntries.{anchor_in}
use Rattle.chain.specs.Steps.{anchor_at}
use Rattle.chain.specs.ChainEntries.{Result}
use Rattle.listing_lines.specs.Lines.{found_line}
use Rattle.decimal_text.specs.Words.{each}
use Rattle.listing_text.specs.Lines.{anchor_line}

-- the lines of the anchors with the numbers js; S holds the score of anchor j at place j − 1
abbrev pub anchor_lines : List Anchor → List ℕ → List ℕ → List ℕ
anchor_lines anchors S js = each (λ j. anchor_line j (anchor_at anchors j) (entry j S)) js

-- of accepted files: the first line, and a line for each anchor of the chain
unfoldable pub listing_of : List Anchor → Result → List ℕ
listing_of anchors t = found_line (length anchors) t.score t.rounds ++ anchor_lines anchors t.scores t.chain

-- the anchors l and the result t over them are in the four numbers and the three buffers, which have full size
pub record Shown (l : List Anchor) (t : Result) (anchors score rounds long : ℕ) (numbers scores chain : List ℕ) : Type 0 where
  pub few : length l ≤ most_anchors
  pub numbers_room : length numbers ≡ full_anchors
  pub scores_room : length scores ≡ full_scores
  pub chain_room : length chain ≡ full_chain
  pub anchors_is : anchors ≡ length l
  pub score_is : score ≡ t.score
  pub rounds_is : rounds ≡ t.rounds
  pub long_is : long ≡ length t.chain
  -- the numbers of each anchor, its score, and the chain, of which each is the number of an anchor
  pub held : (j : ℕ) → Within (length l) j → anchor_in numbers (j - 1) ≡ anchor_at l j
  pub scored : (j : ℕ) → Within (length l) j → entry j scores ≡ entry j t.scores
  pub chained : take long chain ≡ t.chain
  pub in_file : (i : ℕ) → i < length t.chain → Within (length l) (get_or t.chain i 0)

-- some anchors and some result are
pub record SomeShown (anchors score rounds long : ℕ) (numbers scores chain : List ℕ) : Type 0 where
  pub list : List Anchor
  pub result : Result
  pub shown : Shown list result anchors score rounds long numbers scores chain
