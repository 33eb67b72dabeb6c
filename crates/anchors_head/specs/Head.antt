-- The head of an anchor file as the code answers it: its kind and the read's length. A copy of how the reading in `anchors` begins, tied to it by
-- `over-head` (anchors_check); the rule stands there.
use Rattle.std.specs.Prelude.{ℕ, List, eqb}
use Rattle.wire.specs.Cases.{pick}
use Rattle.wire.specs.Numbers.{number_at}
use Rattle.wire.specs.Refusals.{wrong_kind}
use Rattle.wire.specs.Sizes.{anchor_kind, most_read}
use Rattle.graph_parts.specs.Answers.{count_at}
use Rattle.wire.specs.Found.{Found, good, fault, Part}

-- r, after the first number of the file s
abbrev pub after_kind : List ℕ → Found (Part ℕ) → Found (Part ℕ)
after_kind s (good r) = pick (eqb r.content anchor_kind) (count_at 1 most_read s r.next) (fault wrong_kind 0)
after_kind s (fault k place) = fault k place

-- r with the place after it, or the first fault up to there
unfoldable pub head_of : List ℕ → Found (Part ℕ)
head_of s = after_kind s (number_at s 0)
