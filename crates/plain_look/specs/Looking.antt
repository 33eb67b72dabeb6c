-- What an anchor of the plain pass looks back over.
use Rattle.std.specs.Prelude.{ℕ, ◌*◌, ◌≤◌, ◌<◌, List, length, get_or}
use Rattle.wire.specs.Sizes.{most_read, most_weight}
use Rattle.rounds.specs.Rounds.{Within}
use Rattle.rounds.specs.Table.{entry}

-- the first `taken` of the order are there, are anchors that have a score, and their scores are small, so that sums of scores and weights fit
pub record LooksBack (taken : ℕ) (order scores : List ℕ) : Type 0 where
  pub room : taken ≤ length order
  pub there : (q : ℕ) → q < taken → Within (length scores) (get_or order q 0)
  pub small : (q : ℕ) → q < taken → entry (get_or order q 0) scores ≤ most_weight * most_read
