-- The step between two anchors as the engines compute it, and the greatest of candidates. A step is 0 where the first does not come before the second, and
-- the gap sum plus 1 where it does.
use Rattle.std.specs.Prelude.{ℕ, ◌+◌, ◌-◌, ◌*◌, ◌≤◌, ◌<◌, ◌≡◌, ◌⊎◌, List, ◌&&◌, length, get_or, ltb, leb, eqb}
use Rattle.wire.specs.Cases.{pick}
use Rattle.wire.specs.Sizes.{most_read, most_weight}

-- the distance that the graph gap counts, plus 1, from letter y of vertex u to letter x of vertex v; 0 where no walk goes there.
-- The row has it for every u; for v itself it has the closed walk.
unfoldable pub jump_in : List ℕ → ℕ → ℕ → ℕ → ℕ → ℕ
jump_in row u y v x = pick (◌&&◌ (eqb u v) (ltb y x)) 1 (get_or row (u - 1) 0)

-- "Read gap = B.c − A.d − 1."
abbrev pub read_gap_in : ℕ → ℕ → ℕ
read_gap_in d c = c - d - 1

-- "Graph gap = s + B.x − 1 − A.y"
abbrev pub graph_gap_in : ℕ → ℕ → ℕ → ℕ
graph_gap_in s x y = s + x - 1 - y

-- the step from an anchor that ends at y on vertex u and at d on the read, to one that starts at x on vertex v and at c on the read
unfoldable pub step_in : List ℕ → ℕ → ℕ → ℕ → ℕ → ℕ → ℕ → ℕ
unfolding jump_in
step_in row u y d v x c = pick (leb c d) 0 (pick (eqb (jump_in row u y v x) 0) 0 (read_gap_in d c + graph_gap_in (jump_in row u y v x - 1) x y + 1))

-- where anchors end: their vertices, and their last letters in label and read
pub record Ends : Type 0 where
  pub us : List ℕ
  pub ys : List ℕ
  pub ds : List ℕ

-- the step from anchor number i
abbrev pub step_from : Ends → List ℕ → ℕ → ℕ → ℕ → ℕ → ℕ
step_from ends row v x c i = step_in row (get_or ends.us (i - 1) 0) (get_or ends.ys (i - 1) 0) (get_or ends.ds (i - 1) 0) v x c

-- r is the greatest of `own` and of the candidates of the anchors of which P holds, however it is found: each has a step, 0 for none and the gap sum
-- plus 1, and a score
pub record Greatest (own weight : ℕ) (step score : ℕ → ℕ) (P : ℕ → Type 0) (r : ℕ) : Type 0 where
  pub heavy : own ≤ r
  pub each : (i : ℕ) → P i → 1 ≤ step i → score i + weight ≤ r + (step i - 1)
  pub which : (r ≡ own) ⊎ ((i : ℕ) × P i × (1 ≤ step i) × (score i + weight ≡ r + (step i - 1)))

-- ---- what keeps the sums within their types

-- a row over anchors 1 to n: each one's vertex has an entry, which is 0 or more than the anchor's last letter, and below 2 ^ 17
pub record RowFits (n : ℕ) (ends : Ends) (row : List ℕ) : Type 0 where
  pub low : (i : ℕ) → i < n → 1 ≤ get_or ends.us i 0
  pub high : (i : ℕ) → i < n → get_or ends.us i 0 ≤ length row
  pub above : (i : ℕ) → i < n → (get_or row (get_or ends.us i 0 - 1) 0 ≡ 0) ⊎ (get_or ends.ys i 0 < get_or row (get_or ends.us i 0 - 1) 0)
  pub small : (i : ℕ) → i < n → get_or row (get_or ends.us i 0 - 1) 0 ≤ 131072

-- the lists of n anchors are as long as that
pub record EndsFit (n : ℕ) (ends : Ends) : Type 0 where
  pub us : n ≤ length ends.us
  pub ys : n ≤ length ends.ys
  pub ds : n ≤ length ends.ds

-- a score is at most the greatest weight for each place of the read up to the anchor's first; so sums of scores and weights fit
abbrev pub ScoresFit : ℕ → List ℕ → Type 0
ScoresFit n scores = (n ≤ length scores) × ((i : ℕ) → i < n → get_or scores i 0 ≤ most_weight * most_read)
