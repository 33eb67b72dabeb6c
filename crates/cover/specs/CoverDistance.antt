-- The cover distance: one definition behind one name, `IsCover`.
use Rattle.std.specs.Prelude.{ℕ, zero, suc, ◌+◌, ◌-◌, ◌≤◌, ◌≡◌, List, [], length, get_or}
use Rattle.rounds.specs.Rounds.{Within}
use Rattle.graph.specs.Content.{Graph, path_count}
use Rattle.cover.specs.Walks.{L}
use Rattle.cover.specs.Cells.{vertex, IsReach, IsDistance}

-- path number i; a path that is not there is empty
unfoldable pub path_at : Graph → ℕ → List ℕ
path_at g i = get_or g.paths (i - 1) []

-- the sum of L over k positions of the path, from position a on
unfoldable pub along : Graph → List ℕ → ℕ → ℕ → ℕ
along g p a zero = 0
along g p a (suc k) = L g (vertex p a) + along g p (a + 1) k

-- one way from u to v over path i: u stands at a position a "not beyond reach (v, i)"; "the sum of L over positions a up to but not including
-- reach (v, i), plus distance (v, i)" is s
pub record Way (g : Graph) (u v s : ℕ) : Type 0 where
  pub i : ℕ
  pub path : Within (path_count g) i
  pub a : ℕ
  pub on : Within (length (path_at g i)) a
  pub holds : vertex (path_at g i) a ≡ u
  pub r : ℕ
  pub reach : IsReach g (path_at g i) v r
  pub upto : a ≤ r
  pub d : ℕ
  pub distance : IsDistance g (path_at g i) r v d
  pub sum : s ≡ along g (path_at g i) a (r - a) + d

-- "Cover distance from u to a different v: the least, over paths i that hold u at a position a not beyond reach (v, i), of .."
pub record IsCover (g : Graph) (u v s : ℕ) : Type 0 where
  pub way : Way g u v s
  pub least : (t : ℕ) → Way g u v t → s ≤ t
