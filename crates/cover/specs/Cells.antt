-- One cell of each table, in document 01's words. p is a path, any list of vertices.
use Rattle.std.specs.Prelude.{ℕ, ◌-◌, ◌≤◌, ◌≡◌, ◌⊎◌, List, length, get_or}
use Rattle.rounds.specs.Rounds.{Within}
use Rattle.graph.specs.Content.{Graph}
use Rattle.cover.specs.Walks.{Walk, Goes}

-- the vertex at position j of a path
unfoldable pub vertex : List ℕ → ℕ → ℕ
vertex p j = get_or p (j - 1) 0

-- the vertex at position j of the path has a walk to v, of no edges or more
pub record Hits (g : Graph) (p : List ℕ) (v j : ℕ) : Type 0 where
  pub on : Within (length p) j
  pub far : ℕ
  pub walk : Walk g (vertex p j) v far

-- "Cell (v, i) is the greatest position on path i whose vertex has a walk, of no edges or more, to v. The cell is 0 exactly when no vertex of
-- the path has one."
pub record IsReach (g : Graph) (p : List ℕ) (v r : ℕ) : Type 0 where
  pub attained : (r ≡ 0) ⊎ Hits g p v r
  pub greatest : (j : ℕ) → Hits g p v j → j ≤ r

-- a walk of length l goes to v from the vertex at position r of the path
pub record Leads (g : Graph) (p : List ℕ) (r v l : ℕ) : Type 0 where
  pub on : Within (length p) r
  pub walk : Walk g (vertex p r) v l

-- "the least length of a walk from that vertex to v; 0 where the reach cell is 0": r is the reach cell
pub record IsDistance (g : Graph) (p : List ℕ) (r v d : ℕ) : Type 0 where
  pub none : r ≡ 0 → d ≡ 0
  pub attained : 1 ≤ r → Leads g p r v d
  pub least : (l : ℕ) → Leads g p r v l → d ≤ l

-- "the least length of a walk from v to v with at least one edge; 0 if there is none"
pub record IsClosed (g : Graph) (v d : ℕ) : Type 0 where
  pub attained : ((d ≡ 0) × ((l : ℕ) → Goes g v v l → ⊥)) ⊎ Goes g v v d
  pub least : (l : ℕ) → Goes g v v l → d ≤ l
