-- When a walk of at least one edge goes from u to v, by the cover distance and by the closed walk. Assumes nothing.
use Prim.Native.Nat.{ℕ, ◌≤◌}
use mathlib.Core.Path.{◌≡◌, refl}
use mathlib.Core.Logic.{◌≢◌, ◌⊎◌, inl, inr}
use native.Mathlib.Omega.{arith}
use Rattle.rounds.specs.Rounds.{Within}
use Rattle.graph.specs.Content.{Graph, vertex_count}
use Rattle.graph.specs.Good.{GoodGraph}
use Rattle.cover.specs.Walks.{L, Goes}
use Rattle.cover.specs.Cells.{IsClosed}
use Rattle.cover.specs.CoverDistance.{IsCover}
use Rattle.cover.specs.Row.{Says}
use Rattle.cover.proofs.GoodLaws.{label_some}
use Rattle.cover.proofs.WalkLaws.{walk_goes, goes_walk, goes_first}
use Rattle.cover.proofs.CoverLaws.{cover_exists, cover_walk}

module _ {g : Graph} (G : GoodGraph g) where
  -- between different vertices: exactly where there is a cover distance
  pub goes_cover : {u v l : ℕ} → u ≢ v → Goes g u v l → (s : ℕ) × IsCover g u v s
  goes_cover h x = cover_exists G h (goes_walk x)

  pub cover_goes : {u v s : ℕ} → u ≢ v → IsCover g u v s → Goes g u v s
  cover_goes h c = walk_goes (cover_walk G c) h

  -- so where the row says 0, none goes
  pub says_none : {u v l : ℕ} → u ≢ v → Says g u v 0 → Goes g u v l → ⊥
  says_none h y x = let (s, c) = goes_cover h x in y.none refl s c

  -- from a vertex to itself: exactly where the closed walk is not 0
  pub closed_none : {v l : ℕ} → Within (vertex_count g) v → IsClosed g v 0 → Goes g v v l → ⊥
  closed_none {v} {l} w c x = go c.attained
    where
      go : (◌≡◌ {A = ℕ} 0 0 × ((l : ℕ) → Goes g v v l → ⊥)) ⊎ Goes g v v 0 → ⊥
      go (inl (_, h)) = h l x
      go (inr y) = omega (arith, goes_first y, label_some G v w)

-- a closed walk that is not 0 goes
pub closed_goes : {g : Graph} {v d : ℕ} → IsClosed g v d → 1 ≤ d → Goes g v v d
closed_goes {g} {v} {d} c l = go c.attained
  where
    go : ((d ≡ 0) × ((l : ℕ) → Goes g v v l → ⊥)) ⊎ Goes g v v d → Goes g v v d
    go (inl (z, _)) = absurd (omega arith)
    go (inr x) = x

-- and is at least as long as the label: a graph gap is never negative
pub closed_at_least : {g : Graph} {v d : ℕ} → IsClosed g v d → 1 ≤ d → L g v ≤ d
closed_at_least c l = goes_first (closed_goes c l)
