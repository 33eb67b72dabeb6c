-- Which vertices are on a path, as flags: one for each vertex, vertex v at place v − 1.
use Rattle.std.specs.Prelude.{ℕ, zero, suc, ◌-◌, ◌≤◌, ◌≡◌, List, Bool, true, false, ◌&&◌, length, get_or, replicate}
use Rattle.wire.specs.Sizes.{most_vertices}
use Rattle.graph.specs.Rules.{is_on_any}

-- the flags of the vertices 1 to n say which are on the paths ps
pub record Marks (flags : List Bool) (n : ℕ) (ps : List (List ℕ)) : Type 0 where
  pub room : n ≤ length flags
  pub each : (v : ℕ) → 1 ≤ v → v ≤ n → get_or flags (v - 1) false ≡ is_on_any ps v

-- the vertices 1 to n are all marked
unfoldable pub all_marked : List Bool → ℕ → Bool
all_marked flags zero = true
all_marked flags (suc v) = ◌&&◌ (all_marked flags v) (get_or flags v false)

-- no vertex of those that a graph may have is marked
unfoldable pub no_marks : List Bool
no_marks = replicate most_vertices false
