-- Flags of vertices, vertex v at place v − 1: what marking the vertices of paths adds.
use Rattle.std.specs.Prelude.{ℕ, ◌+◌, ◌-◌, ◌*◌, ◌≤◌, ◌<◌, ◌≡◌, List, Bool, false, ◌||◌, length, get_or}
use Rattle.wire.specs.Sizes.{path_room}

-- vertex v is marked
abbrev pub marked : List Bool → ℕ → Bool
marked flags v = get_or flags (v - 1) false

-- a vertex is marked afterwards exactly if it was before or is one of those named
pub record Flagged (before after : List Bool) (named : ℕ → Bool) : Type 0 where
  pub long : length after ≡ length before
  pub each : (v : ℕ) → 1 ≤ v → marked after v ≡ ◌||◌ (marked before v) (named v)

-- the numbers are vertices of n
abbrev pub Vertices : ℕ → List ℕ → Type 0
Vertices n p = (j : ℕ) → j < length p → (1 ≤ get_or p j 0) × (get_or p j 0 ≤ n)

-- the numbers of k paths are vertices of n
abbrev pub Inside : ℕ → ℕ → List ℕ → List ℕ → Type 0
Inside n k paths counts =
    (i j : ℕ) → i < k → j < get_or counts i 0 → (1 ≤ get_or paths (path_room * i + j) 0) × (get_or paths (path_room * i + j) 0 ≤ n)
