-- An edge looked for among edges that rise: what passing those below it leaves.
use Rattle.std.specs.Prelude.{ℕ, ◌-◌, ◌≤◌, ◌<◌, ◌≡◌, List, Bool, ◌&&◌, ltb, eqb}
use Rattle.graph.specs.Rules.{is_edge}
use Rattle.graph.specs.Entries.{edge_in, edges_in}

-- The edges from place `start` up to place r are passed on the way to the edge from - to: it, and each edge of a later step, is among the
-- edges from `start` on exactly if it is among those from r on.
pub record Passed (m : ℕ) (edges : List ℕ) (start from to r : ℕ) : Type 0 where
  pub upto : r ≤ m
  pub step : is_edge (edges_in (m - start) start edges) from to ≡ is_edge (edges_in (m - r) r edges) from to
  pub later : (u v : ℕ) → from < u → is_edge (edges_in (m - start) start edges) u v ≡ is_edge (edges_in (m - r) r edges) u v

-- the edge at place i is from - to
abbrev pub edge_is : ℕ → List ℕ → ℕ → ℕ → ℕ → Bool
edge_is m edges i from to = ◌&&◌ (ltb i m) (◌&&◌ (eqb (edge_in edges i).from from) (eqb (edge_in edges i).to to))
