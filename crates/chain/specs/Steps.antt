-- When an anchor comes before another, and the gaps between them. Anchors are numbered from 1.
use Rattle.std.specs.Prelude.{ℕ, ◌+◌, ◌-◌, ◌<◌, ◌≡◌, ◌≢◌, ◌⊎◌, List, get_or}
use Rattle.graph.specs.Content.{Graph}
use Rattle.anchors.specs.Anchors.{Anchor, y, d}
use Rattle.anchors.specs.AnchorRules.{no_anchor}
use Rattle.cover.specs.Walks.{Goes}
use Rattle.cover.specs.Cells.{IsClosed}
use Rattle.cover.specs.CoverDistance.{IsCover}

-- anchor number j
abbrev pub anchor_at : List Anchor → ℕ → Anchor
anchor_at anchors j = get_or anchors (j - 1) no_anchor

-- "A comes before B when A.d < B.c and either A.v = B.v with A.y < B.x, or a walk of at least one edge goes from A.v to B.v."
pub record Before (g : Graph) (A B : Anchor) : Type 0 where
  pub rises : d A < B.c
  pub way : ((A.v ≡ B.v) × (y A < B.x)) ⊎ ((l : ℕ) × Goes g A.v B.v l)

-- s of the graph gap: "where s is 0 in the first case, the closed walk if A.v = B.v otherwise, and the cover distance if the vertices differ"
pub data Jump (g : Graph) (A B : Anchor) : ℕ → Type 0 where
  ahead : A.v ≡ B.v → y A < B.x → Jump g A B 0
  round : {s : ℕ} → A.v ≡ B.v → (y A < B.x → ⊥) → IsClosed g A.v s → Jump g A B s
  across : {s : ℕ} → A.v ≢ B.v → IsCover g A.v B.v s → Jump g A B s

-- A comes before B, with gaps that sum to k: "Read gap = B.c − A.d − 1. Graph gap = s + B.x − 1 − A.y"; both are said without subtraction
pub record Step (g : Graph) (A B : Anchor) (k : ℕ) : Type 0 where
  pub before : Before g A B
  pub s : ℕ
  pub jump : Jump g A B s
  pub read_gap : ℕ
  pub in_read : read_gap + 1 + d A ≡ B.c
  pub graph_gap : ℕ
  pub in_graph : graph_gap + 1 + y A ≡ s + B.x
  -- "The gap sum is subtracted"
  pub sum : k ≡ read_gap + graph_gap
