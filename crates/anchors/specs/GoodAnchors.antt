-- Every rule of the anchor file, in no order: what content an anchor file may have over a graph.
use Rattle.std.specs.Prelude.{ℕ, ◌+◌, ◌-◌, ◌≤◌, ◌<◌, ◌≡◌, ◌⊎◌, List, true, length, get_or}
use Rattle.wire.specs.Letters.{is_letter, agree}
use Rattle.wire.specs.Sizes.{most_read, most_anchors, most_weight}
use Rattle.graph.specs.Content.{Graph, vertex_count}
use Rattle.graph.specs.Good.{All, Next, Vertex}
use Rattle.anchors.specs.Anchors.{Anchor, AnchorSet, y, d, read_length, anchor_count}
use Rattle.anchors.specs.AnchorRules.{label_of}

-- what holds of one anchor by itself
pub record GoodAnchor (g : Graph) (read : List ℕ) (a : Anchor) : Type 0 where
  -- "no such vertex" is a fault
  pub vertex : Vertex (vertex_count g) a.v
  -- "anchor outside label or read, or x, c or length 0" is a fault
  pub some_x : 1 ≤ a.x
  pub some_c : 1 ≤ a.c
  pub some_length : 1 ≤ a.len
  pub in_label : y a ≤ length (label_of g a.v)
  pub in_read : d a ≤ length read
  -- "weight | 1 to 65,535"
  pub some_weight : 1 ≤ a.weight
  pub few_weight : a.weight ≤ most_weight
  -- "Label letters x..y of v equal read letters c..d."
  pub letters : (i : ℕ) → i < a.len → agree (get_or (label_of g a.v) (a.x - 1 + i) 0) (get_or read (a.c - 1 + i) 0) ≡ true

-- anchors rise "by (v, x, y, c)"
abbrev pub KeyBelow : Anchor → Anchor → Type 0
KeyBelow a b =
    (a.v < b.v) ⊎ ((a.v ≡ b.v) × ((a.x < b.x) ⊎ ((a.x ≡ b.x) × ((y a < y b) ⊎ ((y a ≡ y b) × (a.c < b.c))))))

-- every file rule holds
pub record GoodAnchors (g : Graph) (a : AnchorSet) : Type 0 where
  -- "r, N | 1 to 32,768, 0 to 2,048"
  pub some_read : 1 ≤ read_length a
  pub few_read : read_length a ≤ most_read
  -- "Letters are the bytes A C G T"
  pub letters : All (λ b. is_letter b ≡ true) a.read
  pub few_anchors : anchor_count a ≤ most_anchors
  pub each : All (GoodAnchor g a.read) a.anchors
  -- "Anchors rise strictly by (v, x, y, c)"
  pub rise : Next KeyBelow a.anchors
