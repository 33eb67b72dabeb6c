-- Walks in a graph. Vertices, edges and positions are numbered from 1.
use Rattle.std.specs.Prelude.{ℕ, ◌+◌, ◌-◌, ◌≡◌, [], length, get_or}
use Rattle.rounds.specs.Rounds.{Within}
use Rattle.graph.specs.Content.{Graph, edge_count}
use Rattle.graph.specs.Rules.{no_edge}

-- "L(v) is a label's length."
unfoldable pub L : Graph → ℕ → ℕ
L g v = length (get_or g.labels (v - 1) [])

-- the two vertices of edge number e
unfoldable pub from : Graph → ℕ → ℕ
from g e = (get_or g.edges (e - 1) no_edge).from

unfoldable pub to : Graph → ℕ → ℕ
to g e = (get_or g.edges (e - 1) no_edge).to

-- an edge goes from u to v
pub record Joined (g : Graph) (u v : ℕ) : Type 0 where
  pub number : ℕ
  pub listed : Within (edge_count g) number
  pub leaves : from g number ≡ u
  pub enters : to g number ≡ v

-- "A walk follows edges and may repeat vertices; its length is the sum of L over all its vertices but the last, so a walk of no edges has
-- length 0.": from u to v, of length l
pub data Walk (g : Graph) : ℕ → ℕ → ℕ → Type 0 where
  here : {v : ℕ} → Walk g v v 0
  more : {u v w l : ℕ} → Walk g u v l → Joined g v w → Walk g u w (l + L g v)

-- a walk of at least one edge, from u to v, of length l
pub record Goes (g : Graph) (u v l : ℕ) : Type 0 where
  pub last : ℕ
  pub before : ℕ
  pub walk : Walk g u last before
  pub edge : Joined g last v
  pub long : l ≡ before + L g last
