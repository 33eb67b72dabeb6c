-- The least walks from chosen vertices, and the closed walks by them. The rounds are those of distance, each column over a path of one vertex, with all levels equal.
use Rattle.std.specs.Prelude.{ℕ, suc, ◌-◌, ◌*◌, ◌≤◌, ◌≡◌, List, [], ◌∷◌, length}
use Rattle.wire.specs.Sizes.{table_row}
use Rattle.rounds.specs.Rounds.{Within}
use Rattle.rounds.specs.Gather.{gather}
use Rattle.rounds.specs.Rule.{Rule}
use Rattle.rounds.specs.Kinds.{shift, closer, least_rule}
use Rattle.rounds.specs.Place.{cell_place}
use Rattle.rounds.specs.Table.{cell, table_round}
use Rattle.graph.specs.Content.{Graph, vertex_count, edge_count}
use Rattle.cover.specs.Walks.{L, from, Walk}
use Rattle.cover.specs.TableRounds.{table_of, edge_links, level_links, home}

-- x is 0 where no walk goes from w to v, and d + 1 where the least length of one is d
pub record IsLeast (g : Graph) (w v x : ℕ) : Type 0 where
  pub none : x ≡ 0 → (l : ℕ) → Walk g w v l → ⊥
  pub some : (d : ℕ) → x ≡ suc d → Walk g w v d
  pub least : (d l : ℕ) → x ≡ suc d → Walk g w v l → d ≤ l

-- the rule of distance over every edge, all levels being equal
abbrev pub walk_rule : Graph → Rule
walk_rule g = least_rule (level_links g (λ _. 1)) (λ e. L g (from g e))

-- a table of sixteen columns: that of the vertex `w i` starts at 0 at `w i` itself, else unknown
abbrev pub walk_start : Graph → (ℕ → ℕ) → List ℕ
walk_start g w = table_of (vertex_count g) (λ v i. home (w i ∷ []) 1 v)

-- a round of least walks
abbrev pub walk_round : Graph → List ℕ → List ℕ
walk_round g = table_round cell_place (λ _. walk_rule g) table_row (vertex_count g)

-- what the rounds leave
pub record WalkTable (g : Graph) (w : ℕ → ℕ) (t : List ℕ) : Type 0 where
  pub size : length t ≡ table_row * vertex_count g
  pub cells : (v i : ℕ) → Within (vertex_count g) v → Within table_row i → IsLeast g (w i) v (cell cell_place v i t)

-- over the first k edges, the least of walks back to w: 0 for none, d + 1 for d; `has u` is the entry of the least walk from w to u
unfoldable pub round_trip : Graph → (ℕ → ℕ) → ℕ → ℕ → ℕ
round_trip g has w k = gather closer ((edge_links g).into? w) (λ e. shift (has (from g e)) (L g (from g e))) 0 k

-- the closed walk of w by the least walks from it, as `IsClosed` says it in document 01's words: 0 if there is none
abbrev pub closed_by : Graph → (ℕ → ℕ) → ℕ → ℕ
closed_by g has w = round_trip g has w (edge_count g) - 1
