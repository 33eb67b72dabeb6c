-- Whether a path's step is an edge, searched for as the file lists them.
use Rattle.std.specs.Prelude.{ℕ, zero, suc, List, Bool, true, false, ◌&&◌, eqb}
use Rattle.wire.specs.Cases.{pick}
use Rattle.wire.specs.Numbers.{number_at}
use Rattle.graph.specs.Content.{Edge}
use Rattle.graph.specs.Rules.{edge_below}
use Rattle.graph_paths.specs.declared.search.Search.{Search}
use Rattle.wire.specs.Found.{Found, good, fault, Part}

-- the edge e is u to v
abbrev pub same_edge : Edge → ℕ → ℕ → Bool
same_edge e u v = ◌&&◌ (eqb e.from u) (eqb e.to v)

-- goes on with a number's value and the place after it, or gives the other answer
abbrev pub read_or : {B : Type 0} → B → Found (Part ℕ) → (ℕ → ℕ → B) → B
read_or b (good r) go = go r.content r.next
read_or b (fault k place) go = b

-- the search for u to v along the edges, `left` of them from a place on: it ends at the first edge that is not below
unfoldable pub search_at : ℕ → List ℕ → ℕ → ℕ → ℕ → Search
search_at zero s at u v = record { found = false; at = at; left = 0 }
search_at (suc left) s at u v =
    read_or (record { found = false; at = at; left = suc left }) (number_at s at) (λ x a.
    read_or (record { found = false; at = at; left = suc left }) (number_at s a) (λ y b.
    pick (edge_below (record { from = x; to = y }) (record { from = u; to = v }))
    (search_at left s b u v)
    (record { found = same_edge (record { from = x; to = y }) u v; at = at; left = suc left })))

-- the search for a path's step; before a path's first vertex u is 0, and there is no step
unfoldable pub step_at : ℕ → List ℕ → ℕ → ℕ → ℕ → Search
step_at left s at u v = pick (eqb u 0) (record { found = true; at = at; left = left }) (search_at left s at u v)
