-- "Content means the used places.": when lent buffers hold a graph.
use Rattle.std.specs.Prelude.{ℕ, ◌*◌, ◌<◌, ◌≡◌, [], length, get_or, take, drop}
use Rattle.wire.specs.Sizes.{path_room}
use Rattle.graph.specs.Content.{Graph, vertex_count, edge_count, path_count, letters_of, lengths_of, edge_numbers, counts_of}
use Rattle.graph.specs.Entries.{Buffers, Given}

-- the used places hold the graph's content, whatever the others hold
pub record Holds (b : Buffers) (g : Graph) : Type 0 where
  pub lengths : take (vertex_count g) b.lengths ≡ lengths_of g
  pub letters : take (length (letters_of g)) b.letters ≡ letters_of g
  pub edges : take (2 * edge_count g) b.edges ≡ edge_numbers g.edges
  pub counts : take (path_count g) b.counts ≡ counts_of g
  -- "Path i starts at place 1,024(i − 1)"; here paths are counted from 0
  pub paths : (i : ℕ) → i < path_count g
      → take (length (get_or g.paths i [])) (drop (path_room * i) b.paths) ≡ get_or g.paths i []

-- buffers given with the counts of a graph
abbrev pub given_of : Graph → Buffers → Given
given_of g b = record { n = vertex_count g; m = edge_count g; k = path_count g; buffers = b }
