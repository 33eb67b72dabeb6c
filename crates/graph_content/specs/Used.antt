-- Content in lent buffers, by the buffers one by one.
use Rattle.std.specs.Prelude.{ℕ, zero, suc, ◌+◌, ◌^◌, ◌≤◌, ◌<◌, List, length, get_or}
use Rattle.wire.specs.Numbers.{encode}
use Rattle.wire.specs.Sizes.{full_letters, full_lengths, full_edges, full_paths, full_counts, path_room}
use Rattle.graph.specs.Entries.{Given}

-- content as the writer is given it
abbrev pub given_of : ℕ → ℕ → ℕ → List ℕ → List ℕ → List ℕ → List ℕ → List ℕ → Given
given_of n m k letters lengths edges paths counts = record {
  n = n;
  m = m;
  k = k;
  buffers = record { letters = letters; lengths = lengths; edges = edges; paths = paths; counts = counts };
}

-- each buffer has full size, by the buffers' lengths
abbrev pub Full : ℕ → ℕ → ℕ → ℕ → ℕ → Type 0
Full letters lengths edges paths counts =
    (full_letters ≤ letters) × (full_lengths ≤ lengths) × (full_edges ≤ edges) × (full_paths ≤ paths) × (full_counts ≤ counts)

-- every number fits 32 bits, as those of a slice do
abbrev pub Fit : List ℕ → Type 0
Fit xs = (i : ℕ) → get_or xs i 0 < 2 ^ 32

-- every number of the content fits 32 bits
pub record Fits (c : Given) : Type 0 where
  pub n : c.n < 2 ^ 32
  pub m : c.m < 2 ^ 32
  pub k : c.k < 2 ^ 32
  pub lengths : Fit c.buffers.lengths
  pub edges : Fit c.buffers.edges
  pub paths : Fit c.buffers.paths
  pub counts : Fit c.buffers.counts

-- how many bytes the labels take, `left` of them from label i on: the lengths say it
unfoldable pub labels_size : ℕ → ℕ → List ℕ → ℕ
labels_size zero i lengths = 0
labels_size (suc left) i lengths = length (encode (get_or lengths i 0)) + (get_or lengths i 0 + labels_size left (i + 1) lengths)

-- no path is longer than its room
abbrev pub Roomed : ℕ → List ℕ → Type 0
Roomed k counts = (i : ℕ) → i < k → get_or counts i 0 ≤ path_room
