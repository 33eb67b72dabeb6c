-- The encoding of what stands in the used places, part after part, and its length.
-- Assumes nothing.
use Prim.Native.Nat.{ℕ, zero, suc, ◌+◌, ◌-◌, ◌*◌, ◌≤◌, ◌<◌}
use mathlib.Core.Path.{◌≡◌, refl, sym, ap, ◌∙◌}
use mathlib.Core.List.{List, [], ◌∷◌, ◌++◌}
use native.Mathlib.Omega.{arith}
use native.Mathlib.Numerals.{add-one}
use lib.ListN.{length, get_or, take, drop, length-append, drop_of_length-le}
use lib.Seq.{drop-cons}
use Rattle.wire.specs.Numbers.{encode}
use Rattle.wire.specs.Sizes.{graph_kind, path_room}
use Rattle.wire.proofs.Encoding.{encode_most}
use Rattle.graph.specs.Encode.{encode_numbers, encode_labels, encode_edges, encode_paths, encode_graph}
use Rattle.graph.specs.Entries.{Given, numbers_in, labels_in, edges_in, paths_in, graph_in}
use Rattle.graph.proofs.Givens.{length-labels, length-edges, length-paths}
pub use Rattle.graph.proofs.Givens.{length-numbers, numbers_part}
use Rattle.graph_content.specs.Used.{labels_size}

-- one of n more is left before place i than after it
pub left-more : (n i : ℕ) → i < n → n - i ≡ suc (n - (i + 1))
left-more n i h = omega arith

pub left-all : (n : ℕ) → n - 0 ≡ n
left-all n = omega arith

pub left-none : (n i : ℕ) → n ≤ i → n - i ≡ 0
left-none n i h = omega arith

-- ---- numbers

pub numbers_at : (left at j : ℕ) (s : List ℕ) → j < left → get_or (numbers_in left at s) j 0 ≡ get_or s (at + j) 0
unfolding numbers_in
numbers_at zero at j s h = absurd (omega arith)
numbers_at (suc left) at zero s h = let e : at + 0 ≡ at = omega arith in ap (λ (i : ℕ). get_or s i 0) (sym e)
numbers_at (suc left) at (suc j) s h =
    let e : at + 1 + j ≡ at + suc j = omega arith in
    numbers_at left (at + 1) j s (omega arith) ∙ ap (λ (i : ℕ). get_or s i 0) e

-- the same where the part is told by its two ends
pub numbers_between : (a e left : ℕ) (s : List ℕ) → e ≡ a + left → e ≤ length s → take (e - a) (drop a s) ≡ numbers_in left a s
numbers_between a e left s p h =
    let d : e - a ≡ left = omega arith in
    ap (λ (n : ℕ). take n (drop a s)) d ∙ numbers_part left a s (omega arith)

pub numbers-next : (xs : List ℕ) (i : ℕ) → i < length xs
    → encode_numbers (drop i xs) ≡ encode (get_or xs i 0) ++ encode_numbers (drop (i + 1) xs)
unfolding encode_numbers
numbers-next xs i h = rw (drop-cons xs i 0 h, add-one)

pub numbers_end : (xs : List ℕ) (i : ℕ) → length xs ≤ i → encode_numbers (drop i xs) ≡ []
unfolding encode_numbers
numbers_end xs i h = rw (drop_of_length-le xs h)

pub numbers_most : (xs : List ℕ) → length (encode_numbers xs) ≤ 5 * length xs
unfolding encode_numbers
numbers_most [] = omega arith
numbers_most (x ∷ xs) = simp length-append (omega (arith, encode_most x, numbers_most xs))

-- ---- labels

module _ (letters lengths : List ℕ) (n i sum : ℕ) where
  pub labels_next : i < n
      → encode_labels (labels_in (n - i) i sum letters lengths)
      ≡ encode (get_or lengths i 0)
      ++ (numbers_in (get_or lengths i 0) sum letters
      ++ encode_labels (labels_in (n - (i + 1)) (i + 1) (sum + get_or lengths i 0) letters lengths))
  unfolding encode_labels labels_in
  labels_next h = simp (left-more n i h, length-numbers)

  -- with the length and the letters themselves
  pub label-next : (x : ℕ) (p : List ℕ) → x ≡ get_or lengths i 0 → p ≡ numbers_in (get_or lengths i 0) sum letters → i < n
      → encode_labels (labels_in (n - i) i sum letters lengths)
      ≡ encode x ++ (p ++ encode_labels (labels_in (n - (i + 1)) (i + 1) (sum + x) letters lengths))
  label-next x p e f h = rw (e, f) (labels_next h)

  pub labels_end : n ≤ i → encode_labels (labels_in (n - i) i sum letters lengths) ≡ []
  unfolding encode_labels labels_in
  labels_end h = simp (left-none n i h)

pub labels-size : (left i sum : ℕ) (letters lengths : List ℕ) → length (encode_labels (labels_in left i sum letters lengths)) ≡ labels_size left i lengths
unfolding encode_labels labels_in labels_size
labels-size zero i sum letters lengths = refl
labels-size (suc left) i sum letters lengths =
    simp (length-append, length-numbers, labels-size left (i + 1) (sum + get_or lengths i 0) letters lengths)

module _ (lengths : List ℕ) (n i : ℕ) where
  pub size-next : i < n
      → labels_size (n - i) i lengths ≡ length (encode (get_or lengths i 0)) + (get_or lengths i 0 + labels_size (n - (i + 1)) (i + 1) lengths)
  unfolding labels_size
  size-next h = simp (left-more n i h)

  pub size_end : n ≤ i → labels_size (n - i) i lengths ≡ 0
  unfolding labels_size
  size_end h = simp (left-none n i h)

-- ---- edges

-- the edges are written as their numbers
pub edges-numbers : (left i : ℕ) (edges : List ℕ) → encode_edges (edges_in left i edges) ≡ encode_numbers (numbers_in (2 * left) (2 * i) edges)
unfolding encode_edges edges_in encode_numbers numbers_in
edges-numbers zero i edges = refl
edges-numbers (suc left) i edges =
    let d : 2 * suc left ≡ suc (suc (2 * left)) = omega arith in
    let e : 2 * (i + 1) ≡ 2 * i + 1 + 1 = omega arith in
    simp (d, edges-numbers left (i + 1) edges, e)

-- ---- paths

module _ (paths counts : List ℕ) (k i : ℕ) where
  pub paths-next : i < k
      → encode_paths (paths_in (k - i) i paths counts)
      ≡ encode (get_or counts i 0)
      ++ (encode_numbers (numbers_in (get_or counts i 0) (path_room * i) paths) ++ encode_paths (paths_in (k - (i + 1)) (i + 1) paths counts))
  unfolding encode_paths paths_in
  paths-next h = simp (left-more k i h, length-numbers)

  -- with the path itself
  pub path-next : (p : List ℕ) → p ≡ numbers_in (get_or counts i 0) (path_room * i) paths → i < k
      → encode_paths (paths_in (k - i) i paths counts)
      ≡ encode (length p) ++ (encode_numbers p ++ encode_paths (paths_in (k - (i + 1)) (i + 1) paths counts))
  path-next p e h = rw (e, length-numbers) (paths-next h)

  pub paths_end : k ≤ i → encode_paths (paths_in (k - i) i paths counts) ≡ []
  unfolding encode_paths paths_in
  paths_end h = simp (left-none k i h)

-- ---- the whole

-- the bytes of the graph in the used places, section after section
pub graph-bytes : (c : Given)
    → encode_graph (graph_in c)
    ≡ encode graph_kind
    ++ (encode c.n
    ++ (encode_labels (labels_in c.n 0 0 c.buffers.letters c.buffers.lengths)
    ++ (encode c.m
    ++ (encode_numbers (numbers_in (2 * c.m) 0 c.buffers.edges)
    ++ (encode c.k ++ encode_paths (paths_in c.k 0 c.buffers.paths c.buffers.counts))))))
unfolding encode_graph
graph-bytes c =
    simp (
      length-labels c.n 0 0 c.buffers.letters c.buffers.lengths,
      length-edges c.m 0 c.buffers.edges,
      length-paths c.k 0 c.buffers.paths c.buffers.counts,
      edges-numbers c.m 0 c.buffers.edges,
    )

pub graph-length : (c : Given)
    → length (encode_graph (graph_in c))
    ≡ length (encode graph_kind)
    + (length (encode c.n)
    + (labels_size c.n 0 c.buffers.lengths
    + (length (encode c.m)
    + (length (encode_numbers (numbers_in (2 * c.m) 0 c.buffers.edges))
    + (length (encode c.k) + length (encode_paths (paths_in c.k 0 c.buffers.paths c.buffers.counts)))))))
graph-length c =
    ap length (graph-bytes c)
    ∙ simp (length-append, labels-size c.n 0 0 c.buffers.letters c.buffers.lengths)
