-- From what the check finds to the reader's promise: what the fills may rely on, and what each way through the reader answers.
-- Assumes nothing.
use Prim.Native.Nat.{ℕ, ◌*◌, ◌≤◌}
use mathlib.Core.Path.{◌≡◌, refl, sym, ap, ◌∙◌}
use mathlib.Core.List.{List, map, flatten}
use mathlib.Core.Bool.{Bool, true, false}
use lib.ListN.{length}
use lib.Dec.{leb}
use borrow.Author.Tests.{leb-true}
use Rattle.wire.specs.Found.{Found, good, fault, Part, refused}
use Rattle.wire.specs.Lent.{laid}
use Rattle.wire.specs.Refusals.{small_buffer, graph_file}
use Rattle.wire.specs.Sizes.{most_edges, path_room, full_letters, full_lengths, full_edges, full_paths, full_counts}
use Rattle.graph.specs.Content.{edge_numbers, path_numbers}
use Rattle.graph.specs.Good.{All}
use Rattle.graph.specs.Reading.{Parsed, labels_from, graph_of}
use Rattle.graph.specs.Entries.{Buffers, room_for, roomy, read_reply, filled}
use Rattle.graph_check.specs.Checked.{sections_of, checked_of}
use Rattle.graph_check.specs.declared.Sections.{Sections}
use Rattle.graph.proofs.Kept.{both}
use Rattle.graph.proofs.Parted.{parts}
use Rattle.graph_read.specs.declared.GraphAnswer.{GraphAnswer}
use Rattle.graph_read.specs.Answer.{answer_of, counts_answer, Answered}
use Rattle.graph_fill.specs.Filling.{labels_in, numbers_in, paths_in}
use Rattle.graph_fill.proofs.Decoding.{labels-are, edges_are_lem, paths-are, paths_fit_lem}

-- the buffers as they were lent
abbrev pub lent : List ℕ → List ℕ → List ℕ → List ℕ → List ℕ → Buffers
lent letters lengths edges paths counts = record { letters = letters; lengths = lengths; edges = edges; paths = paths; counts = counts }

-- what the room test says
pub room : (b : Buffers) {t d : Bool} → t ≡ room_for (length b.letters) (length b.lengths) (length b.edges) (length b.paths) (length b.counts) → t ≡ d → roomy b ≡ d
unfolding roomy
room b e f = sym e ∙ f

-- ---- refusals

pub fault-found : (x : Found Parsed) (k place : ℕ) → checked_of x ≡ fault k place → x ≡ fault k place
fault-found (good p) k place e = absurd (cc)
fault-found (fault j at) k place e = cc

module _ (file : List ℕ) (b : Buffers) where
  refused-answered : (k f place : ℕ) (r : GraphAnswer) → read_reply file b ≡ refused k f place → r ≡ answer_of (refused k f place)
      → Answered file b b r
  refused-answered k f place r h e = record { answer = e ∙ rw h; buffers = rw h }

  -- a buffer is below full size
  pub small-answered : (r : GraphAnswer) → roomy b ≡ false → r ≡ answer_of (refused small_buffer 0 0) → Answered file b b r
  unfolding read_reply
  small-answered r h e = refused-answered small_buffer 0 0 r (rw h) e

  -- the file has a fault
  pub fault-answered : (k place : ℕ) (r : GraphAnswer) → roomy b ≡ true → graph_of file ≡ fault k place → r ≡ answer_of (refused k graph_file place)
      → Answered file b b r
  unfolding read_reply
  fault-answered k place r h g e = refused-answered k graph_file place r (rw (h, g)) e

-- ---- acceptance

good-found : (x : Found Parsed) (sections : Sections) → checked_of x ≡ good sections → (p : Parsed) × (x ≡ good p) × (sections ≡ sections_of p)
good-found (good p) sections e = (p, refl, cc)
good-found (fault k place) sections e = absurd (cc)

-- what an accepted file's sections are, and that each has room
pub record Ready (s : List ℕ) (sections : Sections) : Type 0 where
  pub parsed : Parsed
  pub found : graph_of s ≡ good parsed
  pub same : sections ≡ sections_of parsed
  pub labels_taken : labels_from sections.n 0 s sections.labels ≡ good (labels_in s sections.n sections.labels)
  pub labels_are : (labels_in s sections.n sections.labels).content ≡ parsed.graph.labels
  pub few_vertices : sections.n ≤ full_lengths
  pub edges_are : (numbers_in s (2 * sections.m) sections.edges).content ≡ edge_numbers parsed.graph.edges
  pub few_edges : sections.m ≤ most_edges
  pub paths_are : (paths_in s sections.k sections.paths).content ≡ parsed.graph.paths
  pub paths_fit : All (λ p. length p ≤ path_room) (paths_in s sections.k sections.paths).content
  pub few_paths : sections.k ≤ full_counts

ready_parts : (s : List ℕ) (p : Parsed) → graph_of s ≡ good p → Ready s (sections_of p)
ready_parts s p e =
    let t = parts s p e in
    let f = t.front in
    let l = labels-are _ 0 s p.labels_at _ f.labels_is in
    let k = paths-are _ p.graph.edges _ s p.paths_at _ t.paths_is in
    let paths_is = ap (λ (r : Part (List (List ℕ))). r.content) k in
    record {
      parsed = p;
      found = e;
      same = refl;
      labels_taken = f.labels_is ∙ ap good l;
      labels_are = sym (ap (λ (r : Part (List (List ℕ))). r.content) l);
      few_vertices = f.few_vertices;
      edges_are = sym (edges_are_lem _ _ _ s p.edges_at _ f.edges_is);
      few_edges = f.few_edges;
      paths_are = sym paths_is;
      paths_fit = rw paths_is at (paths_fit_lem _ path_room p.graph.paths f.few_vertices t.paths_hold.lengths);
      few_paths = t.few_paths;
    }

pub ready : (s : List ℕ) (sections : Sections) → checked_of (graph_of s) ≡ good sections → Ready s sections
ready s sections e =
    let g = good-found (graph_of s) sections e in
    rw g.2 (ready_parts s g.0 g.1)

-- each buffer has full size
pub record Full (b : Buffers) : Type 0 where
  pub letters : full_letters ≤ length b.letters
  pub lengths : full_lengths ≤ length b.lengths
  pub edges : full_edges ≤ length b.edges
  pub paths : full_paths ≤ length b.paths
  pub counts : full_counts ≤ length b.counts

pub roomy_full : (b : Buffers) → roomy b ≡ true → Full b
unfolding roomy
roomy_full b h =
    let one = both (leb full_letters (length b.letters)) _ h in
    let two = both (leb full_lengths (length b.lengths)) _ one.1 in
    let three = both (leb full_edges (length b.edges)) _ two.1 in
    let four = both (leb full_paths (length b.paths)) _ three.1 in
    record {
      letters = leb-true full_letters (length b.letters) one.0;
      lengths = leb-true full_lengths (length b.lengths) two.0;
      edges = leb-true full_edges (length b.edges) three.0;
      paths = leb-true full_paths (length b.paths) four.0;
      counts = leb-true full_counts (length b.counts) four.1;
    }

-- the file is accepted, and each buffer was filled from its section
module _ (file : List ℕ) (b : Buffers) (sections : Sections) (letters lengths edges paths counts : List ℕ) (r : GraphAnswer) where
  pub accepted-answered : roomy b ≡ true → Ready file sections
      → letters ≡ laid full_letters (flatten (labels_in file sections.n sections.labels).content) b.letters
      → lengths ≡ laid full_lengths (map length (labels_in file sections.n sections.labels).content) b.lengths
      → edges ≡ laid full_edges (numbers_in file (2 * sections.m) sections.edges).content b.edges
      → paths ≡ laid full_paths (path_numbers (paths_in file sections.k sections.paths).content) b.paths
      → counts ≡ laid full_counts (map length (paths_in file sections.k sections.paths).content) b.counts
      → r ≡ counts_answer sections
      → Answered file b (record { letters = letters; lengths = lengths; edges = edges; paths = paths; counts = counts }) r
  unfolding read_reply filled
  accepted-answered h t e1 e2 e3 e4 e5 q =
      record {
        answer = q ∙ rw (h, t.found, t.same);
        buffers = rw (h, t.found, e1, e2, e3, e4, e5, t.labels_are, t.edges_are, t.paths_are);
      }
