-- The reader and the writer undo one another: on file bytes, and on the used places of lent buffers.
-- Assumes nothing.
use Prim.Native.Nat.{ℕ, zero, suc, ◌+◌, ◌*◌, ◌≤◌, ◌<◌}
use mathlib.Core.Path.{◌≡◌, refl, sym, ap, ap₂, ◌∙◌, subst}
use mathlib.Core.Logic.{inl, inr, ◌↔◌}
use mathlib.Core.List.{List, [], ◌∷◌, ◌++◌, flatten, append_assoc}
use mathlib.Core.Bool.{true}
use native.Mathlib.Omega.{arith}
use lib.ListN.{length, get_or, take, drop, length-append, length-map}
use lib.Seq.{take_at, drop_at, drop-drop}
use lib.Dec.{leb}
use borrow.Author.Tests.{leb-true, leb-false, le-leb, lt-leb}
use Rattle.wire.specs.Found.{Found, good, fault, Reply, accepted, refused, in_file, as_content, refusal_number}
use Rattle.wire.specs.Lent.{padded, laid, front}
use Rattle.wire.specs.Refusals.{out_of_range, small_buffer, short_output, graph_file}
use Rattle.wire.specs.Sizes.{most_file_bytes, full_letters, full_lengths, full_edges, full_paths, full_counts, path_room}
use Rattle.wire.proofs.Finding.{good-same}
use Rattle.wire.proofs.Replying.{on-accepted, on-refused, file-accepted, file-refused, test_accepted, test_refused}
use Rattle.wire.proofs.Laying.{length-padded, length-laid}
use Rattle.wire.proofs.NumberLaws.{Bytes}
use Rattle.graph.specs.Content.{Edge, Graph, vertex_count, edge_count, path_count, letters_of, lengths_of, edge_numbers, path_numbers, counts_of}
use Rattle.graph.specs.Good.{All, GoodGraph}
use Rattle.graph.specs.Encode.{encode_graph}
use Rattle.graph.specs.Reading.{Parsed, whole_of, graph_of}
use Rattle.graph.specs.Placed.{parsed_of}
use Rattle.graph.specs.Entries.{Buffers, roomy, read_reply, filled, read_after, Given, numbers_in, edges_in, paths_in, graph_in, graph_given, size_reply, write_reply, write_after}
use Rattle.graph.specs.Used.{Holds, given_of}
use Rattle.graph.proofs.Kept.{both}
use Rattle.graph.proofs.Parted.{whole_parts}
use Rattle.graph.proofs.Whole.{parts_good, taken}
use Rattle.graph.proofs.RereadWhole.{whole_again, graph_again}
use Rattle.graph.proofs.ContentReading.{given-good}
use Rattle.graph.proofs.Givens.{length-numbers, numbers_part, length-labels, labels-lengths, labels-letters, length-edges, edges-numbers_in, length-paths, paths-counts, paths-each, labels-held, edges-held, paths-held}

-- ---- full size

-- each buffer has full size
pub record Room (b : Buffers) : Type 0 where
  pub letters : full_letters ≤ length b.letters
  pub lengths : full_lengths ≤ length b.lengths
  pub edges : full_edges ≤ length b.edges
  pub paths : full_paths ≤ length b.paths
  pub counts : full_counts ≤ length b.counts

-- the test says so exactly
pub roomy-room : (b : Buffers) → roomy b ≡ true → Room b
unfolding roomy
roomy-room b e =
    let p = both (leb full_letters (length b.letters)) _ e in
    let q = both (leb full_lengths (length b.lengths)) _ p.1 in
    let r = both (leb full_edges (length b.edges)) _ q.1 in
    let s = both (leb full_paths (length b.paths)) (leb full_counts (length b.counts)) r.1 in
    record {
      letters = leb-true full_letters (length b.letters) p.0;
      lengths = leb-true full_lengths (length b.lengths) q.0;
      edges = leb-true full_edges (length b.edges) r.0;
      paths = leb-true full_paths (length b.paths) s.0;
      counts = leb-true full_counts (length b.counts) s.1;
    }

pub room-roomy : (b : Buffers) → Room b → roomy b ≡ true
unfolding roomy
room-roomy b r =
    simp (
      le-leb full_letters (length b.letters) r.letters,
      le-leb full_lengths (length b.lengths) r.lengths,
      le-leb full_edges (length b.edges) r.edges,
      le-leb full_paths (length b.paths) r.paths,
      le-leb full_counts (length b.counts) r.counts,
    )

-- ---- content that is given

-- what holds of each element, at a place
pub all_at : {A : Type 0} (P : A → Type 0) (xs : List A) (i : ℕ) (d : A) → All P xs → i < length xs → P (get_or xs i d)
unfolding All
all_at P [] i d h k = absurd (omega arith)
all_at P (x ∷ xs) zero d h k = h.0
all_at P (x ∷ xs) (suc i) d h k = all_at P xs i d h.1 (omega arith)

-- the writer takes exactly the content that the used places hold, where it keeps the rules
pub record Takes (c : Given) (g : Graph) : Type 0 where
  pub n : c.n ≡ vertex_count g
  pub m : c.m ≡ edge_count g
  pub k : c.k ≡ path_count g
  pub holds : Holds c.buffers g
  pub rules : GoodGraph g

-- the used places hold the graph that is taken from them, where it keeps the rules
in_holds : (c : Given) → Room c.buffers → GoodGraph (graph_in c) → Takes c (graph_in c)
in_holds c room h =
    let b = c.buffers in
    let n : length (graph_in c).labels ≡ c.n = length-labels c.n 0 0 b.letters b.lengths in
    let m : length (graph_in c).edges ≡ c.m = length-edges c.m 0 b.edges in
    let k : length (graph_in c).paths ≡ c.k = length-paths c.k 0 b.paths b.counts in
    let few = h.few_vertices in
    record {
      n = sym n;
      m = sym m;
      k = sym k;
      holds = record {
        lengths = rw n (numbers_part c.n 0 b.lengths (omega (arith, room.lengths)) ∙ sym (labels-lengths c.n 0 0 b.letters b.lengths));
        letters = numbers_part (length (letters_of (graph_in c))) 0 b.letters (omega (arith, h.few_letters, room.letters))
            ∙ sym (labels-letters c.n 0 0 b.letters b.lengths);
        edges = rw m (numbers_part (2 * c.m) 0 b.edges (omega (arith, h.few_edges, room.edges)) ∙ sym (edges-numbers_in c.m 0 b.edges));
        counts = rw k (numbers_part c.k 0 b.counts (omega (arith, h.few_paths, room.counts)) ∙ sym (paths-counts c.k 0 b.paths b.counts));
        paths = λ i o.
            let z : 0 + i ≡ i = omega arith in
            let e : get_or (graph_in c).paths i [] ≡ numbers_in (get_or b.counts i 0) (path_room * i) b.paths =
            paths-each c.k 0 b.paths b.counts i (omega arith) ∙ ap (λ (j : ℕ). numbers_in (get_or b.counts j 0) (path_room * j) b.paths) z in
            let l = (all_at (λ (p : List ℕ). (1 ≤ length p) × (length p ≤ vertex_count (graph_in c))) (graph_in c).paths i [] h.path_lengths o).1 in
            let q : length (get_or (graph_in c).paths i []) ≡ get_or b.counts i 0 = ap length e ∙ length-numbers (get_or b.counts i 0) (path_room * i) b.paths in
            ap (λ (j : ℕ). take j (drop (path_room * i) b.paths)) q
            ∙ numbers_part (get_or b.counts i 0) (path_room * i) b.paths (omega (arith, h.few_paths, room.paths))
            ∙ sym e;
      };
      rules = h;
    }

-- what the writer takes is the graph in the used places, and keeps the rules
pub given_in : (c : Given) (g : Graph) → graph_given c ≡ good g → (graph_in c ≡ g) × GoodGraph g
unfolding graph_given
given_in c g e =
    (good-same (graph_in c) g (sym (given-good c (ap refusal_number e)) ∙ e), found (whole_of (encode_graph (graph_in c))) refl e)
  where
    found : (x : Found Parsed) → whole_of (encode_graph (graph_in c)) ≡ x → as_content (λ p. p.graph) x ≡ good g → GoodGraph g
    found (good p) f h =
        subst GoodGraph (good-same p.graph g h) (parts_good (encode_graph (graph_in c)) p (whole_parts (encode_graph (graph_in c)) p f))
    found (fault k place) f h = let z : ◌≡◌ {A = ℕ} 0 1 = cc in absurd (omega arith)

-- content that the writer takes is held, and keeps the rules
pub given-takes : (c : Given) (g : Graph) → roomy c.buffers ≡ true → graph_given c ≡ good g → Takes c g
given-takes c g r e =
    let t = given_in c g e in
    subst (Takes c) t.0 (in_holds c (roomy-room c.buffers r) (subst GoodGraph (sym t.0) t.1))

-- content that buffers hold is the graph in their used places
holds_in : (g : Graph) (b : Buffers) → GoodGraph g → Room b → Holds b g → graph_in (given_of g b) ≡ g
holds_in g b h r t =
    let l = labels-held g.labels b.letters b.lengths (omega (arith, h.few_vertices, r.lengths)) (omega (arith, h.few_letters, r.letters))
    t.lengths t.letters in
    let e = edges-held g.edges b.edges (omega (arith, h.few_edges, r.edges)) t.edges in
    let p = paths-held g.paths b.paths b.counts (omega (arith, h.few_paths, r.counts)) t.counts
    (λ j o.
    let f = (all_at (λ (q : List ℕ). (1 ≤ length q) × (length q ≤ vertex_count g)) g.paths j [] h.path_lengths o).1 in
    omega (arith, h.few_vertices, h.few_paths, r.paths))
    t.paths in
    ap (λ (x : List (List ℕ)). record { labels = x; edges = edges_in (edge_count g) 0 b.edges; paths = paths_in (path_count g) 0 b.paths b.counts }) l
    ∙ ap₂ (λ (x : List Edge) (y : List (List ℕ)). record { labels = g.labels; edges = x; paths = y }) e p

-- content that is held and keeps the rules is taken
pub holds-given : (g : Graph) (b : Buffers) → GoodGraph g → roomy b ≡ true → Holds b g → graph_given (given_of g b) ≡ good g
unfolding graph_given
holds-given g b h e t =
    ap (λ (x : Graph). as_content (λ p. p.graph) (whole_of (encode_graph x))) (holds_in g b h (roomy-room b e) t)
    ∙ ap (as_content (λ p. p.graph)) (whole_again g h)

-- ---- buffers that the reader has filled

-- the used places of a buffer that is laid
laid_used : (full : ℕ) (used old : List ℕ) (n : ℕ) → length used ≡ n → take n (laid full used old) ≡ used
unfolding laid padded
laid_used full used old n e = ap (take n) (append_assoc used _ (drop full old)) ∙ take_at used _ n e

length-edge-numbers : (es : List Edge) → length (edge_numbers es) ≡ 2 * length es
unfolding edge_numbers
length-edge-numbers [] = refl
length-edge-numbers (e ∷ es) = omega (arith, length-edge-numbers es)

-- each path is no longer than its room
abbrev Fit : List (List ℕ) → Type 0
Fit ps = All (λ (p : List ℕ). length p ≤ path_room) ps

length-path-numbers : (ps : List (List ℕ)) → Fit ps → length (path_numbers ps) ≡ path_room * length ps
unfolding path_numbers All flatten
length-path-numbers [] f = refl
length-path-numbers (p ∷ ps) f =
    let a = length-append (padded path_room p) (path_numbers ps) in
    let l = length-padded path_room p f.0 in
    let i = length-path-numbers ps f.1 in
    omega arith

first_used : (p q rest : List ℕ) → take (length p) ((padded path_room p ++ q) ++ rest) ≡ p
unfolding padded
first_used p q rest =
    ap (take (length p)) (append_assoc (padded path_room p) q rest ∙ append_assoc p _ (q ++ rest)) ∙ take_at p _ (length p) refl

path_used : (ps : List (List ℕ)) (rest : List ℕ) → Fit ps → (i : ℕ) → i < length ps
    → take (length (get_or ps i [])) (drop (path_room * i) (path_numbers ps ++ rest)) ≡ get_or ps i []
unfolding path_numbers All flatten
path_used [] rest f i h = absurd (omega arith)
path_used (p ∷ ps) rest f zero h = first_used p (path_numbers ps) rest
path_used (p ∷ ps) rest f (suc i) h =
    let z : path_room * suc i ≡ path_room + path_room * i = omega arith in
    let d : drop path_room ((padded path_room p ++ path_numbers ps) ++ rest) ≡ path_numbers ps ++ rest =
    ap (drop path_room) (append_assoc (padded path_room p) (path_numbers ps) rest)
    ∙ drop_at (padded path_room p) _ path_room (length-padded path_room p f.0) in
    ap (λ (j : ℕ). take (length (get_or ps i [])) (drop j ((padded path_room p ++ path_numbers ps) ++ rest))) z
    ∙ ap (take (length (get_or ps i []))) (sym (drop-drop (path_room * i) path_room _) ∙ ap (drop (path_room * i)) d)
    ∙ path_used ps rest f.1 i (omega arith)

paths_fit_lem : (n : ℕ) (ps : List (List ℕ)) → n ≤ path_room → All (λ p. (1 ≤ length p) × (length p ≤ n)) ps → Fit ps
unfolding All
paths_fit_lem n [] h a = tt
paths_fit_lem n (p ∷ ps) h a = (omega (arith, a.0.1), paths_fit_lem n ps h a.1)

laid-path : (ps : List (List ℕ)) (old : List ℕ) → Fit ps → (i : ℕ) → i < length ps
    → take (length (get_or ps i [])) (drop (path_room * i) (laid full_paths (path_numbers ps) old)) ≡ get_or ps i []
unfolding laid padded
laid-path ps old f i h =
    ap (λ (t : List ℕ). take (length (get_or ps i [])) (drop (path_room * i) t)) (append_assoc (path_numbers ps) _ (drop full_paths old))
    ∙ path_used ps _ f i h

module _ (g : Graph) (b : Buffers) (h : GoodGraph g) where
  fit : Fit g.paths
  fit = paths_fit_lem (vertex_count g) g.paths h.few_vertices h.path_lengths

  -- the buffers that the reader leaves hold the content
  pub filled-holds : Holds (filled g b) g
  unfolding filled
  filled-holds = record {
    lengths = laid_used full_lengths (lengths_of g) b.lengths (vertex_count g) (length-map g.labels length);
    letters = laid_used full_letters (letters_of g) b.letters (length (letters_of g)) refl;
    edges = laid_used full_edges (edge_numbers g.edges) b.edges (2 * edge_count g) (length-edge-numbers g.edges);
    counts = laid_used full_counts (counts_of g) b.counts (path_count g) (length-map g.paths length);
    paths = laid-path g.paths b.paths fit;
  }

  -- and have the sizes that they had
  pub filled-roomy : roomy b ≡ true → roomy (filled g b) ≡ true
  unfolding filled
  filled-roomy e =
      let r = roomy-room b e in
      let l = length-map g.labels length in
      let c = length-map g.paths length in
      let p = length-path-numbers g.paths fit in
      room-roomy (filled g b)
      (record {
        letters = rw (length-laid full_letters (letters_of g) b.letters h.few_letters r.letters) r.letters;
        lengths = rw (length-laid full_lengths (lengths_of g) b.lengths (omega (arith, h.few_vertices)) r.lengths) r.lengths;
        edges = rw
            (length-laid full_edges (edge_numbers g.edges) b.edges (omega (arith, h.few_edges, length-edge-numbers g.edges)) r.edges)
            r.edges;
        paths = rw (length-laid full_paths (path_numbers g.paths) b.paths (omega (arith, h.few_paths)) r.paths) r.paths;
        counts = rw (length-laid full_counts (counts_of g) b.counts (omega (arith, h.few_paths)) r.counts) r.counts;
      })

-- ---- what the writer replies

reply-found : (c : Given) (g : Graph) (room : ℕ) → roomy c.buffers ≡ true → graph_given c ≡ good g
    → length (encode_graph g) ≤ most_file_bytes → length (encode_graph g) ≤ room → write_reply c room ≡ accepted g
unfolding write_reply size_reply
reply-found c g room r e h k =
    simp (r, e, le-leb (length (encode_graph g)) most_file_bytes h, le-leb (length (encode_graph g)) room k)

-- content that buffers hold is accepted where it keeps the rules and the file has room
pub holds-accepted : (g : Graph) (b : Buffers) (room : ℕ) → GoodGraph g → roomy b ≡ true → Holds b g
    → length (encode_graph g) ≤ most_file_bytes → length (encode_graph g) ≤ room → write_reply (given_of g b) room ≡ accepted g
holds-accepted g b room h r t short fits = reply-found (given_of g b) g room r (holds-given g b h r t) short fits

-- the graph's encoding is short enough for a file and for the room
size_kept : (room : ℕ) (g h : Graph) → size_reply room g ≡ accepted h
    → (g ≡ h) × (length (encode_graph g) ≤ most_file_bytes) × (length (encode_graph g) ≤ room)
unfolding size_reply
size_kept room g h e =
    let p = test_accepted (leb (length (encode_graph g)) most_file_bytes) _ out_of_range graph_file most_file_bytes h e in
    let q = test_accepted (leb (length (encode_graph g)) room) (accepted g) short_output 0 0 h p.1 in
    (cc, leb-true (length (encode_graph g)) most_file_bytes p.0, leb-true (length (encode_graph g)) room q.0)

-- what an acceptance of the writer says
pub record Written (c : Given) (room : ℕ) (g : Graph) : Type 0 where
  pub takes : Takes c g
  pub short : length (encode_graph g) ≤ most_file_bytes
  pub fits : length (encode_graph g) ≤ room
  pub again : graph_of (encode_graph g) ≡ good (parsed_of g)

-- Content that the writer accepts is what the used places hold; written and read again, it is the same content.
pub write_read : (c : Given) (room : ℕ) (g : Graph) → write_reply c room ≡ accepted g → Written c room g
unfolding write_reply
write_read c room g e =
    let p = test_accepted (roomy c.buffers) _ small_buffer 0 0 g e in
    let q = on-accepted (in_file graph_file (graph_given c)) (size_reply room) g p.1 in
    let s = size_kept room q.0 g q.2 in
    let t = given-takes c q.0 p.0 (file-accepted graph_file (graph_given c) q.0 q.1) in
    subst (Written c room) s.0
    (record { takes = t; short = s.1; fits = s.2; again = graph_again q.0 t.rules s.1 })

-- A file that is accepted, read into buffers and written again with room, gives the same bytes.
pub read_write : (s : List ℕ) (p : Parsed) (b : Buffers) (room : ℕ) (out : List ℕ) → Bytes s → graph_of s ≡ good p → roomy b ≡ true → length s ≤ room
    → (write_reply (given_of p.graph (filled p.graph b)) room ≡ accepted p.graph)
    × (write_after (write_reply (given_of p.graph (filled p.graph b)) room) out ≡ front s out)
read_write s p b room out y e r fits =
    let t = taken s p y e in
    let g = p.graph in
    let a : write_reply (given_of g (filled g b)) room ≡ accepted g =
    holds-accepted g (filled g b) room t.rules (filled-roomy g b t.rules r) (filled-holds g b t.rules)
    (subst (λ (u : List ℕ). length u ≤ most_file_bytes) t.bytes t.short)
    (subst (λ (u : List ℕ). length u ≤ room) t.bytes fits) in
    (a, ap (λ (x : Reply Graph). write_after x out) a ∙ ap (λ (u : List ℕ). front u out) (sym t.bytes))

-- ---- the entries, one after the other

-- what an acceptance of the reader says
pub read-accepted : (s : List ℕ) (b : Buffers) (p : Parsed) → read_reply s b ≡ accepted p → (roomy b ≡ true) × (graph_of s ≡ good p)
unfolding read_reply
read-accepted s b p e =
    let q = test_accepted (roomy b) (in_file graph_file (graph_of s)) small_buffer 0 0 p e in
    (q.0, file-accepted graph_file (graph_of s) p q.1)

-- a graph's encoding is accepted by the reader, and the buffers then hold the graph
pub read_again_holds : (g : Graph) (b : Buffers) → GoodGraph g → length (encode_graph g) ≤ most_file_bytes → roomy b ≡ true
    → (read_reply (encode_graph g) b ≡ accepted (parsed_of g)) × Holds (read_after (read_reply (encode_graph g) b) b) g
unfolding read_reply
read_again_holds g b h short r =
    let a : read_reply (encode_graph g) b ≡ accepted (parsed_of g) = simp (r, graph_again g h short) in
    (a, subst (λ (x : Reply Parsed). Holds (read_after x b) g) (sym a) (filled-holds g b h))

-- read, then written with room: the same bytes
pub read_then_write : (s : List ℕ) (b : Buffers) (p : Parsed) (room : ℕ) (out : List ℕ) → Bytes s → read_reply s b ≡ accepted p → length s ≤ room
    → (write_reply (given_of p.graph (read_after (read_reply s b) b)) room ≡ accepted p.graph)
    × (write_after (write_reply (given_of p.graph (read_after (read_reply s b) b)) room) out ≡ front s out)
read_then_write s b p room out y e fits =
    let q = read-accepted s b p e in
    rw e (read_write s p b room out y q.1 q.0 fits)

-- written, then read: the bytes at the output's front are accepted, with the same counts and the same content in the used places
pub record ReadAgain (c : Given) (room : ℕ) (out : List ℕ) (g : Graph) (b : Buffers) : Type 0 where
  pub bytes : write_after (write_reply c room) out ≡ front (encode_graph g) out
  pub reply : read_reply (encode_graph g) b ≡ accepted (parsed_of g)
  pub n : c.n ≡ vertex_count g
  pub m : c.m ≡ edge_count g
  pub k : c.k ≡ path_count g
  pub given : Holds c.buffers g
  pub read : Holds (read_after (read_reply (encode_graph g) b) b) g

pub write_then_read : (c : Given) (room : ℕ) (out : List ℕ) (g : Graph) (b : Buffers) → write_reply c room ≡ accepted g → roomy b ≡ true
    → ReadAgain c room out g b
write_then_read c room out g b e r =
    let w = write_read c room g e in
    let q = read_again_holds g b w.takes.rules w.short r in
    record {
      bytes = ap (λ (x : Reply Graph). write_after x out) e;
      reply = q.0;
      n = w.takes.n;
      m = w.takes.m;
      k = w.takes.k;
      given = w.takes.holds;
      read = q.1;
    }

-- ---- when there is too little room

-- why the writer gives 14: the content is taken, its file is not too long, and its encoding is longer than the room
pub record TooShort (c : Given) (room : ℕ) : Type 0 where
  pub full : roomy c.buffers ≡ true
  pub graph : Graph
  pub takes : graph_given c ≡ good graph
  pub short : length (encode_graph graph) ≤ most_file_bytes
  pub longer : room < length (encode_graph graph)

module _ (c : Given) (room : ℕ) where
  size-short : (g : Graph) → roomy c.buffers ≡ true → graph_given c ≡ good g → size_reply room g ≡ refused short_output 0 0 → TooShort c room
  unfolding size_reply
  size-short g r e h =
      elim (test_refused (leb (length (encode_graph g)) most_file_bytes) _ out_of_range graph_file most_file_bytes short_output 0 0 h) [
        | inr x ↦ absurd (omega (arith, x.1))
        | inl x ↦ elim (test_refused (leb (length (encode_graph g)) room) (accepted g) short_output 0 0 short_output 0 0 x.1) [
          | inl y ↦ let f = y.1 in let z : ◌≡◌ {A = ℕ} 0 1 = cc in absurd (omega arith)
          | inr y ↦ record {
            full = r;
            graph = g;
            takes = e;
            short = leb-true (length (encode_graph g)) most_file_bytes x.0;
            longer = leb-false (length (encode_graph g)) room y.0;
          }
        ]
      ]

  -- "14, which is given exactly if the encoding is longer than the room", where no fault comes before it
  pub writer_short : (write_reply c room ≡ refused short_output 0 0) ↔ TooShort c room
  unfolding write_reply size_reply
  writer_short = (
    λ h.
        elim (test_refused (roomy c.buffers) _ small_buffer 0 0 short_output 0 0 h) [
          | inr x ↦ absurd (omega (arith, x.1))
          | inl x ↦ elim (on-refused (in_file graph_file (graph_given c)) (size_reply room) short_output 0 0 x.1) [
            | inl y ↦ absurd (omega (arith, (file-refused graph_file (graph_given c) short_output 0 0 y).1))
            | inr y ↦ size-short y.0 x.0 (file-accepted graph_file (graph_given c) y.0 y.1) y.2
          ]
        ],
    λ t.
        simp (
          t.full,
          t.takes,
          le-leb (length (encode_graph t.graph)) most_file_bytes t.short,
          lt-leb (length (encode_graph t.graph)) room t.longer,
        ),
  )
