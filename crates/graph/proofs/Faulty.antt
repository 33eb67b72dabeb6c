-- A fault of a graph file: its number is not 0 and fits an answer, and its place is at most the greatest file length.
-- Assumes nothing.
use Prim.Native.Nat.{ℕ, zero, suc, ◌+◌, ◌^◌, ◌≤◌, ◌<◌}
use mathlib.Core.Path.{◌≡◌, refl, subst}
use mathlib.Core.Logic.{inl, inr}
use mathlib.Core.List.{List}
use mathlib.Core.Bool.{Bool, true, false, ◌&&◌}
use native.Mathlib.Omega.{arith}
use native.Mathlib.Decide.{ℕ_discrete}
use lib.ListN.{length, get_or}
use lib.Dec.{ltb, leb, eqb}
use borrow.Author.Tests.{ltb-true, leb-true}
use Rattle.wire.specs.Cases.{pick}
use Rattle.wire.specs.Letters.{is_letter}
use Rattle.wire.specs.Found.{Found, good, fault, Part}
use Rattle.wire.specs.Refusals.{bytes_end, wrong_kind, out_of_range, not_letter, left_over}
use Rattle.wire.specs.Sizes.{graph_kind, most_file_bytes, most_vertices, most_letters, most_edges, most_paths}
use Rattle.wire.proofs.Finding.{Ends, ends_then, ends-number, ends-refuse, ends-pick, ends-fault}
use Rattle.wire.proofs.NumberLaws.{Refusal, number-within}
use Rattle.graph.specs.Content.{Edge}
use Rattle.graph.specs.Rules.{vertex_count_fault, length_fault, letter_fault, edge_count_fault, no_edge, edge_fault, path_count_fault, path_length_fault, vertex_fault, cover_fault}
use Rattle.graph.specs.Reading.{Front, Parsed, letters_from, labels_from, edges_from, vertices_from, paths_from, front_in, front_of, rest_of, graph_of}
use Rattle.graph.proofs.Kept.{Known, passed, letter_kept, test_known, edge-known, vertex-known, cover_known}

-- the number is a refusal number, and the place is near
pub record FileFault (k place : ℕ) : Type 0 where
  pub some : 1 ≤ k
  pub known : k < 2 ^ 32
  pub near : place ≤ most_file_bytes

made : (k place : ℕ) → Known k → place ≤ most_file_bytes → FileFault k place
made k place h p = record { some = h.0; known = h.1; near = p }

-- a section ends within the file
abbrev Within : {A : Type 0} → List ℕ → Part A → Type 0
Within s r = r.next ≤ length s

module _ (s : List ℕ) (short : length s ≤ most_file_bytes) where
  number-known : (at : ℕ) → at ≤ length s → (k p : ℕ) → Refusal (length s) at k p → FileFault k p
  number-known at h k p (inl r) = made k p (omega arith, omega arith) (omega arith)
  number-known at h k p (inr r) = made k p (omega arith, omega arith) (omega arith)

  letters-fault : (left at : ℕ) → at ≤ length s → Ends (λ (l : List ℕ). at + left ≤ length s) FileFault (letters_from left s at)
  unfolding letters_from
  letters-fault zero at h = record { ends = omega arith }
  letters-fault (suc left) at h =
      ends-pick (ltb at (length s)) _ _
      (λ t.
      ends-refuse (letter_fault (get_or s at 0)) _ _
      (λ n. made _ _ (test_known (is_letter (get_or s at 0)) not_letter (omega arith) n) (omega (arith, ltb-true at (length s) t)))
      (λ z.
      ends_then (letters_from left s (at + 1)) _ (letters-fault left (at + 1) (omega (arith, ltb-true)))
      (λ l e w. record { ends = omega arith })))
      (λ t. record { ends = made bytes_end (length s) (omega arith, omega arith) short })

  labels-fault : (left sum at : ℕ) → at ≤ length s → Ends (Within s) FileFault (labels_from left sum s at)
  unfolding labels_from
  labels-fault zero sum at h = record { ends = h }
  labels-fault (suc left) sum at h =
      ends-number s at _ (number-known at h) (λ len c e.
      ends-refuse (length_fault sum len) at _
      (λ n. made _ at (test_known (◌&&◌ (leb 1 len) (leb (sum + len) most_letters)) out_of_range (omega arith) n) (omega arith))
      (λ z.
      ends_then (letters_from len s c) _ (letters-fault len c (number-within s at len c e).1) (λ l f w.
      ends_then (labels_from left (sum + len) s (c + len)) _ (labels-fault left (sum + len) (c + len) w) (λ r g v.
      record { ends = v }))))

  edges-fault : (n left : ℕ) (last : Edge) (at : ℕ) → at ≤ length s → Ends (Within s) FileFault (edges_from n left last s at)
  unfolding edges_from
  edges-fault n zero last at h = record { ends = h }
  edges-fault n (suc left) last at h =
      ends-number s at _ (number-known at h) (λ u c e.
      ends-number s c _ (number-known c (number-within s at u c e).1) (λ v d f.
      ends-refuse (edge_fault n last (record { from = u; to = v })) at _
      (λ z. made _ at (edge-known n last (record { from = u; to = v }) z) (omega arith))
      (λ z.
      ends_then (edges_from n left (record { from = u; to = v }) s d) _
      (edges-fault n left (record { from = u; to = v }) d (number-within s c v d f).1) (λ r g w.
      record { ends = w }))))

  vertices-fault : (n : ℕ) (es : List Edge) (left last at : ℕ) → at ≤ length s → Ends (Within s) FileFault (vertices_from n es left last s at)
  unfolding vertices_from
  vertices-fault n es zero last at h = record { ends = h }
  vertices-fault n es (suc left) last at h =
      ends-number s at _ (number-known at h) (λ v c e.
      ends-refuse (vertex_fault n es last v) at _ (λ z. made _ at (vertex-known n es last v z) (omega arith)) (λ z.
      ends_then (vertices_from n es left v s c) _ (vertices-fault n es left v c (number-within s at v c e).1) (λ r g w.
      record { ends = w })))

  paths-fault : (n : ℕ) (es : List Edge) (left at : ℕ) → at ≤ length s → Ends (Within s) FileFault (paths_from n es left s at)
  unfolding paths_from
  paths-fault n es zero at h = record { ends = h }
  paths-fault n es (suc left) at h =
      ends-number s at _ (number-known at h) (λ count c e.
      ends-refuse (path_length_fault n count) at _
      (λ z. made _ at (test_known (◌&&◌ (leb 1 count) (leb count n)) out_of_range (omega arith) z) (omega arith))
      (λ z.
      ends_then (vertices_from n es count 0 s c) _ (vertices-fault n es count 0 c (number-within s at count c e).1) (λ p f w.
      ends_then (paths_from n es left s p.next) _ (paths-fault n es left p.next w) (λ r g v.
      record { ends = v }))))

-- the file is short enough, and the edges end within it
abbrev FrontWithin : List ℕ → Front → Type 0
FrontWithin s f = (length s ≤ most_file_bytes) × (f.next ≤ length s)

-- the front: it is found with its edges within the file, or with a fault of a file
pub front-fault : (wanted : ℕ) (s : List ℕ) → Ends (FrontWithin s) FileFault (front_of wanted s)
unfolding front_of front_in
front-fault wanted s =
    ends-refuse (pick (leb (length s) most_file_bytes) 0 out_of_range) most_file_bytes _
    (λ n. made _ most_file_bytes (test_known (leb (length s) most_file_bytes) out_of_range (omega arith) n) (omega arith))
    (λ z.
    let short : length s ≤ most_file_bytes = leb-true (length s) most_file_bytes (passed _ out_of_range (omega arith) z) in
    ends-number s 0 _ (number-known s short 0 (omega arith)) (λ kind a e.
    ends-refuse (pick (eqb kind wanted) 0 wrong_kind) 0 _
    (λ n. made _ 0 (test_known (eqb kind wanted) wrong_kind (omega arith) n) (omega arith))
    (λ y.
    ends-number s a _ (number-known s short a (number-within s 0 kind a e).1) (λ n c f.
    ends-refuse (vertex_count_fault n) a _
    (λ x. made _ a (test_known (◌&&◌ (leb 1 n) (leb n most_vertices)) out_of_range (omega arith) x) (omega (arith, (number-within s 0 kind a e).1)))
    (λ x.
    ends_then (labels_from n 0 s c) _ (labels-fault s short n 0 c (number-within s a n c f).1) (λ l g w.
    ends-number s l.next _ (number-known s short l.next w) (λ m d h.
    ends-refuse (edge_count_fault m) l.next _
    (λ v. made _ l.next (test_known (◌&&◌ (leb 0 m) (leb m most_edges)) out_of_range (omega arith) v) (omega arith))
    (λ v.
    ends_then (edges_from n m no_edge s d) _ (edges-fault s short n m no_edge d (number-within s l.next m d h).1) (λ r k u.
    record { ends = (short, u) })))))))))

rest-fault : (s : List ℕ) (f : Front) → FrontWithin s f → Ends (λ (p : Parsed). Unit {0}) FileFault (rest_of s f)
unfolding rest_of
rest-fault s f t =
    let short : length s ≤ most_file_bytes = t.0 in
    ends-number s f.next _ (number-known s short f.next t.1) (λ k d e.
    ends-refuse (path_count_fault k) f.next _
    (λ n. made _ f.next (test_known (◌&&◌ (leb 1 k) (leb k most_paths)) out_of_range (omega arith) n) (omega arith))
    (λ z.
    ends_then (paths_from (length f.labels) f.edges k s d) _
    (paths-fault s short (length f.labels) f.edges k d (number-within s f.next k d e).1)
    (λ r g w.
    ends-refuse (cover_fault (length f.labels) r.content) r.next _
    (λ n. made _ r.next (cover_known (length f.labels) r.content n) (omega arith))
    (λ y.
    ends-refuse (pick (eqb r.next (length s)) 0 left_over) r.next _
    (λ n. made _ r.next (test_known (eqb r.next (length s)) left_over (omega arith) n) (omega arith))
    (λ x. record { ends = tt })))))

-- a refused graph file has a number, never 0, and a place within reach
pub graph-fault : (s : List ℕ) (k place : ℕ) → graph_of s ≡ fault k place → FileFault k place
unfolding graph_of
graph-fault s k place e =
    ends-fault (graph_of s) k place (ends_then (front_of graph_kind s) (rest_of s) (front-fault graph_kind s) (λ f g w. rest-fault s f w)) e

-- ---- the place of 5

-- "not a letter | that byte": the place is that of a byte which is no letter, and each byte before it, from a place on, is one
pub record BadLetter (s : List ℕ) (from place : ℕ) : Type 0 where
  pub later : from ≤ place
  pub there : place < length s
  pub bad : is_letter (get_or s place 0) ≡ false
  pub before : (i : ℕ) → from ≤ i → i < place → is_letter (get_or s i 0) ≡ true

-- a fault of letters is the end of the bytes, or such a byte
abbrev LetterFault : List ℕ → ℕ → ℕ → ℕ → Type 0
LetterFault s from k place = k ≡ not_letter → BadLetter s from place

letter_bad : (b : ℕ) → (letter_fault b ≡ 0 → ⊥) → is_letter b ≡ false
letter_bad b n = is_false (is_letter b) n
  where
    is_false : (t : Bool) → (pick t 0 not_letter ≡ 0 → ⊥) → t ≡ false
    is_false true n = absurd (n refl)
    is_false false n = refl

-- after a letter
letter_later : (s : List ℕ) (at k place : ℕ) → is_letter (get_or s at 0) ≡ true → LetterFault s (at + 1) k place → LetterFault s at k place
letter_later s at k place l f e =
    let t = f e in
    record {
      later = omega (arith, t.later);
      there = t.there;
      bad = t.bad;
      before = λ i h j. elim (ℕ_discrete at i) [
        | yes q ↦ subst (λ (n : ℕ). is_letter (get_or s n 0) ≡ true) q l
        | no n ↦ t.before i (omega arith) j
      ];
    }

ends-later : {A : Type 0} {P : A → Type 0} {Q R : ℕ → ℕ → Type 0} (x : Found A) → ((k place : ℕ) → Q k place → R k place) → Ends P Q x → Ends P R x
ends-later (good a) f h = record { ends = h.ends }
ends-later (fault k place) f h = record { ends = f k place h.ends }

letters-place : (left : ℕ) (s : List ℕ) (at : ℕ) → Ends (λ (l : List ℕ). Unit {0}) (LetterFault s at) (letters_from left s at)
unfolding letters_from
letters-place zero s at = record { ends = tt }
letters-place (suc left) s at =
    ends-pick (ltb at (length s)) _ _
    (λ t.
    ends-refuse (letter_fault (get_or s at 0)) _ _
    (λ n e. record { later = omega arith; there = omega (arith, ltb-true at (length s) t); bad = letter_bad (get_or s at 0) n; before = λ i h j. absurd (omega arith) })
    (λ z.
    ends_then (letters_from left s (at + 1)) _
    (ends-later (letters_from left s (at + 1)) (λ k place q. letter_later s at k place (letter_kept (get_or s at 0) z) q) (letters-place left s (at + 1)))
    (λ l e w. record { ends = tt })))
    (λ t. record { ends = λ e. absurd (omega arith) })

-- the place of 5 among letters is that byte
pub letter_place : (left : ℕ) (s : List ℕ) (at place : ℕ) → letters_from left s at ≡ fault not_letter place → BadLetter s at place
letter_place left s at place e = ends-fault (letters_from left s at) not_letter place (letters-place left s at) e refl
