-- What the reader finds in the bytes of content, whatever the content is: that content, or the number of its first fault.
-- Assumes nothing.
use Prim.Native.Nat.{ℕ, suc, ◌+◌}
use mathlib.Core.Path.{◌≡◌, refl, sym, ap, ◌∙◌, subst}
use mathlib.Core.List.{List, [], ◌∷◌, ◌++◌, append-nil}
use native.Mathlib.Omega.{arith}
use lib.ListN.{length, get_or, drop, length-append}
use lib.Dec.{ltb, eqb}
use borrow.Author.Tests.{eq-eqb, ne_eqb, lt-ltb}
use Rattle.wire.specs.Cases.{pick}
use Rattle.wire.specs.Found.{good, fault, first, refuse, as_content, refusal_number}
use Rattle.wire.specs.Numbers.{encode}
use Rattle.wire.specs.Refusals.{wrong_kind, left_over}
use Rattle.wire.specs.Sizes.{graph_kind}
use Rattle.wire.proofs.Giving.{number_fault, Gives, same, gives-good, gives-refuse, gives_test, gives-pick, gives_then, gives-last, gives-number, gives_none, gives_sure, gives_end, after, two, number_is_lem}
use Rattle.graph.specs.Content.{Edge, Graph, vertex_count, edge_count, path_count}
use Rattle.graph.specs.Rules.{vertex_count_fault, length_fault, letter_fault, edge_count_fault, no_edge, edge_fault, path_count_fault, path_length_fault, vertex_fault, cover_fault}
use Rattle.graph.specs.Encode.{encode_labels, encode_numbers, encode_edges, encode_paths, encode_graph}
use Rattle.graph.specs.Reading.{Front, Parsed, letters_from, labels_from, edges_from, vertices_from, paths_from, front_in, rest_of, whole_of}
use Rattle.graph.specs.Entries.{Given, graph_in, graph_given}
use Rattle.graph.proofs.Rereading.{here}

-- ---- the sections: the number of the first fault, and that it is what reading gives

unfoldable pub of_letters : List ℕ → ℕ
of_letters [] = 0
of_letters (b ∷ l) = first (letter_fault b) (of_letters l)

pub gives-letters : (l : List ℕ) (s : List ℕ) (at : ℕ) (rest : List ℕ) → drop at s ≡ l ++ rest
    → Gives same (of_letters l) l (letters_from (length l) s at)
unfolding letters_from of_letters
gives-letters [] s at rest e = gives-good same []
gives-letters (b ∷ l) s at rest e =
    let t = here s at b (l ++ rest) e in
    subst (λ (c : ℕ). Gives same (first (letter_fault c) (of_letters l)) (c ∷ l) (letters_from (suc (length l)) s at)) t.1
    (gives-pick (ltb at (length s)) _ _ (lt-ltb at (length s) t.0)
    (gives-refuse (letter_fault (get_or s at 0)) _ _ _
    (gives-last same (λ ls. get_or s at 0 ∷ ls) (of_letters l) _ (gives-letters l s (at + 1) rest t.2))))

unfoldable pub of_labels : ℕ → List (List ℕ) → ℕ
of_labels sum [] = 0
of_labels sum (l ∷ ls) =
    first (number_fault (length l)) (first (length_fault sum (length l)) (first (of_letters l) (of_labels (sum + length l) ls)))

-- three places that are the same one, after two parts and the rest
moved : (at : ℕ) (a b c : List ℕ) → at + length a + length b + length c ≡ at + length (a ++ (b ++ c))
moved at a b c = omega (arith, length-append a (b ++ c), length-append b c)

pub gives-labels : (ls : List (List ℕ)) (sum : ℕ) (s : List ℕ) (at : ℕ) (rest : List ℕ) → drop at s ≡ encode_labels ls ++ rest
    → Gives same (of_labels sum ls) (record { content = ls; next = at + length (encode_labels ls) }) (labels_from (length ls) sum s at)
unfolding labels_from encode_labels of_labels
gives-labels [] sum s at rest e = gives_none at []
gives-labels (l ∷ ls) sum s at rest e =
    let b : List ℕ = encode (length l) in
    let t = two s at b (l ++ encode_labels ls) rest e in
    let u = two s (at + length b) l (encode_labels ls) rest t.1 in
    subst (λ (n : ℕ). Gives same (of_labels sum (l ∷ ls)) (record { content = l ∷ ls; next = n }) (labels_from (suc (length ls)) sum s at))
    (moved at b l (encode_labels ls))
    (gives-number s at (length l) _ _ _ t.0
    (gives-refuse (length_fault sum (length l)) _ at _
    (gives_then (of_letters l) _ _ _ (gives-letters l s (at + length b) _ u.0)
    (gives-last same (λ r. record { content = l ∷ r.content; next = r.next }) (of_labels (sum + length l) ls) _
    (gives-labels ls (sum + length l) s (at + length b + length l) rest u.1)))))

unfoldable pub of_edges : ℕ → Edge → List Edge → ℕ
of_edges n last [] = 0
of_edges n last (d ∷ es) = first (number_fault d.from) (first (number_fault d.to) (first (edge_fault n last d) (of_edges n d es)))

pub gives-edges : (n : ℕ) (es : List Edge) (last : Edge) (s : List ℕ) (at : ℕ) (rest : List ℕ) → drop at s ≡ encode_edges es ++ rest
    → Gives same (of_edges n last es) (record { content = es; next = at + length (encode_edges es) }) (edges_from n (length es) last s at)
unfolding edges_from encode_edges of_edges
gives-edges n [] last s at rest e = gives_none at []
gives-edges n (d ∷ es) last s at rest e =
    let b : List ℕ = encode d.from in
    let c : List ℕ = encode d.to in
    let t = two s at b (c ++ encode_edges es) rest e in
    let u = two s (at + length b) c (encode_edges es) rest t.1 in
    subst (λ (k : ℕ). Gives same (of_edges n last (d ∷ es)) (record { content = d ∷ es; next = k }) (edges_from n (suc (length es)) last s at))
    (moved at b c (encode_edges es))
    (gives-number s at d.from _ _ _ t.0
    (gives-number s (at + length b) d.to _ _ _ u.0
    (gives-refuse (edge_fault n last d) _ at _
    (gives-last same (λ r. record { content = d ∷ r.content; next = r.next }) (of_edges n d es) _
    (gives-edges n es d s (at + length b + length c) rest u.1)))))

unfoldable pub of_vertices : ℕ → List Edge → ℕ → List ℕ → ℕ
of_vertices n es last [] = 0
of_vertices n es last (v ∷ p) = first (number_fault v) (first (vertex_fault n es last v) (of_vertices n es v p))

pub gives-vertices : (n : ℕ) (es : List Edge) (p : List ℕ) (last : ℕ) (s : List ℕ) (at : ℕ) (rest : List ℕ) → drop at s ≡ encode_numbers p ++ rest
    → Gives same (of_vertices n es last p) (record { content = p; next = at + length (encode_numbers p) }) (vertices_from n es (length p) last s at)
unfolding vertices_from encode_numbers of_vertices
gives-vertices n es [] last s at rest e = gives_none at []
gives-vertices n es (v ∷ p) last s at rest e =
    let b : List ℕ = encode v in
    let t = two s at b (encode_numbers p) rest e in
    let m : at + length b + length (encode_numbers p) ≡ at + length (b ++ encode_numbers p) = omega (arith, length-append b (encode_numbers p)) in
    subst (λ (k : ℕ). Gives same (of_vertices n es last (v ∷ p)) (record { content = v ∷ p; next = k }) (vertices_from n es (suc (length p)) last s at)) m
    (gives-number s at v _ _ _ t.0
    (gives-refuse (vertex_fault n es last v) _ at _
    (gives-last same (λ r. record { content = v ∷ r.content; next = r.next }) (of_vertices n es v p) _
    (gives-vertices n es p v s (at + length b) rest t.1))))

unfoldable pub of_paths : ℕ → List Edge → List (List ℕ) → ℕ
of_paths n es [] = 0
of_paths n es (p ∷ ps) =
    first (number_fault (length p)) (first (path_length_fault n (length p)) (first (of_vertices n es 0 p) (of_paths n es ps)))

pub gives-paths : (n : ℕ) (es : List Edge) (ps : List (List ℕ)) (s : List ℕ) (at : ℕ) (rest : List ℕ) → drop at s ≡ encode_paths ps ++ rest
    → Gives same (of_paths n es ps) (record { content = ps; next = at + length (encode_paths ps) }) (paths_from n es (length ps) s at)
unfolding paths_from encode_paths of_paths
gives-paths n es [] s at rest e = gives_none at []
gives-paths n es (p ∷ ps) s at rest e =
    let b : List ℕ = encode (length p) in
    let c : List ℕ = encode_numbers p in
    let t = two s at b (c ++ encode_paths ps) rest e in
    let u = two s (at + length b) c (encode_paths ps) rest t.1 in
    subst (λ (k : ℕ). Gives same (of_paths n es (p ∷ ps)) (record { content = p ∷ ps; next = k }) (paths_from n es (suc (length ps)) s at))
    (moved at b c (encode_paths ps))
    (gives-number s at (length p) _ _ _ t.0
    (gives-refuse (path_length_fault n (length p)) _ at _
    (gives_then (of_vertices n es 0 p) _ _ _ (gives-vertices n es p 0 s (at + length b) _ u.0)
    (gives-last same (λ r. record { content = p ∷ r.content; next = r.next }) (of_paths n es ps) _
    (gives-paths n es ps s (at + length b + length c) rest u.1)))))

-- ---- the whole

unfoldable pub of_front : Graph → ℕ
of_front g =
    first (number_fault (vertex_count g))
    (first (vertex_count_fault (vertex_count g))
    (first (of_labels 0 g.labels)
    (first (number_fault (edge_count g)) (first (edge_count_fault (edge_count g)) (of_edges (vertex_count g) no_edge g.edges)))))

unfoldable pub of_rest : Graph → ℕ
of_rest g =
    first (number_fault (path_count g))
    (first (path_count_fault (path_count g))
    (first (of_paths (vertex_count g) g.edges g.paths) (cover_fault (vertex_count g) g.paths)))

-- the number of the first fault of a graph that is written and read, 0 for none
unfoldable pub of_graph : Graph → ℕ
of_graph g = first (of_front g) (of_rest g)

module _ (g : Graph) where
  abbrev s : List ℕ
  s = encode_graph g

  -- where the numbers n, m and K stand, and the sections after them
  abbrev count_at : ℕ
  count_at = 0 + length (encode graph_kind)

  abbrev labels_at : ℕ
  labels_at = count_at + length (encode (vertex_count g))

  abbrev labels_end : ℕ
  labels_end = labels_at + length (encode_labels g.labels)

  abbrev edges_at : ℕ
  edges_at = labels_end + length (encode (edge_count g))

  abbrev edges_end : ℕ
  edges_end = edges_at + length (encode_edges g.edges)

  abbrev paths_at : ℕ
  paths_at = edges_end + length (encode (path_count g))

  abbrev from_edges : List ℕ
  from_edges = encode_edges g.edges ++ (encode (path_count g) ++ encode_paths g.paths)

  kind_there : drop 0 s ≡ encode graph_kind ++ (encode (vertex_count g) ++ (encode_labels g.labels ++ (encode (edge_count g) ++ from_edges)))
  unfolding encode_graph
  kind_there = refl

  count-there : drop count_at s ≡ encode (vertex_count g) ++ (encode_labels g.labels ++ (encode (edge_count g) ++ from_edges))
  count-there = after s 0 (encode graph_kind) _ kind_there

  labels-there : drop labels_at s ≡ encode_labels g.labels ++ (encode (edge_count g) ++ from_edges)
  labels-there = after s count_at (encode (vertex_count g)) _ count-there

  edge-count-there : drop labels_end s ≡ encode (edge_count g) ++ from_edges
  edge-count-there = after s labels_at (encode_labels g.labels) _ labels-there

  edges-there : drop edges_at s ≡ from_edges
  edges-there = after s labels_end (encode (edge_count g)) _ edge-count-there

  path-count-there : drop edges_end s ≡ encode (path_count g) ++ encode_paths g.paths
  path-count-there = after s edges_at (encode_edges g.edges) _ edges-there

  paths-there : drop paths_at s ≡ encode_paths g.paths ++ []
  paths-there = after s edges_end (encode (path_count g)) _ path-count-there ∙ sym (append-nil (encode_paths g.paths))

  paths_end : paths_at + length (encode_paths g.paths) ≡ length s
  paths_end = let l = simp length-append at (ap length kind_there) in omega arith

  abbrev front : Front
  front = record { labels = g.labels; edges = g.edges; labels_at = labels_at; edges_at = edges_at; next = edges_end }

  gives-front : Gives same (of_front g) front (front_in graph_kind s)
  unfolding front_in of_front
  gives-front =
      gives_sure s 0 graph_kind _ _ _ (omega arith) kind_there
      (gives_test (pick (eqb graph_kind graph_kind) 0 wrong_kind) _ 0 _ refl
      (gives-number s count_at (vertex_count g) _ _ _ count-there
      (gives-refuse (vertex_count_fault (vertex_count g)) _ count_at _
      (gives_then (of_labels 0 g.labels) _ _ _ (gives-labels g.labels 0 s labels_at _ labels-there)
      (gives-number s labels_end (edge_count g) _ _ _ edge-count-there
      (gives-refuse (edge_count_fault (edge_count g)) _ labels_end _
      (gives-last same _ (of_edges (vertex_count g) no_edge g.edges) _ (gives-edges (vertex_count g) g.edges no_edge s edges_at _ edges-there))))))))

  gives-rest : Gives (λ (p : Parsed). p.graph) (of_rest g) g (rest_of s front)
  unfolding rest_of of_rest
  gives-rest =
      gives-number s edges_end (path_count g) _ _ _ path-count-there
      (gives-refuse (path_count_fault (path_count g)) _ edges_end _
      (gives_then (of_paths (vertex_count g) g.edges g.paths) _ _ _ (gives-paths (vertex_count g) g.edges g.paths s paths_at [] paths-there)
      (gives_end (cover_fault (vertex_count g) g.paths) _ _
      (gives_test (pick (eqb (paths_at + length (encode_paths g.paths)) (length s)) 0 left_over) _ _ _
      (simp (eq-eqb (paths_at + length (encode_paths g.paths)) (length s) paths_end)) (gives-good (λ (p : Parsed). p.graph) _)))))

  -- the encoding of a graph is read as that graph, or as its first fault
  pub gives-graph : as_content (λ p. p.graph) (whole_of (encode_graph g)) ≡ refuse (of_graph g) 0 (good g)
  unfolding whole_of of_graph
  gives-graph = (gives_then (of_front g) _ _ _ gives-front gives-rest).found

-- ---- content that is given

module _ (c : Given) where
  -- the writer takes the graph in the used places, or finds its first fault
  given-graph : graph_given c ≡ refuse (of_graph (graph_in c)) 0 (good (graph_in c))
  unfolding graph_given
  given-graph = gives-graph (graph_in c)

  pub given-number : refusal_number (graph_given c) ≡ of_graph (graph_in c)
  given-number = ap refusal_number given-graph ∙ number_is_lem (of_graph (graph_in c)) (graph_in c)

  pub given-good : refusal_number (graph_given c) ≡ 0 → graph_given c ≡ good (graph_in c)
  given-good z = given-graph ∙ simp (eq-eqb (of_graph (graph_in c)) 0 (sym given-number ∙ z))

  -- "with place 0 for faults of the content"
  pub given-fault : (k : ℕ) → k ≡ refusal_number (graph_given c) → (k ≡ 0 → ⊥) → graph_given c ≡ fault k 0
  given-fault k e n =
      given-graph
      ∙ simp (ne_eqb (of_graph (graph_in c)) 0 (λ z. n (e ∙ given-number ∙ z))) (ap (λ (j : ℕ). fault j 0) (sym (e ∙ given-number)))
