-- An accepted graph file, section by section: what was read where, the counts, and what holds of each section.
-- Assumes nothing.
use Prim.Native.Nat.{ℕ, ◌≤◌}
use mathlib.Core.Path.{◌≡◌, ap, ◌∙◌, subst}
use mathlib.Core.List.{List}
use native.Mathlib.Omega.{arith}
use lib.ListN.{length}
use lib.Dec.{leb, eqb}
use borrow.Author.Tests.{leb-true, eqb-true}
use Rattle.wire.specs.Cases.{pick}
use Rattle.wire.specs.Found.{Found, good, Part, and_then}
use Rattle.wire.specs.Numbers.{number_at}
use Rattle.wire.specs.Refusals.{out_of_range, wrong_kind, left_over}
use Rattle.wire.specs.Sizes.{graph_kind, most_file_bytes, most_vertices, most_edges, most_paths}
use Rattle.wire.proofs.Finding.{then_good, refuse-good, good-same, on_then, on-number, on-refuse}
use Rattle.wire.proofs.NumberLaws.{number-within}
use Rattle.graph.specs.Content.{Edge, vertex_count, path_count}
use Rattle.graph.specs.Rules.{vertex_count_fault, edge_count_fault, path_count_fault, cover_fault, no_edge}
use Rattle.graph.specs.Reading.{Front, Parsed, labels_from, edges_from, paths_from, front_in, front_of, rest_of, whole_of, graph_of}
use Rattle.graph.proofs.Kept.{passed, range_kept}
use Rattle.graph.proofs.Accepting.{LabelsRead, labels-read, EdgesRead, edges-read, PathsRead, paths-read}

-- a file up to its edges; `count_at` is the place of n, and `labels_end` that of m
pub record FrontParts (wanted : ℕ) (s : List ℕ) (f : Front) : Type 0 where
  pub count_at : ℕ
  pub kind_is : number_at s 0 ≡ good (record { content = wanted; next = count_at })
  pub count_is : number_at s count_at ≡ good (record { content = length f.labels; next = f.labels_at })
  pub some_vertex : 1 ≤ length f.labels
  pub few_vertices : length f.labels ≤ most_vertices
  pub labels_end : ℕ
  pub labels_is : labels_from (length f.labels) 0 s f.labels_at ≡ good (record { content = f.labels; next = labels_end })
  pub labels_hold : LabelsRead (length f.labels) 0 s f.labels_at (record { content = f.labels; next = labels_end })
  pub edge_count_is : number_at s labels_end ≡ good (record { content = length f.edges; next = f.edges_at })
  pub few_edges : length f.edges ≤ most_edges
  pub edges_is : edges_from (length f.labels) (length f.edges) no_edge s f.edges_at
      ≡ good (record { content = f.edges; next = f.next })
  pub edges_hold : EdgesRead (length f.labels) (length f.edges) no_edge s f.edges_at (record { content = f.edges; next = f.next })

front-made : (wanted : ℕ) (s : List ℕ) (n m : ℕ) (a c d : ℕ) (l : Part (List (List ℕ))) (r : Part (List Edge))
    → number_at s 0 ≡ good (record { content = wanted; next = a })
    → number_at s a ≡ good (record { content = n; next = c })
    → vertex_count_fault n ≡ 0
    → labels_from n 0 s c ≡ good l
    → number_at s l.next ≡ good (record { content = m; next = d })
    → edge_count_fault m ≡ 0
    → edges_from n m no_edge s d ≡ good r
    → FrontParts wanted s (record { labels = l.content; edges = r.content; labels_at = c; edges_at = d; next = r.next })
front-made wanted s n m a c d l r kind_is count_is range labels_is edge_count_is few edges_is =
    let lr = labels-read n 0 s c l (number-within s a n c count_is).1 labels_is in
    let er = edges-read n m no_edge s d r (number-within s l.next m d edge_count_is).1 edges_is in
    let lc : length l.content ≡ n = lr.count in
    let ec : length r.content ≡ m = er.count in
    record {
      count_at = a;
      kind_is = kind_is;
      count_is = rw lc count_is;
      some_vertex = rw lc (range_kept 1 most_vertices n range).0;
      few_vertices = rw lc (range_kept 1 most_vertices n range).1;
      labels_end = l.next;
      labels_is = rw lc labels_is;
      labels_hold = rw lc lr;
      edge_count_is = rw ec edge_count_is;
      few_edges = rw ec (range_kept 0 most_edges m few).1;
      edges_is = rw (lc, ec) edges_is;
      edges_hold = rw (lc, ec) er;
    }

-- from what was found of the front, every section of it
front_read : (wanted : ℕ) (s : List ℕ) (f : Front) → front_in wanted s ≡ good f → FrontParts wanted s f
unfolding front_in
front_read wanted s f e =
    on-number s 0 _ f e (λ kind a kind_is e2.
    on-refuse (pick (eqb kind wanted) 0 wrong_kind) 0 _ f e2 (λ same e3.
    on-number s a _ f e3 (λ n c count_is e4.
    on-refuse (vertex_count_fault n) a _ f e4 (λ range e5.
    on_then (labels_from n 0 s c) _ f e5 (λ l labels_is e6.
    on-number s l.next _ f e6 (λ m d edge_count_is e7.
    on-refuse (edge_count_fault m) l.next _ f e7 (λ few e8.
    on_then (edges_from n m no_edge s d) _ f e8 (λ r edges_is e9.
    subst (FrontParts wanted s) (good-same _ f e9)
    (front-made wanted s n m a c d l r
    (kind_is ∙ ap (λ (x : ℕ). good (record { content = x; next = a })) (eqb-true kind wanted (passed _ wrong_kind (omega arith) same)))
    count_is range labels_is edge_count_is few edges_is)))))))))

-- a file that is not too long
short-front : (wanted : ℕ) (s : List ℕ) (f : Front) → front_of wanted s ≡ good f → (length s ≤ most_file_bytes) × (front_in wanted s ≡ good f)
unfolding front_of
short-front wanted s f e =
    let t = refuse-good (pick (leb (length s) most_file_bytes) 0 out_of_range) most_file_bytes (front_in wanted s) f e in
    (leb-true (length s) most_file_bytes (passed _ out_of_range (omega arith) t.0), t.1)

pub front_parts : (wanted : ℕ) (s : List ℕ) (f : Front) → front_of wanted s ≡ good f → FrontParts wanted s f
front_parts wanted s f e = front_read wanted s f (short-front wanted s f e).1

-- an accepted file; `labels_end` is the place of m, and `edges_end` that of K
pub record Parts (s : List ℕ) (p : Parsed) : Type 0 where
  pub edges_end : ℕ
  pub front : FrontParts graph_kind s
      (record { labels = p.graph.labels; edges = p.graph.edges; labels_at = p.labels_at; edges_at = p.edges_at; next = edges_end })
  pub path_count_is : number_at s edges_end ≡ good (record { content = path_count p.graph; next = p.paths_at })
  pub some_path : 1 ≤ path_count p.graph
  pub few_paths : path_count p.graph ≤ most_paths
  pub paths_is : paths_from (vertex_count p.graph) p.graph.edges (path_count p.graph) s p.paths_at
      ≡ good (record { content = p.graph.paths; next = length s })
  pub paths_hold : PathsRead (vertex_count p.graph) p.graph.edges (path_count p.graph) s p.paths_at
      (record { content = p.graph.paths; next = length s })
  pub cover : cover_fault (vertex_count p.graph) p.graph.paths ≡ 0

rest-made : (s : List ℕ) (f : Front) (k : ℕ) (a : ℕ) (r : Part (List (List ℕ)))
    → FrontParts graph_kind s f
    → number_at s f.next ≡ good (record { content = k; next = a })
    → path_count_fault k ≡ 0
    → paths_from (length f.labels) f.edges k s a ≡ good r
    → cover_fault (length f.labels) r.content ≡ 0
    → r.next ≡ length s
    → Parts s
    (record {
      graph = record { labels = f.labels; edges = f.edges; paths = r.content };
      labels_at = f.labels_at;
      edges_at = f.edges_at;
      paths_at = a;
    })
rest-made s f k a r x count_is range paths_is cover end =
    let pr = paths-read (length f.labels) f.edges k s a r (number-within s f.next k a count_is).1 paths_is in
    let kc : length r.content ≡ k = pr.count in
    let w : r ≡ record { content = r.content; next = length s } = ap (λ (n : ℕ). record { content = r.content; next = n }) end in
    record {
      edges_end = f.next;
      front = x;
      path_count_is = rw kc count_is;
      some_path = rw kc (range_kept 1 most_paths k range).0;
      few_paths = rw kc (range_kept 1 most_paths k range).1;
      paths_is = rw kc (paths_is ∙ ap (λ (y : Part (List (List ℕ))). good y) w);
      paths_hold = rw kc (subst (PathsRead (length f.labels) f.edges k s a) w pr);
      cover = cover;
    }

rest_parts : (s : List ℕ) (f : Front) (p : Parsed) → FrontParts graph_kind s f → rest_of s f ≡ good p → Parts s p
unfolding rest_of
rest_parts s f p x e =
    on-number s f.next _ p e (λ k a count_is e1.
    on-refuse (path_count_fault k) f.next _ p e1 (λ range e2.
    on_then (paths_from (length f.labels) f.edges k s a) _ p e2 (λ r paths_is e3.
    on-refuse (cover_fault (length f.labels) r.content) r.next _ p e3 (λ cover e4.
    on-refuse (pick (eqb r.next (length s)) 0 left_over) r.next _ p e4 (λ end e5.
    subst (Parts s) (good-same _ p e5)
    (rest-made s f k a r x count_is range paths_is cover (eqb-true r.next (length s) (passed _ left_over (omega arith) end))))))))

-- from what was found of all the bytes, every section of them
pub whole_parts : (s : List ℕ) (p : Parsed) → whole_of s ≡ good p → Parts s p
unfolding whole_of
whole_parts s p e =
    let a = then_good (front_in graph_kind s) (rest_of s) p e in
    rest_parts s a.0 p (front_read graph_kind s a.0 a.1) a.2

-- an accepted file is not too long, and its bytes are read so however many they are
pub short_whole : (s : List ℕ) (p : Parsed) → graph_of s ≡ good p → (length s ≤ most_file_bytes) × (whole_of s ≡ good p)
unfolding graph_of whole_of
short_whole s p e =
    let a = then_good (front_of graph_kind s) (rest_of s) p e in
    let t = short-front graph_kind s a.0 a.1 in
    (t.0, ap (λ (x : Found Front). and_then x (rest_of s)) t.1 ∙ a.2)

pub parts : (s : List ℕ) (p : Parsed) → graph_of s ≡ good p → Parts s p
parts s p e = whole_parts s p (short_whole s p e).1
