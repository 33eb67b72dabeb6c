-- Every proper prefix of an accepted graph file is refused: its bytes end within the file.
-- Assumes nothing.
use Prim.Native.Nat.{ℕ, zero, suc, ◌+◌, ◌≤◌, ◌<◌}
use mathlib.Core.Path.{◌≡◌, refl, ap, ap₂}
use mathlib.Core.Logic.{inl, inr}
use mathlib.Core.List.{List, [], ◌∷◌}
use mathlib.Core.Bool.{true, false}
use native.Mathlib.Omega.{arith}
use lib.ListN.{length, get_or, take}
use lib.Seq.{length-take-le, get_or-take}
use lib.Dec.{ltb, leb, eqb}
use borrow.Author.Tests.{lt-ltb, le-ltb, le-leb, eq-eqb}
use Rattle.wire.specs.Cases.{pick}
use Rattle.wire.specs.Found.{good, fault, Part}
use Rattle.wire.specs.Refusals.{bytes_end, out_of_range, wrong_kind}
use Rattle.wire.specs.Sizes.{graph_kind, most_file_bytes, most_vertices, most_edges, most_paths}
use Rattle.wire.proofs.Cutting.{CutTo, cut_good, cut_end, cut_then, cut_number, cut_refuse}
use Rattle.wire.proofs.Encoding.{split}
use Rattle.graph.specs.Content.{Edge, vertex_count, path_count}
use Rattle.graph.specs.Rules.{letter_fault, length_fault, edge_fault, vertex_fault, path_length_fault, vertex_count_fault, edge_count_fault, path_count_fault, no_edge}
use Rattle.graph.specs.Reading.{Front, Parsed, letters_from, labels_from, edges_from, vertices_from, paths_from, front_in, front_of, rest_of, graph_of}
use Rattle.graph.proofs.Kept.{range_free}
use Rattle.graph.proofs.Steps.{letters-step, labels-step, edges_step, vertices-step, paths-step, letters-none, labels-none, edges_none, vertices-none, paths-none}
use Rattle.graph.proofs.Parted.{FrontParts, Parts, short_whole, parts}

module _ (s : List ℕ) (j : ℕ) (fits : j ≤ length s) where
  pub cut_length : length (take j s) ≡ j
  cut_length = length-take-le j s fits

  letter_cut : (left at : ℕ) (rest : List ℕ) (Q : Type 0) → at < j → letter_fault (get_or s at 0) ≡ 0
      → CutTo j Q rest (letters_from left (take j s) (at + 1)) → CutTo j Q (get_or s at 0 ∷ rest) (letters_from (suc left) (take j s) at)
  unfolding letters_from
  letter_cut left at rest Q h k i =
      let b : get_or (take j s) at 0 ≡ get_or s at 0 = get_or-take j s at 0 h in
      let t : ltb at (length (take j s)) ≡ true = lt-ltb at (length (take j s)) (omega (arith, cut_length)) in
      rw (t, b)
      (cut_refuse (letter_fault (get_or s at 0)) at _ k (cut_then (letters_from left (take j s) (at + 1)) rest _ i (λ q. cut_good _ q)))

  letter_end : (left at : ℕ) (Q : Type 0) (r : List ℕ) → j ≤ at → CutTo j Q r (letters_from (suc left) (take j s) at)
  unfolding letters_from
  letter_end left at Q r h =
      let t : ltb at (length (take j s)) ≡ false = le-ltb at (length (take j s)) (omega (arith, cut_length)) in
      rw (t, cut_length) cut_end

  pub letters_cut : (left at : ℕ) (r : List ℕ) → at ≤ j → letters_from left s at ≡ good r
      → CutTo j (at + left ≤ j) r (letters_from left (take j s) at)
  unfolding letters_from
  letters_cut zero at r h e = rw (letters-none s at r e) (cut_good [] (omega arith))
  letters_cut (suc left) at r h e =
      let t = letters-step left s at r e in
      split j at
      (λ k. letter_end left at _ r k)
      (λ k.
      let q : (at + 1 + left ≤ j) ≡ (at + suc left ≤ j) = ap (λ (x : ℕ). x ≤ j) (omega arith) in
      let i = letters_cut left (at + 1) t.rest (omega arith) t.rest_is in
      rw t.whole (letter_cut left at t.rest _ k t.kept (rw q at i)))

  -- each section that was read from within the prefix: it ends within it and is read again, or the bytes end
  labels_cut : (left sum at : ℕ) (r : Part (List (List ℕ))) → at ≤ j → labels_from left sum s at ≡ good r
      → CutTo j (r.next ≤ j) r (labels_from left sum (take j s) at)
  unfolding labels_from
  labels_cut zero sum at r h e = rw (labels-none sum s at r e) (cut_good _ h)
  labels_cut (suc left) sum at r h e =
      let t = labels-step left sum s at r e in
      let q : r ≡ record { content = t.label ∷ t.rest.content; next = t.rest.next } =
      ap₂ (λ (c : List (List ℕ)) (n : ℕ). record { content = c; next = n }) t.content t.next in
      rw q
      (cut_number s at j t.len t.a _ fits t.len_is (λ k.
      cut_refuse (length_fault sum t.len) at _ t.kept
      (cut_then (letters_from t.len (take j s) t.a) t.label _ (letters_cut t.len t.a t.label k t.label_is) (λ l.
      cut_then (labels_from left (sum + t.len) (take j s) (t.a + t.len)) t.rest _
      (labels_cut left (sum + t.len) (t.a + t.len) t.rest l t.rest_is) (λ m.
      cut_good _ m)))))

  edges_cut : (n left : ℕ) (last : Edge) (at : ℕ) (r : Part (List Edge)) → at ≤ j → edges_from n left last s at ≡ good r
      → CutTo j (r.next ≤ j) r (edges_from n left last (take j s) at)
  unfolding edges_from
  edges_cut n zero last at r h e = rw (edges_none n last s at r e) (cut_good _ h)
  edges_cut n (suc left) last at r h e =
      let t = edges_step n left last s at r e in
      let d : Edge = record { from = t.u; to = t.v } in
      let q : r ≡ record { content = d ∷ t.rest.content; next = t.rest.next } =
      ap₂ (λ (c : List Edge) (n : ℕ). record { content = c; next = n }) t.content t.next in
      rw q
      (cut_number s at j t.u t.a _ fits t.u_is (λ k.
      cut_number s t.a j t.v t.b _ fits t.v_is (λ l.
      cut_refuse (edge_fault n last d) at _ t.kept
      (cut_then (edges_from n left d (take j s) t.b) t.rest _ (edges_cut n left d t.b t.rest l t.rest_is) (λ m.
      cut_good _ m)))))

  vertices_cut : (n : ℕ) (es : List Edge) (left last at : ℕ) (r : Part (List ℕ)) → at ≤ j → vertices_from n es left last s at ≡ good r
      → CutTo j (r.next ≤ j) r (vertices_from n es left last (take j s) at)
  unfolding vertices_from
  vertices_cut n es zero last at r h e = rw (vertices-none n es last s at r e) (cut_good _ h)
  vertices_cut n es (suc left) last at r h e =
      let t = vertices-step n es left last s at r e in
      let q : r ≡ record { content = t.v ∷ t.rest.content; next = t.rest.next } =
      ap₂ (λ (c : List ℕ) (n : ℕ). record { content = c; next = n }) t.content t.next in
      rw q
      (cut_number s at j t.v t.a _ fits t.v_is (λ k.
      cut_refuse (vertex_fault n es last t.v) at _ t.kept
      (cut_then (vertices_from n es left t.v (take j s) t.a) t.rest _
      (vertices_cut n es left t.v t.a t.rest k t.rest_is) (λ m.
      cut_good _ m))))

  paths_cut : (n : ℕ) (es : List Edge) (left at : ℕ) (r : Part (List (List ℕ))) → at ≤ j → paths_from n es left s at ≡ good r
      → CutTo j (r.next ≤ j) r (paths_from n es left (take j s) at)
  unfolding paths_from
  paths_cut n es zero at r h e = rw (paths-none n es s at r e) (cut_good _ h)
  paths_cut n es (suc left) at r h e =
      let t = paths-step n es left s at r e in
      let q : r ≡ record { content = t.path.content ∷ t.rest.content; next = t.rest.next } =
      ap₂ (λ (c : List (List ℕ)) (n : ℕ). record { content = c; next = n }) t.content t.next in
      rw q
      (cut_number s at j t.count t.a _ fits t.count_is (λ k.
      cut_refuse (path_length_fault n t.count) at _ t.kept
      (cut_then (vertices_from n es t.count 0 (take j s) t.a) t.path _
      (vertices_cut n es t.count 0 t.a t.path k t.path_is) (λ l.
      cut_then (paths_from n es left (take j s) t.path.next) t.rest _
      (paths_cut n es left t.path.next t.rest l t.rest_is) (λ m.
      cut_good _ m)))))

  -- up to the edges
  front_cut : (wanted : ℕ) (f : Front) → length s ≤ most_file_bytes → FrontParts wanted s f → CutTo j (f.next ≤ j) f (front_of wanted (take j s))
  unfolding front_of front_in
  front_cut wanted f few t =
      let n : ℕ = length f.labels in
      let m : ℕ = length f.edges in
      cut_refuse (pick (leb (length (take j s)) most_file_bytes) 0 out_of_range) most_file_bytes _
      (rw (cut_length, le-leb j most_file_bytes (omega arith)))
      (cut_number s 0 j wanted _ _ fits t.kind_is (λ h.
      cut_refuse (pick (eqb wanted wanted) 0 wrong_kind) 0 _ (rw (eq-eqb wanted wanted refl))
      (cut_number s t.count_at j n _ _ fits t.count_is (λ i.
      cut_refuse (vertex_count_fault n) t.count_at _ (range_free 1 most_vertices n t.some_vertex t.few_vertices)
      (cut_then (labels_from n 0 (take j s) f.labels_at) (record { content = f.labels; next = t.labels_end }) _
      (labels_cut n 0 f.labels_at _ i t.labels_is) (λ k.
      cut_number s t.labels_end j m _ _ fits t.edge_count_is (λ l.
      cut_refuse (edge_count_fault m) t.labels_end _ (range_free 0 most_edges m (omega arith) t.few_edges)
      (cut_then (edges_from n m no_edge (take j s) f.edges_at) (record { content = f.edges; next = f.next }) _
      (edges_cut n m no_edge f.edges_at _ l t.edges_is) (λ o.
      cut_good _ o)))))))))

  -- K and the paths: they do not end within the prefix
  rest_cut : (p : Parsed) (t : Parts s p) → j < length s
      → CutTo j (length s ≤ j) p
      (rest_of (take j s)
      (record { labels = p.graph.labels; edges = p.graph.edges; labels_at = p.labels_at; edges_at = p.edges_at; next = t.edges_end }))
  unfolding rest_of
  rest_cut p t short =
      let k : ℕ = path_count p.graph in
      let n : ℕ = vertex_count p.graph in
      cut_number s t.edges_end j k _ _ fits t.path_count_is (λ h.
      cut_refuse (path_count_fault k) t.edges_end _ (range_free 1 most_paths k t.some_path t.few_paths)
      (cut_then (paths_from n p.graph.edges k (take j s) p.paths_at) (record { content = p.graph.paths; next = length s }) _
      (paths_cut n p.graph.edges k p.paths_at _ h t.paths_is) (λ i.
      absurd (omega arith))))

-- the first j bytes of an accepted file of more
pub prefix_refused : (s : List ℕ) (p : Parsed) (j : ℕ) → graph_of s ≡ good p → j < length s → graph_of (take j s) ≡ fault bytes_end j
unfolding graph_of
prefix_refused s p j e h =
    let t = parts s p e in
    let c : CutTo j (length s ≤ j) p (graph_of (take j s)) =
    cut_then (front_of graph_kind (take j s)) _ (rest_of (take j s)) (front_cut s j (omega arith) graph_kind _ (short_whole s p e).0 t.front)
    (λ i. rest_cut s j (omega arith) p t h) in
    elim c.either [
      | inl k ↦ absurd (omega (arith, k.0))
      | inr k ↦ k
    ]
