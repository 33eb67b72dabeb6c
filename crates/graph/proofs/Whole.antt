-- A graph file that is accepted is the encoding of its content, which keeps every file rule.
-- Assumes nothing.
use Prim.Native.Nat.{ℕ, ◌+◌, ◌≤◌}
use mathlib.Core.Path.{◌≡◌, ap, ap₂, ◌∙◌}
use mathlib.Core.List.{List, ◌++◌, append-nil}
use native.Mathlib.Omega.{arith}
use lib.ListN.{length, drop, length-append, length-drop}
use lib.Seq.{drop-length}
use Rattle.wire.specs.Found.{good}
use Rattle.wire.specs.Numbers.{encode}
use Rattle.wire.specs.Sizes.{graph_kind, most_file_bytes}
use Rattle.wire.proofs.NumberLaws.{Bytes, number-value, number-within}
use Rattle.graph.specs.Content.{vertex_count, edge_count, path_count}
use Rattle.graph.specs.Good.{EdgeBelow, GoodGraph}
use Rattle.graph.specs.Rules.{no_edge}
use Rattle.graph.specs.Encode.{encode_graph, encode_labels, encode_edges, encode_paths}
use Rattle.graph.specs.Reading.{Parsed, graph_of}
use Rattle.graph.specs.Placed.{labels_start, edges_start, paths_start, parsed_of}
use Rattle.graph.proofs.Kept.{cover_kept}
use Rattle.graph.proofs.Accepting.{next_tail}
use Rattle.graph.proofs.Parted.{Parts, short_whole, parts}

-- the content keeps every rule
pub parts_good : (s : List ℕ) (p : Parsed) → Parts s p → GoodGraph p.graph
parts_good s p t =
    let f = t.front in
    let l = f.labels_hold in
    let e = f.edges_hold in
    let r = t.paths_hold in
    record {
      some_vertex = f.some_vertex;
      few_vertices = f.few_vertices;
      some_letter = l.some;
      few_letters = omega (arith, l.few (omega arith));
      letters = l.letters;
      few_edges = f.few_edges;
      edge_ends = e.vertices;
      edges_rise = next_tail EdgeBelow no_edge p.graph.edges e.rise;
      some_path = t.some_path;
      few_paths = t.few_paths;
      path_lengths = r.lengths;
      path_vertices = r.vertices;
      paths_rise = r.rise;
      path_steps = r.steps;
      covered = cover_kept (vertex_count p.graph) p.graph.paths t.cover;
    }

goes_on : {a c d : List ℕ} (b : List ℕ) → a ≡ b ++ c → c ≡ d → a ≡ b ++ d
goes_on b p q = p ∙ ap (λ (t : List ℕ). b ++ t) q

-- the sections one after the other
pub parts_bytes : (s : List ℕ) (p : Parsed) → Bytes s → Parts s p → s ≡ encode_graph p.graph
unfolding encode_graph
parts_bytes s p b t =
    let f = t.front in
    let g = p.graph in
    goes_on (encode graph_kind) (number-value s 0 graph_kind _ b f.kind_is).suffix
    (goes_on (encode (vertex_count g)) (number-value s f.count_at _ _ b f.count_is).suffix
    (goes_on (encode_labels g.labels) (f.labels_hold.bytes b)
    (goes_on (encode (edge_count g)) (number-value s f.labels_end _ _ b f.edge_count_is).suffix
    (goes_on (encode_edges g.edges) (f.edges_hold.bytes b)
    (goes_on (encode (path_count g)) (number-value s t.edges_end _ _ b t.path_count_is).suffix
    (goes_on (encode_paths g.paths) (t.paths_hold.bytes b) (drop-length s) ∙ append-nil (encode_paths g.paths)))))))

-- where a section ends, from its bytes
after : (s : List ℕ) (at next : ℕ) (section : List ℕ) → at ≤ length s → next ≤ length s → drop at s ≡ section ++ drop next s
    → next ≡ at + length section
after s at next section h k e =
    let l = simp (length-append, length-drop) at (ap length e) in
    omega arith

module _ (s : List ℕ) (p : Parsed) (b : Bytes s) (t : Parts s p) where
  labels_at_lem : p.labels_at ≡ labels_start p.graph
  unfolding labels_start
  labels_at_lem =
      let f = t.front in
      let a = number-value s 0 graph_kind _ b f.kind_is in
      let c = number-value s f.count_at _ _ b f.count_is in
      omega (arith, a.next, c.next)

  edges_at_lem : p.edges_at ≡ edges_start p.graph
  unfolding edges_start
  edges_at_lem =
      let f = t.front in
      let c = number-within s f.count_at _ _ f.count_is in
      let l = after s p.labels_at f.labels_end (encode_labels p.graph.labels) c.1 f.labels_hold.within (f.labels_hold.bytes b) in
      let d = number-value s f.labels_end _ _ b f.edge_count_is in
      omega (arith, d.next, labels_at_lem)

  paths_at_lem : p.paths_at ≡ paths_start p.graph
  unfolding paths_start
  paths_at_lem =
      let f = t.front in
      let c = number-within s f.labels_end _ _ f.edge_count_is in
      let l = after s p.edges_at t.edges_end (encode_edges p.graph.edges) c.1 f.edges_hold.within (f.edges_hold.bytes b) in
      let d = number-value s t.edges_end _ _ b t.path_count_is in
      omega (arith, d.next, edges_at_lem)

  parts_places : p ≡ parsed_of p.graph
  parts_places =
      ap (λ (x : ℕ). record { graph = p.graph; labels_at = x; edges_at = p.edges_at; paths_at = p.paths_at }) labels_at_lem
      ∙ ap₂ (λ (x y : ℕ). record { graph = p.graph; labels_at = labels_start p.graph; edges_at = x; paths_at = y }) edges_at_lem paths_at_lem

-- what is known of an accepted file
pub record Taken (s : List ℕ) (p : Parsed) : Type 0 where
  pub bytes : s ≡ encode_graph p.graph
  pub short : length s ≤ most_file_bytes
  pub rules : GoodGraph p.graph
  pub places : p ≡ parsed_of p.graph

-- an accepted file is the encoding of a good graph, with its sections where they start in that encoding
pub taken : (s : List ℕ) (p : Parsed) → Bytes s → graph_of s ≡ good p → Taken s p
taken s p b e =
    let t = parts s p e in
    record { bytes = parts_bytes s p b t; short = (short_whole s p e).0; rules = parts_good s p t; places = parts_places s p b t }
