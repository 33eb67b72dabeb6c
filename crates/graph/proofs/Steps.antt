-- What was found of a section was found of its first entry and of the rest: the steps of the definitions of reading.
-- Assumes nothing.
use Prim.Native.Nat.{ℕ, suc, ◌+◌, ◌<◌}
use mathlib.Core.Path.{◌≡◌, sym, ap}
use mathlib.Core.List.{List, [], ◌∷◌}
use lib.ListN.{length, get_or}
use lib.Dec.{ltb}
use borrow.Author.Tests.{ltb-true}
use Rattle.wire.specs.Found.{good, Part}
use Rattle.wire.specs.Numbers.{number_at}
use Rattle.wire.specs.Refusals.{bytes_end}
use Rattle.wire.proofs.Finding.{then_good, number-good, refuse-good, pick_good, good-same}
use Rattle.graph.specs.Content.{Edge}
use Rattle.graph.specs.Rules.{letter_fault, length_fault, edge_fault, path_length_fault, vertex_fault}
use Rattle.graph.specs.Reading.{letters_from, labels_from, edges_from, vertices_from, paths_from}

-- one letter, and the letters after it
pub record LetterStep (left : ℕ) (s : List ℕ) (at : ℕ) (r : List ℕ) : Type 0 where
  pub there : at < length s
  pub kept : letter_fault (get_or s at 0) ≡ 0
  pub rest : List ℕ
  pub rest_is : letters_from left s (at + 1) ≡ good rest
  pub whole : r ≡ get_or s at 0 ∷ rest

pub letters-step : (left : ℕ) (s : List ℕ) (at : ℕ) (r : List ℕ) → letters_from (suc left) s at ≡ good r → LetterStep left s at r
unfolding letters_from
letters-step left s at r e =
    let a = pick_good (ltb at (length s)) _ bytes_end (length s) r e in
    let b = refuse-good (letter_fault (get_or s at 0)) _ _ r a.1 in
    let c = then_good (letters_from left s (at + 1)) _ r b.1 in
    record { there = ltb-true at (length s) a.0; kept = b.0; rest = c.0; rest_is = c.1; whole = sym (good-same _ r c.2) }

-- one label, and the labels after it
pub record LabelStep (left sum : ℕ) (s : List ℕ) (at : ℕ) (r : Part (List (List ℕ))) : Type 0 where
  pub len : ℕ
  pub a : ℕ
  pub len_is : number_at s at ≡ good (record { content = len; next = a })
  pub kept : length_fault sum len ≡ 0
  pub label : List ℕ
  pub label_is : letters_from len s a ≡ good label
  pub rest : Part (List (List ℕ))
  pub rest_is : labels_from left (sum + len) s (a + len) ≡ good rest
  pub content : r.content ≡ label ∷ rest.content
  pub next : r.next ≡ rest.next

pub labels-step : (left sum : ℕ) (s : List ℕ) (at : ℕ) (r : Part (List (List ℕ))) → labels_from (suc left) sum s at ≡ good r
    → LabelStep left sum s at r
unfolding labels_from
labels-step left sum s at r e =
    let a = number-good s at _ r e in
    let b = refuse-good (length_fault sum a.0) at _ r a.3 in
    let c = then_good (letters_from a.0 s a.1) _ r b.1 in
    let d = then_good (labels_from left (sum + a.0) s (a.1 + a.0)) _ r c.2 in
    let q : record { content = c.0 ∷ d.0.content; next = d.0.next } ≡ r = good-same _ r d.2 in
    record {
      len = a.0;
      a = a.1;
      len_is = a.2;
      kept = b.0;
      label = c.0;
      label_is = c.1;
      rest = d.0;
      rest_is = d.1;
      content = ap (λ (k : Part (List (List ℕ))). k.content) (sym q);
      next = ap (λ (k : Part (List (List ℕ))). k.next) (sym q);
    }

-- one edge, and the edges after it
pub record EdgeStep (n left : ℕ) (last : Edge) (s : List ℕ) (at : ℕ) (r : Part (List Edge)) : Type 0 where
  pub u : ℕ
  pub a : ℕ
  pub u_is : number_at s at ≡ good (record { content = u; next = a })
  pub v : ℕ
  pub b : ℕ
  pub v_is : number_at s a ≡ good (record { content = v; next = b })
  pub kept : edge_fault n last (record { from = u; to = v }) ≡ 0
  pub rest : Part (List Edge)
  pub rest_is : edges_from n left (record { from = u; to = v }) s b ≡ good rest
  pub content : r.content ≡ record { from = u; to = v } ∷ rest.content
  pub next : r.next ≡ rest.next

pub edges_step : (n left : ℕ) (last : Edge) (s : List ℕ) (at : ℕ) (r : Part (List Edge)) → edges_from n (suc left) last s at ≡ good r
    → EdgeStep n left last s at r
unfolding edges_from
edges_step n left last s at r e =
    let a = number-good s at _ r e in
    let b = number-good s a.1 _ r a.3 in
    let edge : Edge = record { from = a.0; to = b.0 } in
    let c = refuse-good (edge_fault n last edge) at _ r b.3 in
    let d = then_good (edges_from n left edge s b.1) _ r c.1 in
    let q : record { content = edge ∷ d.0.content; next = d.0.next } ≡ r = good-same _ r d.2 in
    record {
      u = a.0;
      a = a.1;
      u_is = a.2;
      v = b.0;
      b = b.1;
      v_is = b.2;
      kept = c.0;
      rest = d.0;
      rest_is = d.1;
      content = ap (λ (k : Part (List Edge)). k.content) (sym q);
      next = ap (λ (k : Part (List Edge)). k.next) (sym q);
    }

-- one vertex of a path, and the vertices after it
pub record VertexStep (n : ℕ) (es : List Edge) (left last : ℕ) (s : List ℕ) (at : ℕ) (r : Part (List ℕ)) : Type 0 where
  pub v : ℕ
  pub a : ℕ
  pub v_is : number_at s at ≡ good (record { content = v; next = a })
  pub kept : vertex_fault n es last v ≡ 0
  pub rest : Part (List ℕ)
  pub rest_is : vertices_from n es left v s a ≡ good rest
  pub content : r.content ≡ v ∷ rest.content
  pub next : r.next ≡ rest.next

pub vertices-step : (n : ℕ) (es : List Edge) (left last : ℕ) (s : List ℕ) (at : ℕ) (r : Part (List ℕ))
    → vertices_from n es (suc left) last s at ≡ good r → VertexStep n es left last s at r
unfolding vertices_from
vertices-step n es left last s at r e =
    let a = number-good s at _ r e in
    let b = refuse-good (vertex_fault n es last a.0) at _ r a.3 in
    let c = then_good (vertices_from n es left a.0 s a.1) _ r b.1 in
    let q : record { content = a.0 ∷ c.0.content; next = c.0.next } ≡ r = good-same _ r c.2 in
    record {
      v = a.0;
      a = a.1;
      v_is = a.2;
      kept = b.0;
      rest = c.0;
      rest_is = c.1;
      content = ap (λ (k : Part (List ℕ)). k.content) (sym q);
      next = ap (λ (k : Part (List ℕ)). k.next) (sym q);
    }

-- one path, and the paths after it
pub record PathStep (n : ℕ) (es : List Edge) (left : ℕ) (s : List ℕ) (at : ℕ) (r : Part (List (List ℕ))) : Type 0 where
  pub count : ℕ
  pub a : ℕ
  pub count_is : number_at s at ≡ good (record { content = count; next = a })
  pub kept : path_length_fault n count ≡ 0
  pub path : Part (List ℕ)
  pub path_is : vertices_from n es count 0 s a ≡ good path
  pub rest : Part (List (List ℕ))
  pub rest_is : paths_from n es left s path.next ≡ good rest
  pub content : r.content ≡ path.content ∷ rest.content
  pub next : r.next ≡ rest.next

pub paths-step : (n : ℕ) (es : List Edge) (left : ℕ) (s : List ℕ) (at : ℕ) (r : Part (List (List ℕ)))
    → paths_from n es (suc left) s at ≡ good r → PathStep n es left s at r
unfolding paths_from
paths-step n es left s at r e =
    let a = number-good s at _ r e in
    let b = refuse-good (path_length_fault n a.0) at _ r a.3 in
    let c = then_good (vertices_from n es a.0 0 s a.1) _ r b.1 in
    let d = then_good (paths_from n es left s c.0.next) _ r c.2 in
    let q : record { content = c.0.content ∷ d.0.content; next = d.0.next } ≡ r = good-same _ r d.2 in
    record {
      count = a.0;
      a = a.1;
      count_is = a.2;
      kept = b.0;
      path = c.0;
      path_is = c.1;
      rest = d.0;
      rest_is = d.1;
      content = ap (λ (k : Part (List (List ℕ))). k.content) (sym q);
      next = ap (λ (k : Part (List (List ℕ))). k.next) (sym q);
    }

-- ---- no entry left

pub letters-none : (s : List ℕ) (at : ℕ) (r : List ℕ) → letters_from 0 s at ≡ good r → r ≡ []
unfolding letters_from
letters-none s at r e = sym (good-same _ r e)

pub labels-none : (sum : ℕ) (s : List ℕ) (at : ℕ) (r : Part (List (List ℕ))) → labels_from 0 sum s at ≡ good r
    → r ≡ record { content = []; next = at }
unfolding labels_from
labels-none sum s at r e = sym (good-same _ r e)

pub edges_none : (n : ℕ) (last : Edge) (s : List ℕ) (at : ℕ) (r : Part (List Edge)) → edges_from n 0 last s at ≡ good r
    → r ≡ record { content = []; next = at }
unfolding edges_from
edges_none n last s at r e = sym (good-same _ r e)

pub vertices-none : (n : ℕ) (es : List Edge) (last : ℕ) (s : List ℕ) (at : ℕ) (r : Part (List ℕ)) → vertices_from n es 0 last s at ≡ good r
    → r ≡ record { content = []; next = at }
unfolding vertices_from
vertices-none n es last s at r e = sym (good-same _ r e)

pub paths-none : (n : ℕ) (es : List Edge) (s : List ℕ) (at : ℕ) (r : Part (List (List ℕ))) → paths_from n es 0 s at ≡ good r
    → r ≡ record { content = []; next = at }
unfolding paths_from
paths-none n es s at r e = sym (good-same _ r e)
