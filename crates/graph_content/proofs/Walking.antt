-- A path's vertices one after the other, with a place in the edges that goes on with them.
-- Assumes nothing.
use Prim.Native.Nat.{ℕ, ◌+◌, ◌-◌, ◌≤◌, ◌<◌}
use mathlib.Core.Path.{◌≡◌, sym, ap, ◌∙◌}
use mathlib.Core.List.{List}
use mathlib.Core.Bool.{Bool, true, false}
use native.Mathlib.Omega.{arith}
use lib.ListN.{get_or, length}
use Rattle.wire.specs.Cases.{pick}
use Rattle.wire.specs.Refusals.{not_edge, code}
use Rattle.wire.specs.declared.refusals.Refusal.{Refusal}
use Rattle.wire.specs.declared.refusals.Refusal.TheVariants.{NotEdge}
use Rattle.graph.specs.Content.{Edge}
use Rattle.graph.specs.Rules.{edge_below, is_edge, is_step, vertex_fault}
use Rattle.graph_rules.specs.Rise.{rise_fault}
use Rattle.graph.specs.Entries.{edge_in, edges_in}
use Rattle.graph_content.specs.Faults.{vertices_fault, Rising}
use Rattle.graph_content.specs.Search.{Passed, edge_is}
use Rattle.graph_content.proofs.Encoded.{left-all}
use Rattle.graph_content.proofs.Faulting.{refused, taken, vertices-step, vertices-over, vertex_parts, step-first, step-next, rise-good}
use Rattle.graph_content.proofs.Searching.{found-there}

-- The vertices before the place `at` have no fault, `last` is the last of them, or 0, and the edges before `place` are passed: none of
-- them leaves `last` or a later vertex.
pub record Walked (n m : ℕ) (edges path : List ℕ) (place at last : ℕ) : Type 0 where
  pub told : vertices_fault n (edges_in m 0 edges) (length path) 0 0 path
      ≡ vertices_fault n (edges_in m 0 edges) (length path - at) at last path
  pub upto : place ≤ m
  pub later : (u v : ℕ) → last ≤ u → is_edge (edges_in m 0 edges) u v ≡ is_edge (edges_in (m - place) place edges) u v

module _ (n m : ℕ) (edges path : List ℕ) where
  -- the edges, and the fault of the whole path
  abbrev es : List Edge
  es = edges_in m 0 edges

  abbrev whole : ℕ
  whole = vertices_fault n es (length path) 0 0 path

  pub walked-none : Walked n m edges path 0 0 0
  walked-none = record {
    told = ap (λ (l : ℕ). vertices_fault n es l 0 0 path) (sym (left-all (length path)));
    upto = omega arith;
    later = λ u v k. ap (λ (l : ℕ). is_edge (edges_in l 0 edges) u v) (sym (left-all m));
  }

  module _ (place at last : ℕ) (w : Walked n m edges path place at last) where
    -- the next vertex
    abbrev next : ℕ
    next = get_or path at 0

    pub walked_end : length path ≤ at → whole ≡ 0
    walked_end h = w.told ∙ vertices-over n es (length path) at last path h

    step-bad : (r : Refusal) → at < length path → code r ≡ vertex_fault n es last next → whole ≡ code r
    step-bad r h e = w.told ∙ vertices-step n es (length path) at last path h ∙ refused r _ _ e

    step-good : at < length path → vertex_fault n es last next ≡ 0
        → whole ≡ vertices_fault n es (length path - (at + 1)) (at + 1) next path
    step-good h e = w.told ∙ vertices-step n es (length path) at last path h ∙ taken _ _ (sym e)

    -- a vertex with a fault of its own
    pub walked_bad : (r : Refusal) → at < length path → code r ≡ rise_fault n last next → whole ≡ code r
    walked_bad r h e = step-bad r h (sym (vertex_parts n es last next ∙ refused r _ _ e))

    module _ (h : at < length path) (z : 0 ≡ rise_fault n last next) where
      -- the first vertex
      pub walked-first : last ≡ 0 → Walked n m edges path place (at + 1) next
      walked-first e = record {
        told = step-good h (vertex_parts n es last next ∙ taken _ _ z
            ∙ ap (λ (u : ℕ). pick (is_step es u next) 0 not_edge) e ∙ ap (λ (s : Bool). pick s 0 not_edge) (step-first es next));
        upto = w.upto;
        later = λ u v k. w.later u v (omega (arith, (rise-good n last next (sym z)).2));
      }

      module _ (r : ℕ) (some : 1 ≤ last) (rise : Rising m edges) (p : Passed m edges place last next r)
          (above : r < m → edge_below (edge_in edges r) (record { from = last; to = next }) ≡ false) where
        -- the step is an edge exactly if the edge stands at the place
        step-there : vertex_fault n es last next ≡ pick (edge_is m edges r last next) 0 not_edge
        step-there =
            vertex_parts n es last next
            ∙ taken _ _ z
            ∙ ap (λ (s : Bool). pick s 0 not_edge)
            (step-next es last next some ∙ w.later last next (omega arith) ∙ p.step ∙ found-there m edges r last next p.upto rise above)

        pub walked_off : edge_is m edges r last next ≡ false → whole ≡ not_edge
        walked_off q = step-bad NotEdge h (sym (step-there ∙ ap (λ (s : Bool). pick s 0 not_edge) q))

        pub walked_more : edge_is m edges r last next ≡ true → Walked n m edges path r (at + 1) next
        walked_more q =
            let g = rise-good n last next (sym z) in record {
              told = step-good h (step-there ∙ ap (λ (s : Bool). pick s 0 not_edge) q);
              upto = p.upto;
              later = λ u v k. w.later u v (omega (arith, g.2)) ∙ p.later u v (omega (arith, g.2));
            }
