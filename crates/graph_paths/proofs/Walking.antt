-- The paths, vertex by vertex: the steps of the two loops that check them.
-- Assumes nothing.
use Prim.Native.Nat.{ℕ, zero, suc, ◌-◌, ◌≤◌, ◌<◌}
use mathlib.Core.Path.{◌≡◌, refl, sym, ap, ◌∙◌, subst}
use mathlib.Core.List.{List, [], ◌∷◌, ◌++◌, append_assoc, append-nil}
use mathlib.Core.Bool.{Bool, true, false}
use native.Mathlib.Omega.{arith}
use native.Mathlib.Numerals.{sub-one}
use lib.ListN.{set}
use Rattle.wire.specs.Cases.{pick}
use Rattle.wire.specs.Found.{Found, good, fault, Part, and_then, refuse}
use Rattle.wire.specs.Numbers.{on_number, number, number_at}
use Rattle.wire.specs.Refusals.{not_edge}
use Rattle.graph.specs.Content.{Edge}
use Rattle.graph.specs.Rules.{vertex_fault}
use Rattle.graph.specs.Reading.{vertices_from, paths_from}
use Rattle.graph_parts.specs.Answers.{count_at, answered}
use Rattle.graph_paths.specs.PathAnswers.{Marked}
use Rattle.graph_paths.specs.Marks.{Marks}
use Rattle.graph_paths.specs.Steps.{step_at}
use Rattle.graph_rules.specs.Rise.{rise_fault}
use Rattle.graph_paths.specs.declared.search.Search.{Search}
use Rattle.graph_paths.proofs.Marking.{marks_path, marks_vertex}
use Rattle.graph_parts.proofs.Passing.{refuse-none, refuse-some, number_read, number-stop, count-on}
use Rattle.graph_paths.proofs.Stepping.{Ahead, Stepped, stepped, vertex_bad, vertex-step, rise_kept}

-- paths read before, and those found after them
abbrev prefixed : List (List ℕ) → Found (Part (List (List ℕ))) → Found (Part (List (List ℕ)))
prefixed done (good r) = good (record { content = done ++ r.content; next = r.next })
prefixed done (fault k p) = fault k p

-- the rest of a path that began with the vertices `path`, and the paths after it, `left` of them
abbrev onward : ℕ → List Edge → ℕ → List ℕ → List (List ℕ) → List ℕ → Found (Part (List ℕ)) → Found (Part (List (List ℕ)))
onward n es left s done path x =
    and_then x (λ r. prefixed (done ++ ((path ++ r.content) ∷ [])) (paths_from n es left s r.next))

-- the paths `done` are read and marked, and what is found from here on is what follows them
pub record Walked (n : ℕ) (es : List Edge) (k : ℕ) (s : List ℕ) (start : ℕ) (flags : List Bool) (at todo : ℕ) : Type 0 where
  pub done : List (List ℕ)
  pub marks : Marks flags n done
  pub same : paths_from n es k s start ≡ prefixed done (paths_from n es todo s at)

-- the vertices `path` of a path are read and marked too, up to the vertex `last`, or 0; its steps are looked for from `edge` on
pub record Walking (n : ℕ) (es : List Edge) (k : ℕ) (s : List ℕ) (start todo : ℕ) (flags : List Bool) (at left last edge ahead : ℕ) : Type 0 where
  pub done : List (List ℕ)
  pub path : List ℕ
  pub marks : Marks flags n (done ++ (path ∷ []))
  pub edges : Ahead n s es last edge ahead
  pub same : paths_from n es k s start ≡ onward n es (todo - 1) s done path (vertices_from n es left last s at)

-- ---- the outer loop

prefixed_none : (x : Found (Part (List (List ℕ)))) → x ≡ prefixed [] x
prefixed_none (good r) = refl
prefixed_none (fault k p) = refl

pub walked_none : (n : ℕ) (es : List Edge) (k : ℕ) (s : List ℕ) (start : ℕ) (flags : List Bool) → Marks flags n []
    → Walked n es k s start flags start k
walked_none n es k s start flags m = record { done = []; marks = m; same = prefixed_none (paths_from n es k s start) }

-- what follows a path's vertex count
abbrev path_on : ℕ → List Edge → ℕ → List ℕ → ℕ → ℕ → Found (Part (List (List ℕ)))
path_on n es left s count a =
    and_then (vertices_from n es count 0 s a) (λ p.
    and_then (paths_from n es left s p.next) (λ r.
    good (record { content = p.content ∷ r.content; next = r.next })))

paths-suc : (n : ℕ) (es : List Edge) (left : ℕ) (s : List ℕ) (at : ℕ) → (left ≡ 0 → ⊥)
    → paths_from n es left s at ≡ on_number (count_at 1 n s at) (path_on n es (left - 1) s)
unfolding paths_from
paths-suc n es zero s at h = absurd (h refl)
paths-suc n es (suc left) s at h =
    count-on 1 n s at (path_on n es left s) ∙ ap (λ (j : ℕ). on_number (count_at 1 n s at) (path_on n es j s)) (sym (sub-one (suc left)))

-- a path in front of those after it is one more of those before them
path_in : (done : List (List ℕ)) (p : List ℕ) (y : Found (Part (List (List ℕ))))
    → prefixed done (and_then y (λ r. good (record { content = p ∷ r.content; next = r.next }))) ≡ prefixed (done ++ (p ∷ [])) y
path_in done p (good r) = ap (λ (c : List (List ℕ)). good (record { content = c; next = r.next })) (sym (append_assoc done (p ∷ []) r.content))
path_in done p (fault k q) = refl

path-on : (n : ℕ) (es : List Edge) (left : ℕ) (s : List ℕ) (done : List (List ℕ)) (x : Found (Part (List ℕ)))
    → prefixed done
    (and_then x (λ p. and_then (paths_from n es left s p.next) (λ r. good (record { content = p.content ∷ r.content; next = r.next }))))
    ≡ onward n es left s done [] x
path-on n es left s done (good p) = path_in done p.content (paths_from n es left s p.next)
path-on n es left s done (fault k q) = refl

module _ (n : ℕ) (es : List Edge) (k : ℕ) (s : List ℕ) (start : ℕ) (flags : List Bool) (at todo : ℕ) (w : Walked n es k s start flags at todo) where
  -- no path is left
  pub walked_done : todo ≡ 0 → paths_from n es k s start ≡ good (record { content = w.done; next = at })
  unfolding paths_from
  walked_done e =
      w.same
      ∙ ap (λ (j : ℕ). prefixed w.done (paths_from n es j s at)) e
      ∙ ap (λ (c : List (List ℕ)). good (record { content = c; next = at })) (append-nil w.done)

  -- the count is at fault
  pub walked_stop : {i p : ℕ} → (todo ≡ 0 → ⊥) → count_at 1 n s at ≡ fault i p → paths_from n es k s start ≡ fault i p
  walked_stop h e =
      w.same
      ∙ ap (prefixed w.done) (paths-suc n es todo s at h ∙ ap (λ (c : Found (Part ℕ)). on_number c (path_on n es (todo - 1) s)) e)

  -- a path begins
  pub walking_start : {count : ℕ} {a : ℕ} (edge ahead : ℕ) → (todo ≡ 0 → ⊥) → count_at 1 n s at ≡ good (record { content = count; next = a }) → Ahead n s es 0 edge ahead
      → Walking n es k s start todo flags a count 0 edge ahead
  walking_start {count} {a} edge ahead h e d = record {
    done = w.done;
    path = [];
    marks = marks_path flags n w.done w.marks;
    edges = d;
    same = w.same
        ∙ ap (prefixed w.done) (paths-suc n es todo s at h ∙ ap (λ (c : Found (Part ℕ)). on_number c (path_on n es (todo - 1) s)) e)
        ∙ path-on n es (todo - 1) s w.done (vertices_from n es count 0 s a);
  }

-- ---- the inner loop

-- what follows a vertex
abbrev vertex_on : ℕ → List Edge → ℕ → ℕ → List ℕ → ℕ → ℕ → ℕ → Found (Part (List ℕ))
vertex_on n es left last s at v a =
    refuse (vertex_fault n es last v) at
    (and_then (vertices_from n es left v s a) (λ r. good (record { content = v ∷ r.content; next = r.next })))

vertices-suc : (n : ℕ) (es : List Edge) (left last : ℕ) (s : List ℕ) (at : ℕ) → 0 < left
    → vertices_from n es left last s at ≡ number s at (vertex_on n es (left - 1) last s at)
unfolding vertices_from
vertices-suc n es zero last s at h = absurd (omega arith)
vertices-suc n es (suc left) last s at h = ap (λ (j : ℕ). number s at (vertex_on n es j last s at)) (sym (sub-one (suc left)))

-- a vertex in front of those after it is one more of those before them
vertex_in : (n : ℕ) (es : List Edge) (left : ℕ) (s : List ℕ) (done : List (List ℕ)) (path : List ℕ) (v : ℕ) (y : Found (Part (List ℕ)))
    → onward n es left s done path (and_then y (λ r. good (record { content = v ∷ r.content; next = r.next })))
    ≡ onward n es left s done (path ++ (v ∷ [])) y
vertex_in n es left s done path v (good r) =
    ap (λ (c : List ℕ). prefixed (done ++ (c ∷ [])) (paths_from n es left s r.next)) (sym (append_assoc path (v ∷ []) r.content))
vertex_in n es left s done path v (fault k p) = refl

module _ (n : ℕ) (es : List Edge) (k : ℕ) (s : List ℕ) (start todo : ℕ) (flags : List Bool) (at left last edge ahead : ℕ)
    (w : Walking n es k s start todo flags at left last edge ahead) where
  -- a fault of the vertices is the answer
  at_fault : {i p : ℕ} → vertices_from n es left last s at ≡ fault i p → paths_from n es k s start ≡ fault i p
  at_fault e = w.same ∙ ap (onward n es (todo - 1) s w.done w.path) e

  -- the path ends
  pub walking_end : left ≤ 0 → Walked n es k s start flags at (todo - 1)
  unfolding vertices_from
  walking_end h =
      let e : left ≡ 0 = omega arith in
      record {
        done = w.done ++ (w.path ∷ []);
        marks = w.marks;
        same = w.same
            ∙ ap (λ (j : ℕ). onward n es (todo - 1) s w.done w.path (vertices_from n es j last s at)) e
            ∙ ap (λ (c : List ℕ). prefixed (w.done ++ (c ∷ [])) (paths_from n es (todo - 1) s at)) (append-nil w.path);
      }

  module _ (h : 0 < left) where
    pub walking_stop : {i p : ℕ} → number_at s at ≡ fault i p → paths_from n es k s start ≡ fault i p
    walking_stop e = at_fault (vertices-suc n es left last s at h ∙ number-stop s at _ e)

    module _ {v : ℕ} {a : ℕ} (e : number_at s at ≡ good (record { content = v; next = a })) where
      from-vertex : vertices_from n es left last s at ≡ vertex_on n es (left - 1) last s at v a
      from-vertex = vertices-suc n es left last s at h ∙ number_read s at (vertex_on n es (left - 1) last s at) e

      pub walking_bad : (rise_fault n last v ≡ 0 → ⊥) → paths_from n es k s start ≡ fault (rise_fault n last v) at
      walking_bad g =
          let q = vertex_bad n es last v g in
          at_fault (from-vertex ∙ refuse-some (vertex_fault n es last v) at _ (λ z. g (sym q ∙ z)) ∙ ap (λ (j : ℕ). fault j at) q)

      module _ (g : rise_fault n last v ≡ 0) {r : Search} (found : r ≡ step_at ahead s edge last v) where
        step : Stepped n s es last v r
        step = subst (Stepped n s es last v) (sym found) (stepped n s es last edge ahead v (rise_kept n last v g).2 w.edges)

        pub walking_off : r.found ≡ false → paths_from n es k s start ≡ fault not_edge at
        walking_off f =
            let q : vertex_fault n es last v ≡ not_edge =
            vertex-step n es last v g ∙ ap (λ (b : Bool). pick b 0 not_edge) (sym step.found ∙ f) in
            at_fault (from-vertex ∙ refuse-some (vertex_fault n es last v) at _ (λ z. omega (arith, q, z)) ∙ ap (λ (j : ℕ). fault j at) q)

        pub walking_next : {out : List Bool} → r.found ≡ true → out ≡ set flags (v - 1) true
            → Walking n es k s start todo out a (left - 1) v r.at r.left
        walking_next f o =
            let q : vertex_fault n es last v ≡ 0 = vertex-step n es last v g ∙ ap (λ (b : Bool). pick b 0 not_edge) (sym step.found ∙ f) in
            let t = rise_kept n last v g in
            record {
              done = w.done;
              path = w.path ++ (v ∷ []);
              marks = rw o (marks_vertex flags n w.done w.path v t.0 t.1 w.marks);
              edges = step.ahead;
              same = w.same
                  ∙ ap (onward n es (todo - 1) s w.done w.path) (from-vertex ∙ refuse-none (vertex_fault n es last v) at _ q)
                  ∙ vertex_in n es (todo - 1) s w.done w.path v (vertices_from n es (left - 1) v s a);
            }

-- ---- the answer

-- of paths that were not read, no flag says anything
pub marked_fault : (flags : List Bool) (n : ℕ) {x : Found (Part (List (List ℕ)))} {i p : ℕ} → x ≡ fault i p → Marked flags n x
marked_fault flags n f = rw f tt

-- a number of vertices left, said in another way
pub more_left : {n : ℕ} {es : List Edge} {k : ℕ} {s : List ℕ} {start todo : ℕ} {flags : List Bool} {at i j last edge ahead : ℕ} → i ≡ j
    → Walking n es k s start todo flags at i last edge ahead → Walking n es k s start todo flags at j last edge ahead
more_left {n} {es} {k} {s} {start} {todo} {flags} {at} {last = last} {edge} {ahead} e w =
    subst (λ (m : ℕ). Walking n es k s start todo flags at m last edge ahead) e w

module _ (k n : ℕ) (flags : List Bool) (x : Found (Part (List (List ℕ)))) where
  pub answer-good : {p : Part (List (List ℕ))} → x ≡ good p → Marks flags n p.content
      → (good (record { content = k; next = p.next }) ≡ answered k x) × Marked flags n x
  answer-good f m = (sym (ap (answered k) f), rw f m)
