-- A path's vertex: the parts of its rule, and that a search goes on along the edges from where the one before it ended.
-- Assumes nothing.
use Prim.Native.Nat.{ℕ, ◌≤◌, ◌<◌}
use mathlib.Core.Path.{◌≡◌, refl, sym, ap, ◌∙◌}
use mathlib.Core.List.{List, [], ◌∷◌, ◌++◌, append_assoc}
use mathlib.Core.Bool.{Bool, true, false, ◌&&◌, ◌||◌, or_assoc}
use native.Mathlib.Omega.{arith}
use native.Mathlib.Decide.{ℕ_discrete}
use lib.Dec.{ltb, leb, eqb}
use borrow.Author.Tests.{ltb-true, leb-true, eq-eqb, ne_eqb}
use Rattle.wire.specs.Cases.{pick}
use Rattle.wire.specs.Found.{Found, good, fault, Part}
use Rattle.wire.specs.Refusals.{no_vertex, not_rising, not_edge}
use Rattle.graph.specs.Content.{Edge}
use Rattle.graph.specs.Good.{All}
use Rattle.graph.specs.Rules.{is_vertex, is_edge, is_step, vertex_fault, no_edge}
use Rattle.graph.specs.Reading.{edges_from}
use Rattle.graph_paths.specs.PathAnswers.{IsGood, HasEdges, entries, edges_in}
use Rattle.graph_paths.specs.Steps.{step_at}
use Rattle.graph_rules.specs.Rise.{rise_fault}
use Rattle.graph_paths.specs.declared.search.Search.{Search}
use Rattle.graph.proofs.Kept.{both, passed, passed_on}
use Rattle.graph_paths.proofs.Searching.{searched, differs}

-- ---- the parts of the rule

in_parts : (a b c : Bool)
    → pick a (pick b (pick c 0 not_edge) not_rising) no_vertex
    ≡ pick (eqb (pick a (pick b 0 not_rising) no_vertex) 0) (pick c 0 not_edge) (pick a (pick b 0 not_rising) no_vertex)
in_parts true true c = refl
in_parts true false c = refl
in_parts false b c = refl

-- "A path's vertex: 6, 7, 8.": first 6 and 7, then 8
pub vertex_parts : (n : ℕ) (es : List Edge) (last v : ℕ)
    → vertex_fault n es last v ≡ pick (eqb (rise_fault n last v) 0) (pick (is_step es last v) 0 not_edge) (rise_fault n last v)
unfolding vertex_fault
vertex_parts n es last v = in_parts (is_vertex n v) (ltb last v) (is_step es last v)

pub vertex_bad : (n : ℕ) (es : List Edge) (last v : ℕ) → (rise_fault n last v ≡ 0 → ⊥) → vertex_fault n es last v ≡ rise_fault n last v
vertex_bad n es last v h =
    vertex_parts n es last v
    ∙ ap (λ (b : Bool). pick b (pick (is_step es last v) 0 not_edge) (rise_fault n last v)) (ne_eqb (rise_fault n last v) 0 h)

pub vertex-step : (n : ℕ) (es : List Edge) (last v : ℕ) → rise_fault n last v ≡ 0 → vertex_fault n es last v ≡ pick (is_step es last v) 0 not_edge
vertex-step n es last v h =
    vertex_parts n es last v
    ∙ ap (λ (b : Bool). pick b (pick (is_step es last v) 0 not_edge) (rise_fault n last v)) (eq-eqb (rise_fault n last v) 0 h)

pub rise_kept : (n last v : ℕ) → rise_fault n last v ≡ 0 → (1 ≤ v) × (v ≤ n) × (last < v)
rise_kept n last v h =
    let t = passed_on (is_vertex n v) (pick (ltb last v) 0 not_rising) no_vertex (omega arith) h in
    let w = both (leb 1 v) (leb v n) t.0 in
    (leb-true 1 v w.0, leb-true v n w.1, ltb-true last v (passed (ltb last v) not_rising (omega arith) t.1))

-- ---- along the edges

-- The edges from a place on, `left` of them, are those of es that a path at the vertex `last` may step along: those passed begin below it.
pub record Ahead (n : ℕ) (s : List ℕ) (es : List Edge) (last at left : ℕ) : Type 0 where
  pub gone : List Edge
  pub rest : List Edge
  pub whole : es ≡ gone ++ rest
  pub low : All (λ e. e.from < last) gone
  pub before : Edge
  pub next : ℕ
  pub reads : edges_from n left before s at ≡ good (record { content = rest; next = next })

-- a path begins
pub ahead-start : (n m : ℕ) (s : List ℕ) (at : ℕ) → HasEdges n m s at → Ahead n s (edges_in n m s at) 0 at m
unfolding All
ahead-start n m s at h = go (edges_from n m no_edge s at) refl h
  where
    go : (x : Found (Part (List Edge))) → edges_from n m no_edge s at ≡ x → IsGood x → Ahead n s (entries x) 0 at m
    go (good p) e g = record { gone = []; rest = p.content; whole = refl; low = tt; before = no_edge; next = p.next; reads = e }
    go (fault k p) e g = absurd g

all_map : {P Q : Edge → Type 0} (es : List Edge) → ((e : Edge) → P e → Q e) → All P es → All Q es
unfolding All
all_map [] f h = tt
all_map (e ∷ es) f h = (f e h.0, all_map es f h.1)

all_append : (P : Edge → Type 0) (ds es : List Edge) → All P ds → All P es → All P (ds ++ es)
unfolding All
all_append P [] es h k = k
all_append P (d ∷ ds) es h k = (h.0, all_append P ds es h.1 k)

edge_append : (ds es : List Edge) (u v : ℕ) → is_edge (ds ++ es) u v ≡ ◌||◌ (is_edge ds u v) (is_edge es u v)
unfolding is_edge
edge_append [] es u v = refl
edge_append (d ∷ ds) es u v =
    ap (λ (b : Bool). ◌||◌ (◌&&◌ (eqb d.from u) (eqb d.to v)) b) (edge_append ds es u v)
    ∙ sym (or_assoc (◌&&◌ (eqb d.from u) (eqb d.to v)) (is_edge ds u v) (is_edge es u v))

-- what begins below u does not begin at u
low-not : (es : List Edge) (u v : ℕ) → All (λ e. e.from < u) es → is_edge es u v ≡ false
unfolding All is_edge
low-not [] u v h = refl
low-not (e ∷ es) u v h =
    ap (λ (b : Bool). ◌||◌ b (is_edge es u v)) (differs e u v (λ p q. omega (arith, h.0))) ∙ low-not es u v h.1

-- a step to v was looked for: the answer, and where the next step is looked for
pub record Stepped (n : ℕ) (s : List ℕ) (es : List Edge) (last v : ℕ) (r : Search) : Type 0 where
  pub found : r.found ≡ is_step es last v
  pub ahead : Ahead n s es v r.at r.left

stepped_first : (n : ℕ) (s : List ℕ) (es : List Edge) (last at left v : ℕ) → last ≡ 0 → last < v → Ahead n s es last at left
    → Stepped n s es last v (step_at left s at last v)
unfolding step_at is_step
stepped_first n s es last at left v z h a =
    rw (eq-eqb last 0 z)
    (record {
      found = sym (ap (λ (b : Bool). ◌||◌ b (is_edge es last v)) (eq-eqb last 0 z));
      ahead = record {
        gone = a.gone;
        rest = a.rest;
        whole = a.whole;
        low = all_map a.gone (λ e k. omega arith) a.low;
        before = a.before;
        next = a.next;
        reads = a.reads;
      };
    })

stepped_on : (n : ℕ) (s : List ℕ) (es : List Edge) (last at left v : ℕ) → (last ≡ 0 → ⊥) → last < v → Ahead n s es last at left
    → Stepped n s es last v (step_at left s at last v)
unfolding step_at is_step
stepped_on n s es last at left v z h a =
    let t = searched n left a.before s at (record { content = a.rest; next = a.next }) last v a.reads in
    rw (ne_eqb last 0 z)
    (record {
      found = t.found
          ∙ sym (ap (λ (b : Bool). ◌||◌ b (is_edge es last v)) (ne_eqb last 0 z)
          ∙ ap (λ (ds : List Edge). is_edge ds last v) a.whole
          ∙ edge_append a.gone a.rest last v
          ∙ ap (λ (b : Bool). ◌||◌ b (is_edge a.rest last v)) (low-not a.gone last v a.low));
      ahead = record {
        gone = a.gone ++ t.passed;
        rest = t.ahead;
        whole = a.whole ∙ ap (λ (ds : List Edge). a.gone ++ ds) t.whole ∙ sym (append_assoc a.gone t.passed t.ahead);
        low = all_append (λ e. e.from < v) a.gone t.passed (all_map a.gone (λ e k. omega arith) a.low) (all_map t.passed (λ e k. omega arith) t.low);
        before = t.before;
        next = a.next;
        reads = t.reads;
      };
    })

pub stepped : (n : ℕ) (s : List ℕ) (es : List Edge) (last at left v : ℕ) → last < v → Ahead n s es last at left
    → Stepped n s es last v (step_at left s at last v)
stepped n s es last at left v h a =
    elim (ℕ_discrete last 0) [ yes z ↦ stepped_first n s es last at left v z h a | no z ↦ stepped_on n s es last at left v z h a ]
