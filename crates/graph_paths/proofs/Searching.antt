-- The search for an edge: the steps of its loop, and that it finds exactly the edges that are there.
-- Assumes nothing.
use Prim.Native.Nat.{ℕ, zero, suc, ◌-◌, ◌≤◌, ◌<◌}
use mathlib.Core.Path.{◌≡◌, refl, sym, ap, ap₂, ◌∙◌}
use mathlib.Core.Logic.{inl, inr}
use mathlib.Core.List.{List, [], ◌∷◌, ◌++◌}
use mathlib.Core.Bool.{Bool, true, false, ◌&&◌, ◌||◌, or-false}
use native.Mathlib.Omega.{arith}
use native.Mathlib.Numerals.{sub-one}
use native.Mathlib.Decide.{ℕ_discrete}
use lib.Dec.{ltb, eqb}
use borrow.Author.Tests.{ltb-true, ltb-false, eqb-true, eq-eqb, ne_eqb}
use Rattle.wire.specs.Cases.{pick}
use Rattle.wire.specs.Found.{good, Part, fault, Found}
use Rattle.wire.specs.Numbers.{number_at}
use Rattle.graph.specs.Content.{Edge}
use Rattle.graph.specs.Good.{All, EdgeBelow}
use Rattle.graph.specs.Rules.{edge_below, is_edge}
use Rattle.graph.specs.Reading.{edges_from}
use Rattle.graph_paths.specs.Steps.{same_edge, read_or, search_at}
use Rattle.graph_paths.specs.declared.search.Search.{Search}
use Rattle.graph.proofs.Kept.{both, either, edge_kept}
use Rattle.graph.proofs.Steps.{EdgeStep, edges_step, edges_none}

-- one answer or the other
test : {X : Type 0} (b : Bool) → (b ≡ true → X) → (b ≡ false → X) → X
test true f g = f refl
test false f g = g refl

-- ---- the steps of the loop

-- where the search ends without the edge
abbrev not-here : ℕ → ℕ → Search
not-here at left = record { found = false; at = at; left = left }

-- what follows an edge's two numbers; `all` edges are left with it, and `left` after it
abbrev look_on : ℕ → ℕ → List ℕ → ℕ → ℕ → ℕ → ℕ → ℕ → ℕ → Search
look_on all left s at u v x y b =
    pick (edge_below (record { from = x; to = y }) (record { from = u; to = v }))
    (search_at left s b u v)
    (record { found = same_edge (record { from = x; to = y }) u v; at = at; left = all })

pub search_done : (left : ℕ) (s : List ℕ) (at u v : ℕ) → left ≤ 0 → search_at left s at u v ≡ not-here at left
unfolding search_at
search_done left s at u v h = let e : left ≡ 0 = omega arith in rw e

search_suc : (left : ℕ) (s : List ℕ) (at u v : ℕ) → 0 < left
    → search_at left s at u v
    ≡ read_or (not-here at left) (number_at s at) (λ x a. read_or (not-here at left) (number_at s a) (look_on left (left - 1) s at u v x))
unfolding search_at
search_suc zero s at u v h = absurd (omega arith)
search_suc (suc left) s at u v h =
    ap (λ (k : ℕ). read_or (not-here at (suc left)) (number_at s at) (λ x a. read_or (not-here at (suc left)) (number_at s a) (look_on (suc left) k s at u v x)))
    (sym (sub-one (suc left)))

module _ (left : ℕ) (s : List ℕ) (at u v : ℕ) (h : 0 < left) where
  pub search_stop : {k p : ℕ} → number_at s at ≡ fault k p → search_at left s at u v ≡ not-here at left
  search_stop e =
      search_suc left s at u v h
      ∙ ap (λ (r : Found (Part ℕ)). read_or (not-here at left) r (λ x a. read_or (not-here at left) (number_at s a) (look_on left (left - 1) s at u v x))) e

  module _ {x : ℕ} {a : ℕ} (e : number_at s at ≡ good (record { content = x; next = a })) where
    from_first : search_at left s at u v ≡ read_or (not-here at left) (number_at s a) (look_on left (left - 1) s at u v x)
    from_first =
        search_suc left s at u v h
        ∙ ap (λ (r : Found (Part ℕ)). read_or (not-here at left) r (λ x a. read_or (not-here at left) (number_at s a) (look_on left (left - 1) s at u v x))) e

    pub search_stop_second : {k p : ℕ} → number_at s a ≡ fault k p → search_at left s at u v ≡ not-here at left
    search_stop_second f = from_first ∙ ap (λ (r : Found (Part ℕ)). read_or (not-here at left) r (look_on left (left - 1) s at u v x)) f

    module _ {y : ℕ} {b : ℕ} (f : number_at s a ≡ good (record { content = y; next = b })) where
      from-edge : search_at left s at u v ≡ look_on left (left - 1) s at u v x y b
      from-edge = from_first ∙ ap (λ (r : Found (Part ℕ)). read_or (not-here at left) r (look_on left (left - 1) s at u v x)) f

      pub search_end : edge_below (record { from = x; to = y }) (record { from = u; to = v }) ≡ false
          → search_at left s at u v ≡ record { found = same_edge (record { from = x; to = y }) u v; at = at; left = left }
      search_end g =
          from-edge
          ∙ ap
          (λ (t : Bool). pick t (search_at (left - 1) s b u v) (record { found = same_edge (record { from = x; to = y }) u v; at = at; left = left }))
          g

      pub search_next : edge_below (record { from = x; to = y }) (record { from = u; to = v }) ≡ true
          → search_at left s at u v ≡ search_at (left - 1) s b u v
      search_next g =
          from-edge
          ∙ ap
          (λ (t : Bool). pick t (search_at (left - 1) s b u v) (record { found = same_edge (record { from = x; to = y }) u v; at = at; left = left }))
          g

-- ---- what the search finds

or_no : (a b : Bool) → ◌||◌ a b ≡ false → (a ≡ false) × (b ≡ false)
or_no true b e = let z : ◌≡◌ {A = ℕ} 0 1 = cc in absurd (omega arith)
or_no false b e = (refl, e)

below_no : (d e : Edge) → edge_below d e ≡ false → (e.from ≤ d.from) × (d.from ≡ e.from → e.to ≤ d.to)
below_no d e h =
    let t = or_no (ltb d.from e.from) (◌&&◌ (eqb d.from e.from) (ltb d.to e.to)) h in
    (ltb-false d.from e.from t.0, λ q. ltb-false d.to e.to (simp (eq-eqb d.from e.from q) at t.1))

below_yes : (d e : Edge) → edge_below d e ≡ true → (d.from ≤ e.from) × (d.from ≡ e.from → d.to < e.to)
below_yes d e h =
    elim (either (ltb d.from e.from) (◌&&◌ (eqb d.from e.from) (ltb d.to e.to)) h) [
      | inl k ↦ let l = ltb-true d.from e.from k in (omega arith, λ q. absurd (omega arith))
      | inr k ↦
          let t = both (eqb d.from e.from) (ltb d.to e.to) k in
          let l = eqb-true d.from e.from t.0 in
          (omega arith, λ q. ltb-true d.to e.to t.1)
    ]

-- an edge is not u to v if its vertices cannot both be
pub differs : (e : Edge) (u v : ℕ) → (e.from ≡ u → e.to ≡ v → ⊥) → same_edge e u v ≡ false
differs e u v n =
    elim (ℕ_discrete e.from u) [
      | yes p ↦ simp (eq-eqb e.from u p) (ne_eqb e.to v (n p))
      | no p ↦ simp (ne_eqb e.from u p)
    ]

below-trans : (a b c : Edge) → EdgeBelow a b → EdgeBelow b c → EdgeBelow a c
below-trans a b c (inl h) (inl k) = inl (omega arith)
below-trans a b c (inl h) (inr k) = inl (omega arith)
below-trans a b c (inr h) (inl k) = inl (omega arith)
below-trans a b c (inr h) (inr k) = inr (omega arith, omega arith)

above_more : (a b : Edge) (es : List Edge) → EdgeBelow a b → All (EdgeBelow b) es → All (EdgeBelow a) es
unfolding All
above_more a b [] h k = tt
above_more a b (e ∷ es) h k = (below-trans a b e h k.0, above_more a b es h k.1)

-- the edges that are read are all above the one before them
edges-above : (n left : ℕ) (last : Edge) (s : List ℕ) (at : ℕ) (r : Part (List Edge)) → edges_from n left last s at ≡ good r
    → All (EdgeBelow last) r.content
unfolding All
edges-above n zero last s at r e = rw (edges_none n last s at r e) tt
edges-above n (suc left) last s at r e =
    let t = edges_step n left last s at r e in
    let d : Edge = record { from = t.u; to = t.v } in
    let k = (edge_kept n last d t.kept).2 in
    rw t.content (k, above_more last d t.rest.content k (edges-above n left d s t.b t.rest t.rest_is))

-- edges that are all above an edge: what is not above it is not among them
above-not : (last : Edge) (es : List Edge) (u v : ℕ) → All (EdgeBelow last) es → edge_below last (record { from = u; to = v }) ≡ false
    → is_edge es u v ≡ false
unfolding All is_edge
above-not last [] u v h b = refl
above-not last (e ∷ es) u v h b =
    let t = below_no last (record { from = u; to = v }) b in
    ap₂ ◌||◌
    (differs e u v (λ p q. elim h.0 [ inl k ↦ omega arith | inr k ↦ omega (arith, t.1 (k.0 ∙ p)) ]))
    (above-not last es u v h.1 b)

-- The search for u to v along the edges `rest`, which end at `next`: it says whether u to v is among them, and the edges that it passed
-- begin at no vertex above u.
pub record Searched (n : ℕ) (s : List ℕ) (rest : List Edge) (next u v : ℕ) (r : Search) : Type 0 where
  pub found : r.found ≡ is_edge rest u v
  pub passed : List Edge
  pub ahead : List Edge
  pub whole : rest ≡ passed ++ ahead
  pub low : All (λ e. e.from ≤ u) passed
  pub before : Edge
  pub reads : edges_from n r.left before s r.at ≡ good (record { content = ahead; next = next })

searched_none : (n : ℕ) (last : Edge) (s : List ℕ) (at : ℕ) (p : Part (List Edge)) (u v : ℕ) → edges_from n 0 last s at ≡ good p
    → Searched n s p.content p.next u v (search_at 0 s at u v)
unfolding All is_edge search_at edges_from
searched_none n last s at p u v e =
    rw (edges_none n last s at p e)
    (record { found = refl; passed = []; ahead = []; whole = refl; low = tt; before = last; reads = refl })

-- the search ends at the first edge
searched_end : (n left : ℕ) (last : Edge) (s : List ℕ) (at : ℕ) (p : Part (List Edge)) (u v : ℕ) (e : edges_from n (suc left) last s at ≡ good p)
    (t : EdgeStep n left last s at p) → edge_below (record { from = t.u; to = t.v }) (record { from = u; to = v }) ≡ false
    → Searched n s p.content p.next u v (search_at (suc left) s at u v)
unfolding All is_edge
searched_end n left last s at p u v e t g =
    let d : Edge = record { from = t.u; to = t.v } in
    let w = above-not d t.rest.content u v (edges-above n left d s t.b t.rest t.rest_is) g in
    rw (search_end (suc left) s at u v (omega arith) t.u_is t.v_is g)
    (record {
      found = sym (ap (λ (es : List Edge). is_edge es u v) t.content ∙ ap (λ (b : Bool). ◌||◌ (same_edge d u v) b) w ∙ or-false (same_edge d u v));
      passed = [];
      ahead = p.content;
      whole = refl;
      low = tt;
      before = last;
      reads = e;
    })

-- the search passes the first edge
searched_next : (n left : ℕ) (last : Edge) (s : List ℕ) (at : ℕ) (p : Part (List Edge)) (u v : ℕ) (t : EdgeStep n left last s at p)
    → edge_below (record { from = t.u; to = t.v }) (record { from = u; to = v }) ≡ true
    → Searched n s t.rest.content t.rest.next u v (search_at left s t.b u v)
    → Searched n s p.content p.next u v (search_at (suc left) s at u v)
unfolding All is_edge
searched_next n left last s at p u v t g i =
    let d : Edge = record { from = t.u; to = t.v } in
    let k = below_yes d (record { from = u; to = v }) g in
    let no : same_edge d u v ≡ false = differs d u v (λ a b. omega (arith, k.1 a)) in
    rw (search_next (suc left) s at u v (omega arith) t.u_is t.v_is g ∙ ap (λ (j : ℕ). search_at j s t.b u v) (sub-one (suc left)))
    (record {
      found = i.found ∙ sym (ap (λ (es : List Edge). is_edge es u v) t.content ∙ ap (λ (b : Bool). ◌||◌ b (is_edge t.rest.content u v)) no);
      passed = d ∷ i.passed;
      ahead = i.ahead;
      whole = t.content ∙ ap (λ (es : List Edge). d ∷ es) i.whole;
      low = (k.0, i.low);
      before = i.before;
      reads = i.reads ∙ ap (λ (j : ℕ). good (record { content = i.ahead; next = j })) (sym t.next);
    })

pub searched : (n left : ℕ) (last : Edge) (s : List ℕ) (at : ℕ) (p : Part (List Edge)) (u v : ℕ) → edges_from n left last s at ≡ good p
    → Searched n s p.content p.next u v (search_at left s at u v)
searched n zero last s at p u v e = searched_none n last s at p u v e
searched n (suc left) last s at p u v e =
    let t = edges_step n left last s at p e in
    test (edge_below (record { from = t.u; to = t.v }) (record { from = u; to = v }))
    (λ g. searched_next n left last s at p u v t g
    (searched n left (record { from = t.u; to = t.v }) s t.b t.rest u v t.rest_is))
    (λ g. searched_end n left last s at p u v e t g)
