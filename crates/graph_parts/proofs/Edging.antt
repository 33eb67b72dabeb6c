-- The edges, one by one: the steps of the loop that checks them.
-- Assumes nothing.
use Prim.Native.Nat.{ℕ, zero, suc, ◌-◌, ◌≤◌, ◌<◌}
use mathlib.Core.Path.{◌≡◌, sym, ap, ◌∙◌}
use mathlib.Core.List.{List, [], ◌∷◌}
use native.Mathlib.Omega.{arith}
use native.Mathlib.Numerals.{sub-one}
use Rattle.wire.specs.Found.{Found, good, fault, Part, and_then, refuse}
use Rattle.wire.specs.Numbers.{number, number_at}
use Rattle.graph.specs.Content.{Edge}
use Rattle.graph.specs.Rules.{edge_fault}
use Rattle.graph.specs.Reading.{edges_from}
use Rattle.graph_parts.specs.Answers.{answered}
use Rattle.graph_parts.proofs.Passing.{refuse-none, refuse-some, number_read, number-stop, answered-more}

-- what follows an edge's two numbers
abbrev edge_on : ℕ → ℕ → Edge → List ℕ → ℕ → ℕ → ℕ → ℕ → Found (Part (List Edge))
edge_on n left last s at u v b =
    refuse (edge_fault n last (record { from = u; to = v })) at
    (and_then (edges_from n left (record { from = u; to = v }) s b) (λ r.
    good (record { content = record { from = u; to = v } ∷ r.content; next = r.next })))

pub edges-done : (n left : ℕ) (last : Edge) (s : List ℕ) (at : ℕ) → left ≤ 0 → edges_from n left last s at ≡ good (record { content = []; next = at })
unfolding edges_from
edges-done n left last s at h = let e : left ≡ 0 = omega arith in rw e

edges-suc : (n left : ℕ) (last : Edge) (s : List ℕ) (at : ℕ) → 0 < left
    → edges_from n left last s at ≡ number s at (λ u a. number s a (edge_on n (left - 1) last s at u))
unfolding edges_from
edges-suc n zero last s at h = absurd (omega arith)
edges-suc n (suc left) last s at h = ap (λ (k : ℕ). number s at (λ u a. number s a (edge_on n k last s at u))) (sym (sub-one (suc left)))

module _ (n left : ℕ) (last : Edge) (s : List ℕ) (at : ℕ) (h : 0 < left) where
  pub edges-stop : {k p : ℕ} → number_at s at ≡ fault k p → edges_from n left last s at ≡ fault k p
  edges-stop e = edges-suc n left last s at h ∙ number-stop s at _ e

  module _ {u : ℕ} {a : ℕ} (e : number_at s at ≡ good (record { content = u; next = a })) where
    from_first : edges_from n left last s at ≡ number s a (edge_on n (left - 1) last s at u)
    from_first = edges-suc n left last s at h ∙ number_read s at _ e

    pub edges-stop_second : {k p : ℕ} → number_at s a ≡ fault k p → edges_from n left last s at ≡ fault k p
    edges-stop_second f = from_first ∙ number-stop s a _ f

    module _ {v : ℕ} {b : ℕ} (f : number_at s a ≡ good (record { content = v; next = b })) where
      from-edge : edges_from n left last s at ≡ edge_on n (left - 1) last s at u v b
      from-edge = from_first ∙ number_read s a (edge_on n (left - 1) last s at u) f

      pub edges_bad : (edge_fault n last (record { from = u; to = v }) ≡ 0 → ⊥)
          → edges_from n left last s at ≡ fault (edge_fault n last (record { from = u; to = v })) at
      edges_bad g = from-edge ∙ refuse-some (edge_fault n last (record { from = u; to = v })) at _ g

      pub edges-next : (x : ℕ) → edge_fault n last (record { from = u; to = v }) ≡ 0
          → answered x (edges_from n left last s at) ≡ answered x (edges_from n (left - 1) (record { from = u; to = v }) s b)
      edges-next x g =
          ap (answered x) (from-edge ∙ refuse-none (edge_fault n last (record { from = u; to = v })) at _ g)
          ∙ answered-more x (edges_from n (left - 1) (record { from = u; to = v }) s b) (λ (es : List Edge). record { from = u; to = v } ∷ es)
