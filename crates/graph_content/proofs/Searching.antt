-- Edges that rise: what is passed on the way to an edge, and where the edge would stand.
-- Assumes nothing.
use Prim.Native.Nat.{ℕ, zero, suc, ◌+◌, ◌-◌, ◌≤◌, ◌<◌}
use mathlib.Core.Path.{◌≡◌, refl, sym, ◌∙◌}
use mathlib.Core.Logic.{◌⊎◌, inl, inr, ⊎_elim}
use mathlib.Core.List.{List}
use mathlib.Core.Bool.{Bool, true, false, ◌&&◌, and-false}
use native.Mathlib.Omega.{arith}
use native.Mathlib.Decide.{ℕ_discrete, dec_le}
use lib.Dec.{eqb}
use borrow.Author.Tests.{lt-ltb, le-ltb, eq-eqb, ne_eqb}
use Rattle.graph.specs.Content.{Edge}
use Rattle.graph.specs.Rules.{edge_below, is_edge}
use Rattle.graph.specs.Good.{EdgeBelow}
use Rattle.graph.specs.Entries.{edge_in, edges_in}
use Rattle.graph_content.specs.Faults.{Rising}
use Rattle.graph_content.specs.Search.{Passed, edge_is}
use Rattle.graph_content.proofs.Encoded.{left-more, left-none}

false-true : false ≡ true → ⊥
false-true e = let z : ◌≡◌ {A = ℕ} 0 1 = cc in omega arith

true-false : true ≡ false → ⊥
true-false e = let z : ◌≡◌ {A = ℕ} 0 1 = cc in omega arith

-- ---- the order of edges

pub below_holds : (d e : Edge) → edge_below d e ≡ true → EdgeBelow d e
below_holds d e h =
    elim (dec_le e.from d.from) [
      | yes p ↦ elim (ℕ_discrete d.from e.from) [
        | yes q ↦ elim (dec_le e.to d.to) [
          | yes r ↦ absurd (false-true (simp (le-ltb d.from e.from p, eq-eqb d.from e.from q, le-ltb d.to e.to r) at h))
          | no r ↦ inr (q, omega arith)
        ]
        | no q ↦ absurd (false-true (simp (le-ltb d.from e.from p, ne_eqb d.from e.from q) at h))
      ]
      | no p ↦ inl (omega arith)
    ]

-- what is not below is the same or above
pub below-not : (d e : Edge) → edge_below d e ≡ false → ((d.from ≡ e.from) × (d.to ≡ e.to)) ⊎ EdgeBelow e d
below-not d e h =
    elim (dec_le e.from d.from) [
      | yes p ↦ elim (ℕ_discrete d.from e.from) [
        | yes q ↦ elim (dec_le e.to d.to) [
          | yes r ↦ elim (ℕ_discrete d.to e.to) [
            | yes s ↦ inl (q, s)
            | no s ↦ inr (inr (sym q, omega arith))
          ]
          | no r ↦ absurd (true-false (simp (le-ltb d.from e.from p, eq-eqb d.from e.from q, lt-ltb d.to e.to (omega arith)) at h))
        ]
        | no q ↦ inr (inl (omega arith))
      ]
      | no p ↦ absurd (true-false (simp (lt-ltb d.from e.from (omega arith)) at h))
    ]

below-trans : (d e f : Edge) → EdgeBelow d e → EdgeBelow e f → EdgeBelow d f
below-trans d e f h k =
    ⊎_elim
    (λ (a : d.from < e.from). ⊎_elim (λ (b : e.from < f.from). inl (omega arith)) (λ (b : (e.from ≡ f.from) × (e.to < f.to)). inl (omega arith)) k)
    (λ (a : (d.from ≡ e.from) × (d.to < e.to)).
    ⊎_elim (λ (b : e.from < f.from). inl (omega arith)) (λ (b : (e.from ≡ f.from) × (e.to < f.to)). inr (omega arith, omega arith)) k)
    h

-- the edge e is u - v
abbrev same : Edge → ℕ → ℕ → Bool
same e u v = ◌&&◌ (eqb e.from u) (eqb e.to v)

not_same : (e : Edge) (u v : ℕ) → (e.from ≡ u → e.to ≡ v → ⊥) → same e u v ≡ false
not_same e u v n =
    elim (ℕ_discrete e.from u) [
      | yes p ↦ elim (ℕ_discrete e.to v) [
        | yes q ↦ absurd (n p q)
        | no q ↦ simp (ne_eqb e.to v q, and-false)
      ]
      | no p ↦ simp (ne_eqb e.from u p)
    ]

below-same : (e : Edge) (u v : ℕ) → EdgeBelow e (record { from = u; to = v }) → same e u v ≡ false
below-same e u v h =
    not_same e u v (λ p q. ⊎_elim (λ (a : e.from < u). omega arith) (λ (a : (e.from ≡ u) × (e.to < v)). omega arith) h)

above_same : (e : Edge) (u v : ℕ) → EdgeBelow (record { from = u; to = v }) e → same e u v ≡ false
above_same e u v h =
    not_same e u v (λ p q. ⊎_elim (λ (a : u < e.from). omega arith) (λ (a : (u ≡ e.from) × (v < e.to)). omega arith) h)

below-from : (e : Edge) (u v : ℕ) → EdgeBelow e (record { from = u; to = v }) → e.from ≤ u
below-from e u v h = ⊎_elim (λ (a : e.from < u). omega arith) (λ (a : (e.from ≡ u) × (e.to < v)). omega arith) h

-- ---- passing edges

module _ (m : ℕ) (edges : List ℕ) where
  one_less : (i u v : ℕ) → i < m → same (edge_in edges i) u v ≡ false
      → is_edge (edges_in (m - i) i edges) u v ≡ is_edge (edges_in (m - (i + 1)) (i + 1) edges) u v
  unfolding is_edge edges_in
  one_less i u v h n = simp (left-more m i h, n)

  pub passed_none : (start from to : ℕ) → start ≤ m → Passed m edges start from to start
  passed_none start from to h = record { upto = h; step = refl; later = λ u v k. refl }

  pub passed_more : (start from to i : ℕ) → i < m → edge_below (edge_in edges i) (record { from = from; to = to }) ≡ true
      → Passed m edges start from to i → Passed m edges start from to (i + 1)
  passed_more start from to i h e p =
      let b = below_holds (edge_in edges i) (record { from = from; to = to }) e in record {
        upto = omega arith;
        step = p.step ∙ one_less i from to h (below-same (edge_in edges i) from to b);
        later = λ u v k. p.later u v k ∙ one_less i u v h (not_same (edge_in edges i) u v (λ q r. omega (arith, below-from (edge_in edges i) from to b)));
      }

  -- edges that rise from one above u - v on do not hold it
  none_above : (left i u v : ℕ) → i + left ≤ m → Rising m edges → EdgeBelow (record { from = u; to = v }) (edge_in edges i) → is_edge (edges_in left i edges) u v ≡ false
  unfolding is_edge edges_in
  none_above zero i u v h r a = refl
  none_above (suc zero) i u v h r a = simp (above_same (edge_in edges i) u v a)
  none_above (suc (suc left)) i u v h r a =
      let b = below-trans (record { from = u; to = v }) (edge_in edges i) (edge_in edges (i + 1)) a
      (below_holds (edge_in edges i) (edge_in edges (i + 1)) (r i (omega arith))) in
      simp (above_same (edge_in edges i) u v a) (none_above (suc left) (i + 1) u v (omega arith) r b)

  -- at the first place whose edge is not below u - v, it stands or is nowhere
  pub found-there : (i u v : ℕ) → i ≤ m → Rising m edges → (i < m → edge_below (edge_in edges i) (record { from = u; to = v }) ≡ false)
      → is_edge (edges_in (m - i) i edges) u v ≡ edge_is m edges i u v
  unfolding is_edge edges_in
  found-there i u v h r n =
      elim (dec_le m i) [
        | yes p ↦ simp (left-none m i p, le-ltb i m p)
        | no p ↦
            let k : i < m = omega arith in
            ⊎_elim
            (λ (q : ((edge_in edges i).from ≡ u) × ((edge_in edges i).to ≡ v)).
            simp (left-more m i k, lt-ltb i m k, eq-eqb (edge_in edges i).from u q.0, eq-eqb (edge_in edges i).to v q.1))
            (λ (q : EdgeBelow (record { from = u; to = v }) (edge_in edges i)).
            none_above (m - i) i u v (omega arith) r q ∙ sym (simp (lt-ltb i m k, above_same (edge_in edges i) u v q)))
            (below-not (edge_in edges i) (record { from = u; to = v }) (n k))
      ]

-- ---- the test at a place

module _ (m : ℕ) (edges : List ℕ) (i from to : ℕ) where
  pub is-from : i < m → (edge_in edges i).from ≡ from → edge_is m edges i from to ≡ eqb (edge_in edges i).to to
  is-from h e = simp (lt-ltb i m h, eq-eqb (edge_in edges i).from from e)

  pub is_other : i < m → ((edge_in edges i).from ≡ from → ⊥) → edge_is m edges i from to ≡ false
  is_other h n = simp (lt-ltb i m h, ne_eqb (edge_in edges i).from from n)

  pub is_none : m ≤ i → edge_is m edges i from to ≡ false
  is_none h = simp (le-ltb i m h)
