-- The first fault of content, step by step, and what it says that there is none.
-- Assumes nothing.
use Prim.Native.Nat.{ℕ, suc, ◌+◌, ◌-◌, ◌*◌, ◌≤◌, ◌<◌}
use mathlib.Core.Path.{◌≡◌, refl, sym, ◌∙◌}
use mathlib.Core.List.{List}
use mathlib.Core.Bool.{Bool, true, false, ◌&&◌}
use native.Mathlib.Omega.{arith}
use native.Mathlib.Decide.{ℕ_discrete, dec_le}
use lib.ListN.{get_or}
use lib.Dec.{leb, ltb}
use borrow.Author.Tests.{eq-eqb, ne_eqb, le-leb, lt-leb, le-ltb}
use Rattle.wire.specs.Found.{first}
use Rattle.wire.specs.Cases.{pick}
use Rattle.wire.specs.Refusals.{out_of_range, no_vertex, not_rising, not_edge, code}
use Rattle.wire.specs.declared.refusals.Refusal.{Refusal}
use Rattle.wire.specs.declared.refusals.Refusal.TheVariants.{
  BytesEnd,
  BadNumber,
  WrongKind,
  OutOfRange,
  NotLetter,
  NoVertex,
  NotRising,
  NotEdge,
  OnNoPath,
  LeftOver,
  Outside,
  LettersDiffer,
  SmallBuffer,
  ShortOutput,
}
use Rattle.wire.specs.Sizes.{path_room}
use Rattle.graph.specs.Content.{Edge}
use Rattle.graph.specs.Rules.{length_fault, letter_fault, edge_fault, path_length_fault, is_vertex, is_edge, is_step, vertex_fault}
use Rattle.graph_rules.specs.Rise.{rise_fault}
use Rattle.graph.specs.Entries.{edge_in}
use Rattle.graph_content.specs.Faults.{letters_fault, labels_fault, edges_fault, vertices_fault, paths_fault}
use Rattle.graph_content.proofs.Encoded.{left-more, left-none}

-- ---- one fault before another

-- f is the fault, and there is one
pub first_bad : (f a b : ℕ) → f ≡ a → (f ≡ 0 → ⊥) → first a b ≡ f
first_bad f a b e n = simp (ne_eqb a 0 (λ z. n (e ∙ z))) (sym e)

-- f is the fault, and there is none
pub first-none : (f a b : ℕ) → f ≡ a → f ≡ 0 → first a b ≡ b
first-none f a b e z = simp (eq-eqb a 0 (sym e ∙ z))

-- a refusal is a fault
pub code-some : (r : Refusal) → code r ≡ 0 → ⊥
code-some BytesEnd e = omega arith
code-some BadNumber e = omega arith
code-some WrongKind e = omega arith
code-some OutOfRange e = omega arith
code-some NotLetter e = omega arith
code-some NoVertex e = omega arith
code-some NotRising e = omega arith
code-some NotEdge e = omega arith
code-some OnNoPath e = omega arith
code-some LeftOver e = omega arith
code-some Outside e = omega arith
code-some LettersDiffer e = omega arith
code-some SmallBuffer e = omega arith
code-some ShortOutput e = omega arith

-- code's refusal r is the fault; code's acceptance says that there is none
pub refused : (r : Refusal) (a b : ℕ) → code r ≡ a → first a b ≡ code r
refused r a b e = first_bad (code r) a b e (code-some r)

pub taken : (a b : ℕ) → 0 ≡ a → first a b ≡ b
taken a b e = first-none 0 a b e refl

pub first-zero : (a b : ℕ) → first a b ≡ 0 → (a ≡ 0) × (b ≡ 0)
first-zero a b h =
    elim (ℕ_discrete a 0) [
      | yes e ↦ (e, sym (first-none a a b refl e) ∙ h)
      | no n ↦ absurd (n (sym (first_bad a a b refl n) ∙ h))
    ]

-- two bounds that are not broken hold
pub within : (a b c d : ℕ) → pick (◌&&◌ (leb a b) (leb c d)) 0 out_of_range ≡ 0 → (a ≤ b) × (c ≤ d)
within a b c d h =
    elim (dec_le a b) [
      | yes p ↦ elim (dec_le c d) [
        | yes q ↦ (p, q)
        | no q ↦ absurd (four (simp (le-leb a b p, lt-leb c d (omega arith)) at h))
      ]
      | no p ↦ absurd (four (simp (lt-leb a b (omega arith)) at h))
    ]
  where
    four : out_of_range ≡ 0 → ⊥
    four e = omega arith

-- ---- the sections

module _ (letters : List ℕ) (end at : ℕ) where
  pub letters-step : at < end
      → letters_fault (end - at) letters at ≡ first (letter_fault (get_or letters at 0)) (letters_fault (end - (at + 1)) letters (at + 1))
  unfolding letters_fault
  letters-step h = simp (left-more end at h)

  pub letters_end : end ≤ at → letters_fault (end - at) letters at ≡ 0
  unfolding letters_fault
  letters_end h = simp (left-none end at h)

module _ (letters lengths : List ℕ) (n i sum : ℕ) where
  pub labels-step : i < n
      → labels_fault (n - i) i sum letters lengths
      ≡ first (length_fault sum (get_or lengths i 0))
      (first (letters_fault (get_or lengths i 0) letters sum) (labels_fault (n - (i + 1)) (i + 1) (sum + get_or lengths i 0) letters lengths))
  unfolding labels_fault
  labels-step h = simp (left-more n i h)

  pub labels-over : n ≤ i → labels_fault (n - i) i sum letters lengths ≡ 0
  unfolding labels_fault
  labels-over h = simp (left-none n i h)

  -- a label without fault lies within the letters
  pub labels-good : i < n → labels_fault (n - i) i sum letters lengths ≡ 0
      → (sum + get_or lengths i 0 ≤ 32768) × (labels_fault (n - (i + 1)) (i + 1) (sum + get_or lengths i 0) letters lengths ≡ 0)
  labels-good h z =
      let p = first-zero _ _ (sym (labels-step h) ∙ z) in
      let q = first-zero (letters_fault (get_or lengths i 0) letters sum) _ p.1 in
      ((within 1 (get_or lengths i 0) (sum + get_or lengths i 0) 32768 p.0).1, q.1)

module _ (n m i : ℕ) (last : Edge) (edges : List ℕ) where
  pub edges_step : i < m
      → edges_fault n (m - i) i last edges ≡ first (edge_fault n last (edge_in edges i)) (edges_fault n (m - (i + 1)) (i + 1) (edge_in edges i) edges)
  unfolding edges_fault
  edges_step h = simp (left-more m i h)

  pub edges-over : m ≤ i → edges_fault n (m - i) i last edges ≡ 0
  unfolding edges_fault
  edges-over h = simp (left-none m i h)

module _ (n : ℕ) (es : List Edge) (end at last : ℕ) (paths : List ℕ) where
  pub vertices-step : at < end
      → vertices_fault n es (end - at) at last paths
      ≡ first (vertex_fault n es last (get_or paths at 0)) (vertices_fault n es (end - (at + 1)) (at + 1) (get_or paths at 0) paths)
  unfolding vertices_fault
  vertices-step h = simp (left-more end at h)

  pub vertices-over : end ≤ at → vertices_fault n es (end - at) at last paths ≡ 0
  unfolding vertices_fault
  vertices-over h = simp (left-none end at h)

module _ (n : ℕ) (es : List Edge) (k i : ℕ) (paths counts : List ℕ) where
  pub paths-step : i < k
      → paths_fault n es (k - i) i paths counts
      ≡ first (path_length_fault n (get_or counts i 0))
      (first (vertices_fault n es (get_or counts i 0) (path_room * i) 0 paths) (paths_fault n es (k - (i + 1)) (i + 1) paths counts))
  unfolding paths_fault
  paths-step h = simp (left-more k i h)

  pub paths-over : k ≤ i → paths_fault n es (k - i) i paths counts ≡ 0
  unfolding paths_fault
  paths-over h = simp (left-none k i h)

-- ---- a path's vertex

parts : (a b s : Bool) → pick a (pick b (pick s 0 not_edge) not_rising) no_vertex ≡ first (pick a (pick b 0 not_rising) no_vertex) (pick s 0 not_edge)
parts true true s = refl
parts true false s = refl
parts false b s = refl

-- its fault is that of the vertex alone, or that of the step to it
pub vertex_parts : (n : ℕ) (es : List Edge) (last v : ℕ) → vertex_fault n es last v ≡ first (rise_fault n last v) (pick (is_step es last v) 0 not_edge)
unfolding vertex_fault
vertex_parts n es last v = parts (is_vertex n v) (ltb last v) (is_step es last v)

-- a first vertex has no step to it
pub step-first : (es : List Edge) (v : ℕ) → is_step es 0 v ≡ true
unfolding is_step
step-first es v = refl

pub step-next : (es : List Edge) (last v : ℕ) → 1 ≤ last → is_step es last v ≡ is_edge es last v
unfolding is_step
step-next es last v h = simp (ne_eqb last 0 (λ z. omega arith))

-- a vertex without fault is one of n, above the one before it
pub rise-good : (n last v : ℕ) → rise_fault n last v ≡ 0 → (1 ≤ v) × (v ≤ n) × (last < v)
rise-good n last v h =
    elim (dec_le 1 v) [
      | yes p ↦ elim (dec_le v n) [
        | yes q ↦ elim (dec_le v last) [
          | yes r ↦ absurd (nonzero 6 (simp (le-leb 1 v p, le-leb v n q, le-ltb last v r) at h))
          | no r ↦ (p, q, omega arith)
        ]
        | no q ↦ absurd (nonzero 5 (simp (le-leb 1 v p, lt-leb v n (omega arith)) at h))
      ]
      | no p ↦ absurd (nonzero 5 (simp (lt-leb 1 v (omega arith)) at h))
    ]
  where
    nonzero : (k : ℕ) → suc k ≡ 0 → ⊥
    nonzero k e = omega arith
