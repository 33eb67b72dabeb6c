-- The rules: which give no refusal number, in terms of numbers and of membership. A rule that gives 0 is kept, and one that is kept gives 0.
-- Assumes nothing.
use Prim.Native.Nat.{ℕ, zero, suc, ◌+◌, ◌^◌, ◌≤◌, ◌<◌}
use mathlib.Core.Path.{◌≡◌, refl, sym, ap, ◌∙◌, subst}
use mathlib.Core.Logic.{◌⊎◌, inl, inr}
use mathlib.Core.List.Memᴰ
use mathlib.Core.List.{List, [], ◌∷◌, Memᴰ}
use mathlib.Core.Bool.{Bool, true, false, ◌&&◌, ◌||◌}
use native.Mathlib.Omega.{arith}
use native.Mathlib.Decide.{ℕ_discrete}
use lib.Dec.{ltb, leb, eqb}
use borrow.Author.Tests.{ltb-true, leb-true, eqb-true, lt-ltb, le-leb, eq-eqb}
use Rattle.wire.specs.Cases.{pick}
use Rattle.wire.specs.Letters.{is_letter}
use Rattle.wire.specs.Sizes.{most_letters}
use Rattle.wire.specs.Refusals.{out_of_range, not_letter, no_vertex, not_rising, not_edge, on_no_path}
use Rattle.graph.specs.Content.{Edge}
use Rattle.graph.specs.Good.{Vertex, EdgeBelow}
use Rattle.graph.specs.Rules.{range_fault, length_fault, letter_fault, is_vertex, edge_below, edge_fault, is_edge, is_step, vertex_fault, is_on, is_on_any, all_on, cover_fault}

-- ---- tests joined

-- both tests hold, or one of them
pub both : (a b : Bool) → ◌&&◌ a b ≡ true → (a ≡ true) × (b ≡ true)
both true b e = (refl, e)
both false b e = let z : ◌≡◌ {A = ℕ} 0 1 = cc in absurd (omega arith)

pub either : (a b : Bool) → ◌||◌ a b ≡ true → (a ≡ true) ⊎ (b ≡ true)
either true b e = inl refl
either false b e = inr e

pub or_right : (a b : Bool) → b ≡ true → ◌||◌ a b ≡ true
or_right true b e = refl
or_right false b e = e

-- a rule of one test is kept
pub passed : (b : Bool) (k : ℕ) → 0 < k → pick b 0 k ≡ 0 → b ≡ true
passed true k h e = refl
passed false k h e = absurd (omega arith)

-- a rule with another after it
pub passed_on : (b : Bool) (x k : ℕ) → 0 < k → pick b x k ≡ 0 → (b ≡ true) × (x ≡ 0)
passed_on true x k h e = (refl, e)
passed_on false x k h e = absurd (omega arith)

-- ---- the rules of numbers

-- a range is kept exactly where the number is within it
pub range_kept : (low high x : ℕ) → range_fault low high x ≡ 0 → (low ≤ x) × (x ≤ high)
range_kept low high x e =
    let t = both (leb low x) (leb x high) (passed _ out_of_range (omega arith) e) in
    (leb-true low x t.0, leb-true x high t.1)

pub range_free : (low high x : ℕ) → low ≤ x → x ≤ high → range_fault low high x ≡ 0
range_free low high x h k = simp (le-leb low x h, le-leb x high k)

-- a label has letters, and all labels together are not too long
pub length_kept : (sum len : ℕ) → length_fault sum len ≡ 0 → (1 ≤ len) × (sum + len ≤ most_letters)
length_kept sum len e =
    let t = both (leb 1 len) (leb (sum + len) most_letters) (passed _ out_of_range (omega arith) e) in
    (leb-true 1 len t.0, leb-true (sum + len) most_letters t.1)

pub length_free : (sum len : ℕ) → 1 ≤ len → sum + len ≤ most_letters → length_fault sum len ≡ 0
length_free sum len h k = simp (le-leb 1 len h, le-leb (sum + len) most_letters k)

-- a letter is one
pub letter_kept : (b : ℕ) → letter_fault b ≡ 0 → is_letter b ≡ true
letter_kept b e = passed (is_letter b) not_letter (omega arith) e

pub letter_free : (b : ℕ) → is_letter b ≡ true → letter_fault b ≡ 0
letter_free b e = rw e

pub vertex-is : (n v : ℕ) → is_vertex n v ≡ true → Vertex n v
vertex-is n v e = let t = both (leb 1 v) (leb v n) e in (leb-true 1 v t.0, leb-true v n t.1)

pub is-vertex : (n v : ℕ) → Vertex n v → is_vertex n v ≡ true
is-vertex n v h = simp (le-leb 1 v h.0, le-leb v n h.1)

below-is : (d e : Edge) → edge_below d e ≡ true → EdgeBelow d e
below-is d e h =
    elim (either (ltb d.from e.from) _ h) [
      | inl k ↦ inl (ltb-true d.from e.from k)
      | inr k ↦
          let t = both (eqb d.from e.from) (ltb d.to e.to) k in
          inr (eqb-true d.from e.from t.0, ltb-true d.to e.to t.1)
    ]

is_below : (d e : Edge) → EdgeBelow d e → edge_below d e ≡ true
is_below d e (inl h) = simp (lt-ltb d.from e.from h)
is_below d e (inr h) = or_right (ltb d.from e.from) _ (simp (eq-eqb d.from e.from h.0, lt-ltb d.to e.to h.1))

-- an edge: 6 and 7 are not given
pub edge_kept : (n : ℕ) (last e : Edge) → edge_fault n last e ≡ 0 → Vertex n e.from × Vertex n e.to × EdgeBelow last e
unfolding edge_fault
edge_kept n last e h =
    let t = passed_on (◌&&◌ (is_vertex n e.from) (is_vertex n e.to)) _ no_vertex (omega arith) h in
    let v = both (is_vertex n e.from) (is_vertex n e.to) t.0 in
    (vertex-is n e.from v.0, vertex-is n e.to v.1, below-is last e (passed (edge_below last e) not_rising (omega arith) t.1))

pub edge_free : (n : ℕ) (last e : Edge) → Vertex n e.from → Vertex n e.to → EdgeBelow last e → edge_fault n last e ≡ 0
unfolding edge_fault
edge_free n last e h k b = simp (is-vertex n e.from h, is-vertex n e.to k, is_below last e b)

-- ---- the rules of lists

same-edge : (e : Edge) (u v : ℕ) → e.from ≡ u → e.to ≡ v → record { from = u; to = v } ≡ e
same-edge e u v p q = ap (λ (k : ℕ). record { from = k; to = v }) (sym p) ∙ ap (λ (k : ℕ). record { from = e.from; to = k }) (sym q)

-- u to v is an edge exactly where it is a member of the edges
pub edge_member : (es : List Edge) (u v : ℕ) → is_edge es u v ≡ true → Memᴰ (record { from = u; to = v }) es
unfolding is_edge
edge_member [] u v h = let z : ◌≡◌ {A = ℕ} 0 1 = cc in absurd (omega arith)
edge_member (e ∷ es) u v h =
    elim (either (◌&&◌ (eqb e.from u) (eqb e.to v)) (is_edge es u v) h) [
      | inl k ↦
          let t = both (eqb e.from u) (eqb e.to v) k in
          Memᴰ.head (same-edge e u v (eqb-true e.from u t.0) (eqb-true e.to v t.1))
      | inr k ↦ Memᴰ.tail (edge_member es u v k)
    ]

pub member_edge : (es : List Edge) (u v : ℕ) → Memᴰ (record { from = u; to = v }) es → is_edge es u v ≡ true
unfolding is_edge
member_edge [] u v m = absurd (Memᴰ.not-nil m)
member_edge (e ∷ es) u v m =
    elim (Memᴰ.cases_cons m) [
      | inl k ↦
          simp (eq-eqb e.from u (ap (λ (d : Edge). d.from) (sym k)), eq-eqb e.to v (ap (λ (d : Edge). d.to) (sym k)))
      | inr k ↦ or_right (◌&&◌ (eqb e.from u) (eqb e.to v)) (is_edge es u v) (member_edge es u v k)
    ]

-- a path's vertex: 6, 7 and 8 are not given
pub vertex_kept : (n : ℕ) (es : List Edge) (last v : ℕ) → vertex_fault n es last v ≡ 0 → Vertex n v × (last < v) × (is_step es last v ≡ true)
unfolding vertex_fault
vertex_kept n es last v h =
    let t = passed_on (is_vertex n v) _ no_vertex (omega arith) h in
    let r = passed_on (ltb last v) _ not_rising (omega arith) t.1 in
    (vertex-is n v t.0, ltb-true last v r.0, passed (is_step es last v) not_edge (omega arith) r.1)

pub vertex_free : (n : ℕ) (es : List Edge) (last v : ℕ) → Vertex n v → last < v → is_step es last v ≡ true → vertex_fault n es last v ≡ 0
unfolding vertex_fault
vertex_free n es last v h r s = simp (is-vertex n v h, lt-ltb last v r, s)

-- before a path's first vertex there is no step; after a vertex it is an edge
pub first_step : (es : List Edge) (v : ℕ) → is_step es 0 v ≡ true
unfolding is_step
first_step es v = refl

pub step-edge : (es : List Edge) (u v : ℕ) → 1 ≤ u → is_step es u v ≡ true → Memᴰ (record { from = u; to = v }) es
unfolding is_step
step-edge es u v h e =
    elim (either (eqb u 0) (is_edge es u v) e) [
      | inl k ↦ absurd (omega (arith, eqb-true u 0 k))
      | inr k ↦ edge_member es u v k
    ]

pub edge-step : (es : List Edge) (u v : ℕ) → Memᴰ (record { from = u; to = v }) es → is_step es u v ≡ true
unfolding is_step
edge-step es u v m = or_right (eqb u 0) (is_edge es u v) (member_edge es u v m)

-- v is on a path exactly where it is a member of it
pub on_member : (p : List ℕ) (v : ℕ) → is_on p v ≡ true → Memᴰ v p
unfolding is_on
on_member [] v h = let z : ◌≡◌ {A = ℕ} 0 1 = cc in absurd (omega arith)
on_member (u ∷ p) v h =
    elim (either (eqb u v) (is_on p v) h) [
      | inl k ↦ Memᴰ.head (sym (eqb-true u v k))
      | inr k ↦ Memᴰ.tail (on_member p v k)
    ]

pub member_on : (p : List ℕ) (v : ℕ) → Memᴰ v p → is_on p v ≡ true
unfolding is_on
member_on [] v m = absurd (Memᴰ.not-nil m)
member_on (u ∷ p) v m =
    elim (Memᴰ.cases_cons m) [
      | inl k ↦ simp (eq-eqb u v (sym k))
      | inr k ↦ or_right (eqb u v) (is_on p v) (member_on p v k)
    ]

-- v is on one of the paths
abbrev pub OnPath : List (List ℕ) → ℕ → Type 0
OnPath ps v = (p : List ℕ) × Memᴰ p ps × Memᴰ v p

-- v is on one of the paths exactly where a member holds it
pub on_any_member : (ps : List (List ℕ)) (v : ℕ) → is_on_any ps v ≡ true → OnPath ps v
unfolding is_on_any
on_any_member [] v h = let z : ◌≡◌ {A = ℕ} 0 1 = cc in absurd (omega arith)
on_any_member (p ∷ ps) v h =
    elim (either (is_on p v) (is_on_any ps v) h) [
      | inl k ↦ (p, Memᴰ.head refl, on_member p v k)
      | inr k ↦ let t = on_any_member ps v k in (t.0, Memᴰ.tail t.1, t.2)
    ]

pub member_on_any : (ps : List (List ℕ)) (v : ℕ) (p : List ℕ) → Memᴰ p ps → Memᴰ v p → is_on_any ps v ≡ true
unfolding is_on_any
member_on_any [] v p m h = absurd (Memᴰ.not-nil m)
member_on_any (q ∷ ps) v p m h =
    elim (Memᴰ.cases_cons m) [
      | inl k ↦ let t : is_on q v ≡ true = member_on q v (subst (λ (x : List ℕ). Memᴰ v x) k h) in rw t
      | inr k ↦ or_right (is_on q v) (is_on_any ps v) (member_on_any ps v p k h)
    ]

-- all of 1 to n are on paths
pub all-on : (ps : List (List ℕ)) (n : ℕ) → all_on ps n ≡ true → (v : ℕ) → Vertex n v → is_on_any ps v ≡ true
unfolding all_on
all-on ps zero h v k = absurd (omega arith)
all-on ps (suc n) h v k =
    let t = both (all_on ps n) (is_on_any ps (suc n)) h in
    elim (ℕ_discrete v (suc n)) [
      | yes e ↦ rw e t.1
      | no d ↦ all-on ps n t.0 v (k.0, omega arith)
    ]

pub on-all : (ps : List (List ℕ)) (n : ℕ) → ((v : ℕ) → Vertex n v → is_on_any ps v ≡ true) → all_on ps n ≡ true
unfolding all_on
on-all ps zero h = refl
on-all ps (suc n) h = simp (on-all ps n (λ v k. h v (k.0, omega arith)), h (suc n) (omega arith, omega arith))

-- every vertex is on a path
pub cover_kept : (n : ℕ) (ps : List (List ℕ)) → cover_fault n ps ≡ 0 → (v : ℕ) → Vertex n v → OnPath ps v
unfolding cover_fault
cover_kept n ps e v h = on_any_member ps v (all-on ps n (passed (all_on ps n) on_no_path (omega arith) e) v h)

pub cover_free : (n : ℕ) (ps : List (List ℕ)) → ((v : ℕ) → Vertex n v → OnPath ps v) → cover_fault n ps ≡ 0
unfolding cover_fault
cover_free n ps h =
    let e : all_on ps n ≡ true = on-all ps n (λ v k. let t = h v k in member_on_any ps v t.0 t.1 t.2) in
    rw e

-- ---- the number of a rule that is not kept

-- a refusal number: not 0, and a number of 32 bits
abbrev pub Known : ℕ → Type 0
Known k = (1 ≤ k) × (k < 2 ^ 32)

few : (b : Bool) (x y : ℕ) → x < 2 ^ 32 → y < 2 ^ 32 → pick b x y < 2 ^ 32
few true x y h k = h
few false x y h k = k

known : (k : ℕ) → k < 2 ^ 32 → (k ≡ 0 → ⊥) → Known k
known k h n = (omega arith, h)

-- each rule gives 0 or a known number
pub test_known : (b : Bool) (k : ℕ) → k < 2 ^ 32 → (pick b 0 k ≡ 0 → ⊥) → Known (pick b 0 k)
test_known b k h n = known (pick b 0 k) (few b 0 k (omega arith) h) n

pub edge-known : (n : ℕ) (last e : Edge) → (edge_fault n last e ≡ 0 → ⊥) → Known (edge_fault n last e)
unfolding edge_fault
edge-known n last e h =
    known (edge_fault n last e)
    (few (◌&&◌ (is_vertex n e.from) (is_vertex n e.to)) _ no_vertex (few (edge_below last e) 0 not_rising (omega arith) (omega arith)) (omega arith))
    h

pub vertex-known : (n : ℕ) (es : List Edge) (last v : ℕ) → (vertex_fault n es last v ≡ 0 → ⊥) → Known (vertex_fault n es last v)
unfolding vertex_fault
vertex-known n es last v h =
    known (vertex_fault n es last v)
    (few (is_vertex n v) _ no_vertex
    (few (ltb last v) _ not_rising (few (is_step es last v) 0 not_edge (omega arith) (omega arith)) (omega arith))
    (omega arith))
    h

pub cover_known : (n : ℕ) (ps : List (List ℕ)) → (cover_fault n ps ≡ 0 → ⊥) → Known (cover_fault n ps)
unfolding cover_fault
cover_known n ps h = test_known (all_on ps n) on_no_path (omega arith) h
