-- Flags of vertices: how they start, what marking a vertex adds, and what it means that all are marked.
-- Assumes nothing.
use Prim.Native.Nat.{ℕ, zero, suc, ◌+◌, ◌-◌, ◌≤◌, ◌<◌}
use mathlib.Core.Path.{◌≡◌, refl, sym, ap, ap₂, ◌∙◌}
use mathlib.Core.List.{List, [], ◌∷◌, ◌++◌}
use mathlib.Core.Bool.{Bool, true, false, ◌&&◌, ◌||◌, and-false, or-true, or-false, or_assoc}
use native.Mathlib.Omega.{arith}
use native.Mathlib.Decide.{ℕ_discrete}
use native.Mathlib.Numerals.{add-one, sub-one}
use lib.ListN.{length, get_or, set, replicate, length-replicate, length-set}
use lib.Seq.{get_or-set_same, get_or-set_other}
use lib.Dec.{eqb}
use borrow.Author.Tests.{eq-eqb, ne_eqb}
use Rattle.wire.specs.Sizes.{most_vertices}
use Rattle.graph.specs.Rules.{is_on, is_on_any, all_on}
use Rattle.graph_paths.specs.Marks.{Marks, no_marks, all_marked}

-- ---- the loop of the test

module _ (flags : List Bool) where
  pub marked-none : (v : ℕ) → v ≤ 0 → all_marked flags v ≡ true
  unfolding all_marked
  marked-none zero h = refl
  marked-none (suc v) h = absurd (omega arith)

  pub marked-not : (n v : ℕ) → v < n → get_or flags v false ≡ false → all_marked flags n ≡ false
  unfolding all_marked
  marked-not zero v h e = absurd (omega arith)
  marked-not (suc n) v h e =
      elim (ℕ_discrete v n) [
        | yes q ↦ simp (sym (ap (λ (k : ℕ). get_or flags k false) q) ∙ e, and-false)
        | no q ↦ simp (marked-not n v (omega arith) e)
      ]

  pub marked_more : (v : ℕ) → get_or flags v false ≡ true → all_marked flags v ≡ true → all_marked flags (v + 1) ≡ true
  unfolding all_marked
  marked_more v e h = ap (all_marked flags) (add-one v) ∙ simp (e, h)

-- ---- a vertex that is added to the last path

on_append : (p q : List ℕ) (w : ℕ) → is_on (p ++ q) w ≡ is_on p w || is_on q w
unfolding is_on
on_append [] q w = refl
on_append (u ∷ p) q w = ap (λ (b : Bool). eqb u w || b) (on_append p q w) ∙ sym (or_assoc (eqb u w) (is_on p w) (is_on q w))

on_any_append : (ps qs : List (List ℕ)) (w : ℕ) → is_on_any (ps ++ qs) w ≡ is_on_any ps w || is_on_any qs w
unfolding is_on_any
on_any_append [] qs w = refl
on_any_append (p ∷ ps) qs w =
    ap (λ (b : Bool). is_on p w || b) (on_any_append ps qs w) ∙ sym (or_assoc (is_on p w) (is_on_any ps w) (is_on_any qs w))

last_out : (a b c : Bool) → a || ((b || (c || false)) || false) ≡ (a || (b || false)) || c
last_out true b c = refl
last_out false true c = refl
last_out false false true = refl
last_out false false false = refl

pub on-more : (ps : List (List ℕ)) (p : List ℕ) (v w : ℕ)
    → is_on_any (ps ++ ((p ++ (v ∷ [])) ∷ [])) w ≡ is_on_any (ps ++ (p ∷ [])) w || eqb v w
unfolding is_on_any is_on
on-more ps p v w =
    on_any_append ps ((p ++ (v ∷ [])) ∷ []) w
    ∙ ap (λ (b : Bool). is_on_any ps w || (b || false)) (on_append p (v ∷ []) w)
    ∙ last_out (is_on_any ps w) (is_on p w) (eqb v w)
    ∙ ap (λ (b : Bool). b || eqb v w) (sym (on_any_append ps (p ∷ []) w))

-- a path of no vertices yet
pub on_none : (ps : List (List ℕ)) (w : ℕ) → is_on_any (ps ++ ([] ∷ [])) w ≡ is_on_any ps w
unfolding is_on_any is_on
on_none ps w = on_any_append ps ([] ∷ []) w ∙ or-false (is_on_any ps w)

-- ---- what the flags say

-- none at the start: no path is read yet
pub marks_none : (flags : List Bool) (n : ℕ) → n ≤ length flags → ((i : ℕ) → get_or flags i false ≡ false) → Marks flags n []
unfolding is_on_any
marks_none flags n h z = record { room = h; each = λ v a b. z (v - 1) }

none_at : (k i : ℕ) → get_or {A = Bool} (replicate k false) i false ≡ false
none_at zero i = refl
none_at (suc k) zero = refl
none_at (suc k) (suc i) = none_at k i

no_marks_at : (i : ℕ) → get_or no_marks i false ≡ false
unfolding no_marks
no_marks_at i = none_at most_vertices i

length_no_marks : length no_marks ≡ most_vertices
unfolding no_marks
length_no_marks = length-replicate {A = Bool} most_vertices false

pub marks_start : (flags : List Bool) (n : ℕ) → flags ≡ no_marks → n ≤ most_vertices → Marks flags n []
marks_start flags n e h =
    rw e (marks_none no_marks n (omega (arith, length_no_marks)) no_marks_at)

-- the same vertices are on the paths
pub marks_same : (flags : List Bool) (n : ℕ) (ps qs : List (List ℕ)) → ((w : ℕ) → is_on_any qs w ≡ is_on_any ps w) → Marks flags n ps → Marks flags n qs
marks_same flags n ps qs e m = record { room = m.room; each = λ v a b. m.each v a b ∙ sym (e v) }

-- a vertex more is on the paths
pub marks_more : (flags : List Bool) (n : ℕ) (ps qs : List (List ℕ)) (v : ℕ) → 1 ≤ v → v ≤ n
    → ((w : ℕ) → is_on_any qs w ≡ is_on_any ps w || eqb v w) → Marks flags n ps → Marks (set flags (v - 1) true) n qs
marks_more flags n ps qs v h k e m = record { room = simp length-set m.room; each = each }
  where
    each : (w : ℕ) → 1 ≤ w → w ≤ n → get_or (set flags (v - 1) true) (w - 1) false ≡ is_on_any qs w
    each w a b =
        elim (ℕ_discrete v w) [
          | yes q ↦ ap (λ (i : ℕ). get_or (set flags (v - 1) true) (i - 1) false) (sym q)
              ∙ get_or-set_same flags (v - 1) true false (omega (arith, m.room))
              ∙ sym (e w ∙ ap (λ (t : Bool). is_on_any ps w || t) (eq-eqb v w q) ∙ or-true (is_on_any ps w))
          | no q ↦ get_or-set_other flags (v - 1) (w - 1) true false (λ z. q (omega arith))
              ∙ m.each w a b
              ∙ sym (e w ∙ ap (λ (t : Bool). is_on_any ps w || t) (ne_eqb v w q) ∙ or-false (is_on_any ps w))
        ]

-- the vertex is added to the last path
pub marks_vertex : (flags : List Bool) (n : ℕ) (ps : List (List ℕ)) (p : List ℕ) (v : ℕ) → 1 ≤ v → v ≤ n → Marks flags n (ps ++ (p ∷ []))
    → Marks (set flags (v - 1) true) n (ps ++ ((p ++ (v ∷ [])) ∷ []))
marks_vertex flags n ps p v h k m =
    marks_more flags n (ps ++ (p ∷ [])) (ps ++ ((p ++ (v ∷ [])) ∷ [])) v h k (on-more ps p v) m

-- a path begins
pub marks_path : (flags : List Bool) (n : ℕ) (ps : List (List ℕ)) → Marks flags n ps → Marks flags n (ps ++ ([] ∷ []))
marks_path flags n ps m = marks_same flags n ps (ps ++ ([] ∷ [])) (on_none ps) m

all-zero : (flags : List Bool) (ps : List (List ℕ)) → all_marked flags 0 ≡ all_on ps 0
unfolding all_marked all_on
all-zero flags ps = refl

all-suc : (flags : List Bool) (ps : List (List ℕ)) (k : ℕ) → all_marked flags k ≡ all_on ps k → get_or flags k false ≡ is_on_any ps (suc k)
    → all_marked flags (suc k) ≡ all_on ps (suc k)
unfolding all_marked all_on
all-suc flags ps k e f = ap₂ ◌&&◌ e f

-- all are marked exactly if the vertices 1 to n are on the paths
pub marks_all : (flags : List Bool) (n : ℕ) (ps : List (List ℕ)) → Marks flags n ps → all_marked flags n ≡ all_on ps n
marks_all flags n ps m = go n (omega arith)
  where
    go : (k : ℕ) → k ≤ n → all_marked flags k ≡ all_on ps k
    go zero h = all-zero flags ps
    go (suc k) h =
        all-suc flags ps k
        (go k (omega arith))
        (rw (sub-one (suc k)) at (m.each (suc k) (omega arith) h))
