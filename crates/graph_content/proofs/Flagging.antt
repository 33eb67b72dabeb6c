-- Flags of vertices: marked one after the other, and what it says that all are marked.
-- Assumes nothing.
use Prim.Native.Nat.{ℕ, zero, suc, ◌+◌, ◌-◌, ◌*◌, ◌≤◌, ◌<◌}
use mathlib.Core.Path.{◌≡◌, refl, sym, ap, ap₂, ◌∙◌}
use mathlib.Core.List.{List}
use mathlib.Core.Bool.{Bool, true, false, ◌&&◌, ◌||◌, or-true, or-false, or_assoc}
use native.Mathlib.Omega.{arith}
use native.Mathlib.Decide.{ℕ_discrete}
use native.Mathlib.Numerals.{add-one, sub-one}
use lib.ListN.{length, get_or, drop, set, replicate, length-set, drop_of_length-le}
use lib.Seq.{drop-cons, get_or-set_same, get_or-set_other}
use lib.Dec.{eqb}
use borrow.Author.Tests.{eq-eqb, ne_eqb}
use Rattle.wire.specs.Sizes.{most_vertices, path_room}
use Rattle.wire.specs.Cases.{pick}
use Rattle.wire.specs.Refusals.{on_no_path}
use Rattle.graph.specs.Rules.{is_on, is_on_any, all_on, cover_fault}
use Rattle.graph_paths.specs.Marks.{no_marks, all_marked}
use Rattle.graph.specs.Entries.{numbers_in, paths_in}
use Rattle.graph_content.specs.Flags.{marked, Flagged, Vertices, Inside}
use Rattle.graph_content.proofs.Encoded.{left-more, left-none, length-numbers, numbers_at}

-- of the vertices `all` that are to be marked, `rest` are still left
pub record Onward (old : List Bool) (all : ℕ → Bool) (flags : List Bool) (rest : ℕ → Bool) : Type 0 where
  pub long : length flags ≡ length old
  pub each : (v : ℕ) → 1 ≤ v → ◌||◌ (marked flags v) (rest v) ≡ ◌||◌ (marked old v) (all v)

pub onward-none : (old : List Bool) (all rest : ℕ → Bool) → ((v : ℕ) → rest v ≡ all v) → Onward old all old rest
onward-none old all rest e = record { long = refl; each = λ v h. ap (λ (b : Bool). ◌||◌ (marked old v) b) (e v) }

pub onward-done : (old : List Bool) (all : ℕ → Bool) (flags : List Bool) (rest : ℕ → Bool) → Onward old all flags rest → ((v : ℕ) → rest v ≡ false)
    → Flagged old flags all
onward-done old all flags rest o e = record {
  long = o.long;
  each = λ v h. sym (or-false (marked flags v)) ∙ ap (λ (b : Bool). ◌||◌ (marked flags v) b) (sym (e v)) ∙ o.each v h;
}

-- ---- a path's vertices

pub on_none : (p : List ℕ) (i v : ℕ) → length p ≤ i → is_on (drop i p) v ≡ false
unfolding is_on
on_none p i v h = rw (drop_of_length-le p h)

on-next : (p : List ℕ) (i v : ℕ) → i < length p → is_on (drop i p) v ≡ ◌||◌ (eqb (get_or p i 0) v) (is_on (drop (i + 1) p) v)
unfolding is_on
on-next p i v h = rw (drop-cons p i 0 h, add-one)

set-marked : (flags : List Bool) (x v : ℕ) → 1 ≤ x → x ≤ length flags → 1 ≤ v → marked (set flags (x - 1) true) v ≡ ◌||◌ (marked flags v) (eqb x v)
set-marked flags x v h k g =
    elim (ℕ_discrete x v) [
      | yes e ↦
          let s : get_or (set flags (x - 1) true) (v - 1) false ≡ true =
          ap (λ (j : ℕ). get_or (set flags (x - 1) true) (j - 1) false) (sym e) ∙ get_or-set_same flags (x - 1) true false (omega arith) in
          simp (s, eq-eqb x v e, or-true)
      | no n ↦
          let s : get_or (set flags (x - 1) true) (v - 1) false ≡ get_or flags (v - 1) false =
          get_or-set_other flags (x - 1) (v - 1) true false (λ z. n (omega arith)) in
          simp (s, ne_eqb x v n, or-false)
    ]

pub onward-one : (old : List Bool) (all : ℕ → Bool) (flags : List Bool) (p : List ℕ) (i : ℕ) → i < length p → 1 ≤ get_or p i 0 → get_or p i 0 ≤ length flags
    → Onward old all flags (is_on (drop i p)) → Onward old all (set flags (get_or p i 0 - 1) true) (is_on (drop (i + 1) p))
onward-one old all flags p i h a b o = record {
  long = simp length-set o.long;
  each = λ v g.
      ap (λ (t : Bool). ◌||◌ t (is_on (drop (i + 1) p) v)) (set-marked flags (get_or p i 0) v a b g)
      ∙ or_assoc (marked flags v) (eqb (get_or p i 0) v) (is_on (drop (i + 1) p) v)
      ∙ ap (λ (t : Bool). ◌||◌ (marked flags v) t) (sym (on-next p i v h))
      ∙ o.each v g;
}

-- ---- paths

pub any_all : (k v : ℕ) (paths counts : List ℕ) → is_on_any (paths_in (k - 0) 0 paths counts) v ≡ is_on_any (paths_in k 0 paths counts) v
any_all k v paths counts = let e : k - 0 ≡ k = omega arith in ap (λ (l : ℕ). is_on_any (paths_in l 0 paths counts) v) e

pub any_none : (k i v : ℕ) (paths counts : List ℕ) → k ≤ i → is_on_any (paths_in (k - i) i paths counts) v ≡ false
unfolding is_on_any paths_in
any_none k i v paths counts h = simp (left-none k i h)

any_next : (k i v : ℕ) (paths counts : List ℕ) → i < k
    → is_on_any (paths_in (k - i) i paths counts) v
    ≡ ◌||◌ (is_on (numbers_in (get_or counts i 0) (path_room * i) paths) v) (is_on_any (paths_in (k - (i + 1)) (i + 1) paths counts) v)
unfolding is_on_any paths_in
any_next k i v paths counts h = simp (left-more k i h)

pub onward-path : (old : List Bool) (all : ℕ → Bool) (flags after : List Bool) (k i : ℕ) (paths counts : List ℕ) → i < k
    → Onward old all flags (is_on_any (paths_in (k - i) i paths counts)) → Flagged flags after (is_on (numbers_in (get_or counts i 0) (path_room * i) paths))
    → Onward old all after (is_on_any (paths_in (k - (i + 1)) (i + 1) paths counts))
onward-path old all flags after k i paths counts h o f = record {
  long = f.long ∙ o.long;
  each = λ v g.
      ap (λ (t : Bool). ◌||◌ t (is_on_any (paths_in (k - (i + 1)) (i + 1) paths counts) v)) (f.each v g)
      ∙ or_assoc (marked flags v) (is_on (numbers_in (get_or counts i 0) (path_room * i) paths) v) (is_on_any (paths_in (k - (i + 1)) (i + 1) paths counts) v)
      ∙ ap (λ (t : Bool). ◌||◌ (marked flags v) t) (sym (any_next k i v paths counts h))
      ∙ o.each v g;
}

-- ---- all

unmarked : (v : ℕ) → marked no_marks v ≡ false
unfolding no_marks
unmarked v = simp (zeros most_vertices (v - 1))
  where
    zeros : (n i : ℕ) → get_or {A = Bool} (replicate n false) i false ≡ false
    zeros zero i = refl
    zeros (suc n) zero = refl
    zeros (suc n) (suc i) = zeros n i

-- where no vertex was marked, all are marked exactly if all are on the paths
all-on : (old flags : List Bool) (ps : List (List ℕ)) (n : ℕ) → ((v : ℕ) → marked old v ≡ false) → Flagged old flags (is_on_any ps)
    → all_marked flags n ≡ all_on ps n
unfolding all_marked all_on
all-on old flags ps zero u f = refl
all-on old flags ps (suc v) u f =
    let e : marked flags (suc v) ≡ is_on_any ps (suc v) =
    f.each (suc v) (omega arith) ∙ ap (λ (b : Bool). ◌||◌ b (is_on_any ps (suc v))) (u (suc v)) in
    let g : get_or flags v false ≡ is_on_any ps (suc v) = sym (ap (λ (i : ℕ). get_or flags i false) (sub-one (suc v))) ∙ e in
    ap₂ (λ (a b : Bool). ◌&&◌ a b) (all-on old flags ps v u f) g

-- the vertices that are marked along the paths are those on the paths
pub covers : (flags : List Bool) (n : ℕ) (ps : List (List ℕ)) (b : Bool) → Flagged no_marks flags (is_on_any ps) → b ≡ all_marked flags n
    → cover_fault n ps ≡ pick b 0 on_no_path
unfolding cover_fault
covers flags n ps b f e = ap (λ (t : Bool). pick t 0 on_no_path) (sym (e ∙ all-on no_marks flags ps n unmarked f))

-- the numbers of a path are vertices
pub path-vertices : (n l k i : ℕ) (paths counts : List ℕ) → i < k → n ≡ l → Inside n k paths counts
    → Vertices l (numbers_in (get_or counts i 0) (path_room * i) paths)
path-vertices n l k i paths counts h e s j g =
    let b : j < get_or counts i 0 = omega (arith, length-numbers (get_or counts i 0) (path_room * i) paths) in
    let q = s i j h b in
    rw (numbers_at (get_or counts i 0) (path_room * i) j paths b) (q.0, omega arith)
