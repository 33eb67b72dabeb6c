-- Content as a caller gives it: what is taken from the buffers is what their used places hold.
-- Assumes nothing.
use Prim.Native.Nat.{ℕ, zero, suc, ◌+◌, ◌*◌, ◌≤◌, ◌<◌}
use mathlib.Core.Path.{◌≡◌, refl, sym, ap, ap₂, ◌∙◌, subst}
use mathlib.Core.List.{List, [], ◌∷◌, ◌++◌, map, flatten}
use native.Mathlib.Omega.{arith}
use native.Mathlib.Numerals.{add-one}
use native.Mathlib.Nat.{add-zero}
use lib.ListN.{length, get_or, take, drop, length-append, get_or-map}
use lib.Seq.{drop-cons, take_at, drop_at, get_or-take, ext_get_or}
use Rattle.wire.specs.Sizes.{path_room}
use Rattle.graph.specs.Content.{Edge, edge_numbers}
use Rattle.graph.specs.Entries.{numbers_in, labels_in, edges_in, paths_in}

-- ---- numbers

pub length-numbers : (left at : ℕ) (s : List ℕ) → length (numbers_in left at s) ≡ left
unfolding numbers_in
length-numbers zero at s = refl
length-numbers (suc left) at s = ap suc (length-numbers left (at + 1) s)

-- the part of a buffer that is used
pub numbers_part : (left at : ℕ) (s : List ℕ) → at + left ≤ length s → take left (drop at s) ≡ numbers_in left at s
unfolding numbers_in
numbers_part zero at s h = refl
numbers_part (suc left) at s h =
    rw (drop-cons s at 0 (omega arith), ← add-one at) (ap (λ (t : List ℕ). get_or s at 0 ∷ t) (numbers_part left (at + 1) s (omega arith)))

-- in two parts
numbers_add : (a b at : ℕ) (s : List ℕ) → numbers_in (a + b) at s ≡ numbers_in a at s ++ numbers_in b (at + a) s
unfolding numbers_in
numbers_add zero b at s = let z : 0 + b ≡ b = omega arith in ap₂ (λ (n i : ℕ). numbers_in n i s) z (sym (add-zero at))
numbers_add (suc a) b at s =
    let e : suc a + b ≡ suc (a + b) = omega arith in
    let f : at + 1 + a ≡ at + suc a = omega arith in
    ap (λ (n : ℕ). numbers_in n at s) e
    ∙ ap (λ (t : List ℕ). get_or s at 0 ∷ t) (numbers_add a b (at + 1) s ∙ ap (λ (i : ℕ). numbers_in a (at + 1) s ++ numbers_in b i s) f)

-- ---- labels

pub length-labels : (left i sum : ℕ) (letters lengths : List ℕ) → length (labels_in left i sum letters lengths) ≡ left
unfolding labels_in
length-labels zero i sum letters lengths = refl
length-labels (suc left) i sum letters lengths = ap suc (length-labels left (i + 1) (sum + get_or lengths i 0) letters lengths)

-- their lengths and their letters are those of the buffers
pub labels-lengths : (left i sum : ℕ) (letters lengths : List ℕ) → map length (labels_in left i sum letters lengths) ≡ numbers_in left i lengths
unfolding labels_in numbers_in
labels-lengths zero i sum letters lengths = refl
labels-lengths (suc left) i sum letters lengths =
    ap₂ (λ (x : ℕ) (xs : List ℕ). x ∷ xs) (length-numbers (get_or lengths i 0) sum letters)
    (labels-lengths left (i + 1) (sum + get_or lengths i 0) letters lengths)

pub labels-letters : (left i sum : ℕ) (letters lengths : List ℕ)
    → flatten (labels_in left i sum letters lengths) ≡ numbers_in (length (flatten (labels_in left i sum letters lengths))) sum letters
unfolding labels_in numbers_in flatten
labels-letters zero i sum letters lengths = refl
labels-letters (suc left) i sum letters lengths =
    let len : ℕ = get_or lengths i 0 in
    let rest : List ℕ = flatten (labels_in left (i + 1) (sum + len) letters lengths) in
    let n : length (numbers_in len sum letters ++ rest) ≡ len + length rest =
    length-append (numbers_in len sum letters) rest ∙ ap (λ (k : ℕ). k + length rest) (length-numbers len sum letters) in
    ap (λ (t : List ℕ). numbers_in len sum letters ++ t) (labels-letters left (i + 1) (sum + len) letters lengths)
    ∙ sym (numbers_add len (length rest) sum letters)
    ∙ ap (λ (k : ℕ). numbers_in k sum letters) (sym n)

-- ---- edges

pub length-edges : (left i : ℕ) (edges : List ℕ) → length (edges_in left i edges) ≡ left
unfolding edges_in
length-edges zero i edges = refl
length-edges (suc left) i edges = ap suc (length-edges left (i + 1) edges)

pub edges-numbers_in : (left i : ℕ) (edges : List ℕ) → edge_numbers (edges_in left i edges) ≡ numbers_in (2 * left) (2 * i) edges
unfolding edge_numbers edges_in numbers_in
edges-numbers_in zero i edges = refl
edges-numbers_in (suc left) i edges =
    let d : 2 * suc left ≡ suc (suc (2 * left)) = omega arith in
    let e : 2 * (i + 1) ≡ 2 * i + 1 + 1 = omega arith in
    simp (d, edges-numbers_in left (i + 1) edges, e)

-- ---- paths

pub length-paths : (left i : ℕ) (paths counts : List ℕ) → length (paths_in left i paths counts) ≡ left
unfolding paths_in
length-paths zero i paths counts = refl
length-paths (suc left) i paths counts = ap suc (length-paths left (i + 1) paths counts)

pub paths-counts : (left i : ℕ) (paths counts : List ℕ) → map length (paths_in left i paths counts) ≡ numbers_in left i counts
unfolding paths_in numbers_in
paths-counts zero i paths counts = refl
paths-counts (suc left) i paths counts =
    ap₂ (λ (x : ℕ) (xs : List ℕ). x ∷ xs) (length-numbers (get_or counts i 0) (path_room * i) paths) (paths-counts left (i + 1) paths counts)

pub paths-each : (left i : ℕ) (paths counts : List ℕ) (j : ℕ) → j < left
    → get_or (paths_in left i paths counts) j [] ≡ numbers_in (get_or counts (i + j) 0) (path_room * (i + j)) paths
unfolding paths_in
paths-each zero i paths counts j h = absurd (omega arith)
paths-each (suc left) i paths counts zero h =
    ap (λ (k : ℕ). numbers_in (get_or counts k 0) (path_room * k) paths) (sym (add-zero i))
paths-each (suc left) i paths counts (suc j) h =
    let e : i + 1 + j ≡ i + suc j = omega arith in
    paths-each left (i + 1) paths counts j (omega arith) ∙ ap (λ (k : ℕ). numbers_in (get_or counts k 0) (path_room * k) paths) e

-- ---- buffers that hold content: what is taken from them is that content

cons_same : {A : Type 0} (x y : A) (xs ys : List A) → x ∷ xs ≡ y ∷ ys → (x ≡ y) × (xs ≡ ys)
cons_same x y xs ys e = (cc, cc)

-- two lists of two parts
parts_same : (a b c d : List ℕ) → length a ≡ length c → a ++ b ≡ c ++ d → (a ≡ c) × (b ≡ d)
parts_same a b c d n e = (
  sym (take_at a b (length c) n) ∙ ap (take (length c)) e ∙ take_at c d (length c) refl,
  sym (drop_at a b (length c) n) ∙ ap (drop (length c)) e ∙ drop_at c d (length c) refl,
)

labels-taken : (ls : List (List ℕ)) (i sum : ℕ) (letters lengths : List ℕ) → numbers_in (length ls) i lengths ≡ map length ls
    → numbers_in (length (flatten ls)) sum letters ≡ flatten ls → labels_in (length ls) i sum letters lengths ≡ ls
unfolding labels_in numbers_in flatten
labels-taken [] i sum letters lengths e f = refl
labels-taken (l ∷ ls) i sum letters lengths e f =
    let t = cons_same (get_or lengths i 0) (length l) _ (map length ls) e in
    let n : length (l ++ flatten ls) ≡ length l + length (flatten ls) = length-append l (flatten ls) in
    let u = parts_same (numbers_in (length l) sum letters) _ l (flatten ls) (length-numbers (length l) sum letters)
    (sym (numbers_add (length l) (length (flatten ls)) sum letters) ∙ ap (λ (k : ℕ). numbers_in k sum letters) (sym n) ∙ f) in
    let w = labels-taken ls (i + 1) (sum + length l) letters lengths t.1 u.1 in
    rw t.0 (ap₂ (λ (x : List ℕ) (xs : List (List ℕ)). x ∷ xs) u.0 w)

pub labels-held : (ls : List (List ℕ)) (letters lengths : List ℕ) → length ls ≤ length lengths → length (flatten ls) ≤ length letters
    → take (length ls) lengths ≡ map length ls → take (length (flatten ls)) letters ≡ flatten ls → labels_in (length ls) 0 0 letters lengths ≡ ls
labels-held ls letters lengths h k e f =
    labels-taken ls 0 0 letters lengths
    (sym (numbers_part (length ls) 0 lengths (omega arith)) ∙ e)
    (sym (numbers_part (length (flatten ls)) 0 letters (omega arith)) ∙ f)

numbers-edges : (es fs : List Edge) → edge_numbers es ≡ edge_numbers fs → es ≡ fs
unfolding edge_numbers
numbers-edges [] [] e = refl
numbers-edges [] (d ∷ fs) e = let z : ◌≡◌ {A = ℕ} 0 1 = cc in absurd (omega arith)
numbers-edges (d ∷ es) [] e = let z : ◌≡◌ {A = ℕ} 0 1 = cc in absurd (omega arith)
numbers-edges (d ∷ es) (c ∷ fs) e =
    let t = cons_same d.from c.from _ _ e in
    let u = cons_same d.to c.to _ _ t.1 in
    ap₂ (λ (x y : ℕ). record { from = x; to = y } ∷ es) t.0 u.0 ∙ ap (λ (xs : List Edge). c ∷ xs) (numbers-edges es fs u.1)

pub edges-held : (es : List Edge) (edges : List ℕ) → 2 * length es ≤ length edges → take (2 * length es) edges ≡ edge_numbers es
    → edges_in (length es) 0 edges ≡ es
edges-held es edges h e =
    numbers-edges _ es (edges-numbers_in (length es) 0 edges ∙ sym (numbers_part (2 * length es) 0 edges (omega arith)) ∙ e)

pub paths-held : (ps : List (List ℕ)) (paths counts : List ℕ) → length ps ≤ length counts → take (length ps) counts ≡ map length ps
    → ((j : ℕ) → j < length ps → path_room * j + length (get_or ps j []) ≤ length paths)
    → ((j : ℕ) → j < length ps → take (length (get_or ps j [])) (drop (path_room * j) paths) ≡ get_or ps j [])
    → paths_in (length ps) 0 paths counts ≡ ps
paths-held ps paths counts h e k f =
    ext_get_or [] _ ps (length-paths (length ps) 0 paths counts) (λ j o.
    let n : j < length ps = subst (λ (m : ℕ). j < m) (length-paths (length ps) 0 paths counts) o in
    let z : 0 + j ≡ j = omega arith in
    let c : get_or counts j 0 ≡ length (get_or ps j []) =
    sym (get_or-take (length ps) counts j 0 n) ∙ ap (λ (xs : List ℕ). get_or xs j 0) e ∙ get_or-map length ps j [] in
    paths-each (length ps) 0 paths counts j n
    ∙ ap (λ (i : ℕ). numbers_in (get_or counts i 0) (path_room * i) paths) z
    ∙ ap (λ (i : ℕ). numbers_in i (path_room * j) paths) c
    ∙ sym (numbers_part (length (get_or ps j [])) (path_room * j) paths (k j n))
    ∙ f j n)
