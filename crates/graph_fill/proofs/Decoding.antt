-- An accepted section holds the items that the fills take from it, and each of them has room.
-- Assumes nothing.
use Prim.Native.Nat.{ℕ, zero, suc, ◌+◌, ◌*◌, ◌<◌, ◌≤◌}
use mathlib.Core.Path.{◌≡◌, sym, ap, ◌∙◌}
use mathlib.Core.List.{List, [], ◌∷◌, ◌++◌, flatten}
use native.Mathlib.Omega.{arith}
use lib.ListN.{length, take, drop, length-append, length-drop}
use lib.Seq.{take_at, length-take-le}
use Rattle.wire.specs.Numbers.{number_at}
use Rattle.wire.specs.Found.{good, Part}
use Rattle.wire.specs.Sizes.{most_letters}
use Rattle.wire.proofs.NumberLaws.{number-within}
use Rattle.graph.specs.Content.{Edge, edge_numbers}
use Rattle.graph.specs.Good.{All}
use Rattle.graph.specs.Reading.{letters_from, labels_from, edges_from, vertices_from, paths_from}
use Rattle.graph.proofs.Steps.{labels-step, labels-none, edges_step, edges_none, vertices-step, vertices-none, paths-step, paths-none}
use Rattle.graph.proofs.Kept.{length_kept}
use Rattle.graph.proofs.Accepting.{letters-read}
use Rattle.graph_fill.specs.Filling.{items, one_number, one_label, one_path, labels_in, numbers_in, paths_in}

-- ---- a number, letters

pub number_is_lem : (s : List ℕ) (at x c : ℕ) → number_at s at ≡ good (record { content = x; next = c }) → one_number s at ≡ record { content = x; next = c }
unfolding one_number
number_is_lem s at x c e = simp e

-- letters that were found after a number are the file's bytes, and end within it
pub letters-are : (s : List ℕ) (at len c : ℕ) (l : List ℕ) → number_at s at ≡ good (record { content = len; next = c }) → letters_from len s c ≡ good l
    → (l ≡ take len (drop c s)) × (c + len ≤ length s)
letters-are s at len c l e f =
    let t = letters-read len s c l (number-within s at len c e).1 f in
    (sym (ap (take len) t.bytes ∙ take_at l (drop (c + len) s) len t.count), t.within)

-- ---- labels

part_of : {A : Type 0} (a b : A) (m n : ℕ) → a ≡ b → m ≡ n → ◌≡◌ {A = Part A} (record { content = a; next = m }) (record { content = b; next = n })
part_of a b m n e f = cc

part_eq : {A : Type 0} (p q : Part A) → p.content ≡ q.content → p.next ≡ q.next → p ≡ q
part_eq p q e f = part_of p.content q.content p.next q.next e f

pub labels-are : (n sum : ℕ) (s : List ℕ) (at : ℕ) (r : Part (List (List ℕ))) → labels_from n sum s at ≡ good r → r ≡ labels_in s n at
unfolding items one_label
labels-are zero sum s at r e = labels-none sum s at r e
labels-are (suc n) sum s at r e =
    let t = labels-step n sum s at r e in
    let w = number_is_lem s at t.len t.a t.len_is in
    let l = (letters-are s at t.len t.a t.label t.len_is t.label_is).0 in
    let q = labels-are n (sum + t.len) s (t.a + t.len) t.rest t.rest_is in
    part_eq r _ (t.content ∙ rw (w, l, q)) (t.next ∙ rw (w, q))

-- the label behind the first i of them: its letters stand in the file, and are not too many with those before
pub record Stands (s : List ℕ) (sum at : ℕ) : Type 0 where
  pub within : (one_number s at).next + (one_number s at).content ≤ length s
  pub few : sum + (one_number s at).content ≤ most_letters

pub label_stands : (i n sum : ℕ) (s : List ℕ) (at : ℕ) (r : Part (List (List ℕ))) → i < n → labels_from n sum s at ≡ good r
    → Stands s (sum + length (flatten (labels_in s i at).content)) (labels_in s i at).next
unfolding items one_label flatten
label_stands i zero sum s at r h e = absurd (omega arith)
label_stands zero (suc n) sum s at r h e =
    let t = labels-step n sum s at r e in
    let w = number_is_lem s at t.len t.a t.len_is in
    let k = length_kept sum t.len t.kept in
    record {
      within = rw w (letters-are s at t.len t.a t.label t.len_is t.label_is).1;
      few = rw w (omega (arith, k.1));
    }
label_stands (suc i) (suc n) sum s at r h e =
    let t = labels-step n sum s at r e in
    let w = number_is_lem s at t.len t.a t.len_is in
    let k = length_kept sum t.len t.kept in
    let f = label_stands i n (sum + t.len) s (t.a + t.len) t.rest (omega arith) t.rest_is in
    let rest = flatten (labels_in s i (t.a + t.len)).content in
    let g = (letters-are s at t.len t.a t.label t.len_is t.label_is).1 in
    let l : length (take t.len (drop t.a s)) ≡ t.len = length-take-le t.len (drop t.a s) (simp length-drop (omega arith)) in
    let m : sum + length (take t.len (drop t.a s) ++ rest) ≡ sum + t.len + length rest = simp length-append (omega arith) in
    let n : (labels_in s (suc i) at).next ≡ (labels_in s i (t.a + t.len)).next =
    ap (λ (p : Part ℕ). (labels_in s i (p.next + p.content)).next) w in
    rw (n, w, m) f

-- ---- edges, vertices, paths

pub edges_are_lem : (n m : ℕ) (last : Edge) (s : List ℕ) (at : ℕ) (r : Part (List Edge)) → edges_from n m last s at ≡ good r
    → edge_numbers r.content ≡ (numbers_in s (2 * m) at).content
unfolding items edge_numbers
edges_are_lem n zero last s at r e = rw (edges_none n last s at r e)
edges_are_lem n (suc m) last s at r e =
    let t = edges_step n m last s at r e in
    let u = number_is_lem s at t.u t.a t.u_is in
    let v = number_is_lem s t.a t.v t.b t.v_is in
    let q = edges_are_lem n m (record { from = t.u; to = t.v }) s t.b t.rest t.rest_is in
    let k : 2 * suc m ≡ suc (suc (2 * m)) = omega arith in
    rw (t.content, k, u, v, q)

vertices-are : (n : ℕ) (es : List Edge) (left last : ℕ) (s : List ℕ) (at : ℕ) (r : Part (List ℕ)) → vertices_from n es left last s at ≡ good r
    → r ≡ numbers_in s left at
unfolding items
vertices-are n es zero last s at r e = vertices-none n es last s at r e
vertices-are n es (suc left) last s at r e =
    let t = vertices-step n es left last s at r e in
    let w = number_is_lem s at t.v t.a t.v_is in
    let q = vertices-are n es left t.v s t.a t.rest t.rest_is in
    part_eq r _ (t.content ∙ rw (w, q)) (t.next ∙ rw (w, q))

pub paths-are : (n : ℕ) (es : List Edge) (k : ℕ) (s : List ℕ) (at : ℕ) (r : Part (List (List ℕ))) → paths_from n es k s at ≡ good r
    → r ≡ paths_in s k at
unfolding items one_path
paths-are n es zero s at r e = paths-none n es s at r e
paths-are n es (suc k) s at r e =
    let t = paths-step n es k s at r e in
    let w = number_is_lem s at t.count t.a t.count_is in
    let p = vertices-are n es t.count 0 s t.a t.path t.path_is in
    let q = paths-are n es k s t.path.next t.rest t.rest_is in
    part_eq r _ (t.content ∙ rw (q, p, w)) (t.next ∙ rw (q, p, w))

-- paths of at most n vertices have room where n has
pub paths_fit_lem : (n room : ℕ) (ps : List (List ℕ)) → n ≤ room → All (λ p. (1 ≤ length p) × (length p ≤ n)) ps → All (λ p. length p ≤ room) ps
unfolding All
paths_fit_lem n room [] h f = tt
paths_fit_lem n room (p ∷ ps) h f = (omega (arith, f.0.1), paths_fit_lem n room ps h f.1)
