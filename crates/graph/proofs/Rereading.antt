-- What was written is read back: of a graph that keeps the rules, the encoding is accepted, and its content is that graph.
-- Assumes nothing.
use Prim.Native.Nat.{ℕ, suc, ◌+◌, ◌^◌, ◌≤◌, ◌<◌}
use mathlib.Core.Path.{◌≡◌, refl, sym, ap, ◌∙◌}
use mathlib.Core.List.{List, [], ◌∷◌, ◌++◌, flatten, Memᴰ, append_assoc}
use mathlib.Core.Bool.{true}
use native.Mathlib.Omega.{arith}
use native.Mathlib.Nat.{add-zero}
use lib.ListN.{length, get_or, drop, length-append, length-drop}
use lib.Seq.{drop-drop, get_or-drop}
use borrow.Author.Tests.{lt-ltb}
use Rattle.wire.specs.Found.{Found, good, Part}
use Rattle.wire.specs.Letters.{is_letter}
use Rattle.wire.specs.Numbers.{encode, number_at}
use Rattle.wire.specs.Sizes.{most_letters}
use Rattle.wire.proofs.NumberLaws.{number_suffix}
use Rattle.graph.specs.Content.{Edge}
use Rattle.graph.specs.Good.{All, Next, Vertex, EdgeBelow}
use Rattle.graph.specs.Rules.{is_step, length_fault, edge_fault, vertex_fault, path_length_fault}
use Rattle.graph.specs.Encode.{encode_labels, encode_numbers, encode_edges, encode_paths}
use Rattle.graph.specs.Reading.{letters_from, labels_from, edges_from, vertices_from, paths_from}
use Rattle.graph.proofs.Kept.{range_free, length_free, edge_free, vertex_free, first_step, edge-step}

-- a section is read at a place where its bytes stand, and what follows them is left
pub record Again {A : Type 0} (x : Found (Part A)) (content : A) (s : List ℕ) (at : ℕ) (bytes rest : List ℕ) : Type 0 where
  pub found : x ≡ good (record { content = content; next = at + length bytes })
  pub left : drop (at + length bytes) s ≡ rest

-- ---- letters

-- what stands at a place
pub here : (s : List ℕ) (at b : ℕ) (rest : List ℕ) → drop at s ≡ b ∷ rest → (at < length s) × (get_or s at 0 ≡ b) × (drop (at + 1) s ≡ rest)
here s at b rest e =
    let l = length-drop at s in
    let k = ap length e in
    let z : at + 0 ≡ at = omega arith in (
      omega arith,
      ap (λ (j : ℕ). get_or s j 0) (sym z) ∙ sym (get_or-drop at s 0 0) ∙ ap (λ (t : List ℕ). get_or t 0 0) e,
      sym (drop-drop 1 at s) ∙ ap (drop 1) e,
    )

letters-more : (left : ℕ) (s : List ℕ) (at b : ℕ) (l : List ℕ) → at < length s → get_or s at 0 ≡ b → is_letter b ≡ true
    → letters_from left s (at + 1) ≡ good l → letters_from (suc left) s at ≡ good (b ∷ l)
unfolding letters_from
letters-more left s at b l h e k i = simp (lt-ltb at (length s) h, e, k, i)

pub letters_again : (l : List ℕ) (s : List ℕ) (at : ℕ) (rest : List ℕ) → All (λ b. is_letter b ≡ true) l → drop at s ≡ l ++ rest
    → (letters_from (length l) s at ≡ good l) × (drop (at + length l) s ≡ rest)
unfolding letters_from All
letters_again [] s at rest a e = (refl, ap (λ (j : ℕ). drop j s) (add-zero at) ∙ e)
letters_again (b ∷ l) s at rest a e =
    let t = here s at b (l ++ rest) e in
    let i = letters_again l s (at + 1) rest a.1 t.2 in
    let k : at + suc (length l) ≡ at + 1 + length l = omega arith in
    (letters-more (length l) s at b l t.0 t.1 a.0 i.0, ap (λ (j : ℕ). drop j s) k ∙ i.1)

-- ---- labels

-- two places that are the same one
moved : {A : Type 0} {x : Found (Part A)} {content : A} {s : List ℕ} {rest : List ℕ} (at n : ℕ) (bytes : List ℕ)
    → n ≡ at + length bytes → x ≡ good (record { content = content; next = n }) → drop n s ≡ rest → Again x content s at bytes rest
moved {content} {s} at n bytes e f d =
    record {
      found = f ∙ ap (λ (k : ℕ). good (record { content = content; next = k })) e;
      left = ap (λ (k : ℕ). drop k s) (sym e) ∙ d;
    }

labels-more : (left sum : ℕ) (s : List ℕ) (at len a : ℕ) (l : List ℕ) (r : Part (List (List ℕ)))
    → number_at s at ≡ good (record { content = len; next = a })
    → length_fault sum len ≡ 0
    → letters_from len s a ≡ good l
    → labels_from left (sum + len) s (a + len) ≡ good r
    → labels_from (suc left) sum s at ≡ good (record { content = l ∷ r.content; next = r.next })
unfolding labels_from
labels-more left sum s at len a l r e k f i = simp (e, k, f, i)

pub labels_again : (ls : List (List ℕ)) (sum : ℕ) (s : List ℕ) (at : ℕ) (rest : List ℕ)
    → All (λ l. 1 ≤ length l) ls
    → All (λ l. All (λ b. is_letter b ≡ true) l) ls
    → sum + length (flatten ls) ≤ most_letters
    → drop at s ≡ encode_labels ls ++ rest
    → Again (labels_from (length ls) sum s at) ls s at (encode_labels ls) rest
unfolding labels_from All encode_labels flatten
labels_again [] sum s at rest o a few e = moved at at [] (omega arith) refl e
labels_again (l ∷ ls) sum s at rest o a few e =
    let b : List ℕ = encode (length l) in
    let t : length (l ++ flatten ls) ≡ length l + length (flatten ls) = length-append l (flatten ls) in
    let e1 : drop at s ≡ b ++ (l ++ (encode_labels ls ++ rest)) = e ∙ append_assoc b _ rest ∙ ap (λ (u : List ℕ). b ++ u) (append_assoc l _ rest) in
    let n = number_suffix s at (length l) (l ++ (encode_labels ls ++ rest)) (omega arith) e1 in
    let r = letters_again l s (at + length b) (encode_labels ls ++ rest) a.0 n.1 in
    let i = labels_again ls (sum + length l) s (at + length b + length l) rest o.1 a.1 (omega arith) r.1 in
    let k = length-append b (l ++ encode_labels ls) in
    let m = length-append l (encode_labels ls) in
    moved at _ (b ++ (l ++ encode_labels ls)) (omega arith)
    (labels-more (length ls) sum s at (length l) (at + length b) l _ n.0 (length_free sum (length l) o.0 (omega arith)) r.0 i.found)
    i.left

-- ---- edges

edges_more : (n left : ℕ) (last : Edge) (s : List ℕ) (at u a v b : ℕ) (r : Part (List Edge))
    → number_at s at ≡ good (record { content = u; next = a })
    → number_at s a ≡ good (record { content = v; next = b })
    → edge_fault n last (record { from = u; to = v }) ≡ 0
    → edges_from n left (record { from = u; to = v }) s b ≡ good r
    → edges_from n (suc left) last s at ≡ good (record { content = record { from = u; to = v } ∷ r.content; next = r.next })
unfolding edges_from
edges_more n left last s at u a v b r e f k i = simp (e, f, k, i)

pub edges_again : (n : ℕ) (es : List Edge) (last : Edge) (s : List ℕ) (at : ℕ) (rest : List ℕ)
    → n < 2 ^ 32
    → All (λ e. Vertex n e.from × Vertex n e.to) es
    → Next EdgeBelow (last ∷ es)
    → drop at s ≡ encode_edges es ++ rest
    → Again (edges_from n (length es) last s at) es s at (encode_edges es) rest
unfolding edges_from All Next encode_edges
edges_again n [] last s at rest z a h e = moved at at [] (omega arith) refl e
edges_again n (d ∷ es) last s at rest z a h e =
    let b : List ℕ = encode d.from in
    let c : List ℕ = encode d.to in
    let e1 : drop at s ≡ b ++ (c ++ (encode_edges es ++ rest)) = e ∙ append_assoc b _ rest ∙ ap (λ (u : List ℕ). b ++ u) (append_assoc c _ rest) in
    let p = number_suffix s at d.from (c ++ (encode_edges es ++ rest)) (omega (arith, a.0.0.1)) e1 in
    let q = number_suffix s (at + length b) d.to (encode_edges es ++ rest) (omega (arith, a.0.1.1)) p.1 in
    let i = edges_again n es d s (at + length b + length c) rest z a.1 h.1 q.1 in
    let k = length-append b (c ++ encode_edges es) in
    let m = length-append c (encode_edges es) in
    moved at _ (b ++ (c ++ encode_edges es)) (omega arith)
    (edges_more n (length es) last s at d.from _ d.to _ _ p.0 q.0 (edge_free n last d a.0.0 a.0.1 h.0) i.found)
    i.left

-- ---- a path's vertices

vertices-more : (n : ℕ) (es : List Edge) (left last : ℕ) (s : List ℕ) (at v a : ℕ) (r : Part (List ℕ))
    → number_at s at ≡ good (record { content = v; next = a })
    → vertex_fault n es last v ≡ 0
    → vertices_from n es left v s a ≡ good r
    → vertices_from n es (suc left) last s at ≡ good (record { content = v ∷ r.content; next = r.next })
unfolding vertices_from
vertices-more n es left last s at v a r e k i = simp (e, k, i)

pub vertices_again : (n : ℕ) (es : List Edge) (p : List ℕ) (last : ℕ) (s : List ℕ) (at : ℕ) (rest : List ℕ)
    → n < 2 ^ 32
    → All (Vertex n) p
    → Next ◌<◌ (last ∷ p)
    → Next (λ u v. is_step es u v ≡ true) (last ∷ p)
    → drop at s ≡ encode_numbers p ++ rest
    → Again (vertices_from n es (length p) last s at) p s at (encode_numbers p) rest
unfolding vertices_from All Next encode_numbers
vertices_again n es [] last s at rest z a h g e = moved at at [] (omega arith) refl e
vertices_again n es (v ∷ p) last s at rest z a h g e =
    let b : List ℕ = encode v in
    let q = number_suffix s at v (encode_numbers p ++ rest) (omega (arith, a.0.1)) (e ∙ append_assoc b (encode_numbers p) rest) in
    let i = vertices_again n es p v s (at + length b) rest z a.1 h.1 g.1 q.1 in
    let k = length-append b (encode_numbers p) in
    moved at _ (b ++ encode_numbers p) (omega arith)
    (vertices-more n es (length p) last s at v _ _ q.0 (vertex_free n es last v a.0 h.0 g.0) i.found)
    i.left

-- the edges between a path's vertices are steps, and so is the way to its first
pub first-rise : (n : ℕ) (p : List ℕ) → All (Vertex n) p → Next ◌<◌ p → Next ◌<◌ (0 ∷ p)
unfolding All Next
first-rise n [] a h = tt
first-rise n (v ∷ p) a h = (omega (arith, a.0.0), h)

pub edges_steps : (es : List Edge) (p : List ℕ) → Next (λ u v. Memᴰ (record { from = u; to = v }) es) p
    → Next (λ u v. is_step es u v ≡ true) p
unfolding Next
edges_steps es [] h = tt
edges_steps es (u ∷ []) h = tt
edges_steps es (u ∷ (v ∷ p)) h = (edge-step es u v h.0, edges_steps es (v ∷ p) h.1)

pub first_steps : (es : List Edge) (p : List ℕ) → Next (λ u v. is_step es u v ≡ true) p → Next (λ u v. is_step es u v ≡ true) (0 ∷ p)
unfolding Next
first_steps es [] h = tt
first_steps es (v ∷ p) h = (first_step es v, h)

-- ---- paths

paths-more : (n : ℕ) (es : List Edge) (left : ℕ) (s : List ℕ) (at count a : ℕ) (p : Part (List ℕ)) (r : Part (List (List ℕ)))
    → number_at s at ≡ good (record { content = count; next = a })
    → path_length_fault n count ≡ 0
    → vertices_from n es count 0 s a ≡ good p
    → paths_from n es left s p.next ≡ good r
    → paths_from n es (suc left) s at ≡ good (record { content = p.content ∷ r.content; next = r.next })
unfolding paths_from
paths-more n es left s at count a p r e k f i = simp (e, k, f, i)

pub paths_again : (n : ℕ) (es : List Edge) (ps : List (List ℕ)) (s : List ℕ) (at : ℕ) (rest : List ℕ)
    → n < 2 ^ 32
    → All (λ p. (1 ≤ length p) × (length p ≤ n)) ps
    → All (λ p. All (Vertex n) p) ps
    → All (λ p. Next ◌<◌ p) ps
    → All (λ p. Next (λ u v. Memᴰ (record { from = u; to = v }) es) p) ps
    → drop at s ≡ encode_paths ps ++ rest
    → Again (paths_from n es (length ps) s at) ps s at (encode_paths ps) rest
unfolding paths_from All encode_paths
paths_again n es [] s at rest z l a h g e = moved at at [] (omega arith) refl e
paths_again n es (p ∷ ps) s at rest z l a h g e =
    let b : List ℕ = encode (length p) in
    let c : List ℕ = encode_numbers p in
    let e1 : drop at s ≡ b ++ (c ++ (encode_paths ps ++ rest)) = e ∙ append_assoc b _ rest ∙ ap (λ (u : List ℕ). b ++ u) (append_assoc c _ rest) in
    let q = number_suffix s at (length p) (c ++ (encode_paths ps ++ rest)) (omega (arith, l.0.1)) e1 in
    let v = vertices_again n es p 0 s (at + length b) (encode_paths ps ++ rest) z a.0
    (first-rise n p a.0 h.0) (first_steps es p (edges_steps es p g.0)) q.1 in
    let i = paths_again n es ps s (at + length b + length c) rest z l.1 a.1 h.1 g.1 v.left in
    let k = length-append b (c ++ encode_paths ps) in
    let m = length-append c (encode_paths ps) in
    moved at _ (b ++ (c ++ encode_paths ps)) (omega arith)
    (paths-more n es (length ps) s at (length p) _ _ _ q.0 (range_free 1 n (length p) l.0.0 l.0.1) v.found i.found)
    i.left
