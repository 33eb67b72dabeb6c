-- What was read of a section: how many entries, that they keep the rules, where the section ends, and that its bytes are their encoding.
-- Assumes nothing.
use Prim.Native.Nat.{ℕ, zero, suc, ◌+◌, ◌≤◌, ◌<◌}
use mathlib.Core.Path.{◌≡◌, refl, sym, ap, ap₂, ◌∙◌}
use mathlib.Core.List.{List, [], ◌∷◌, ◌++◌, flatten, Memᴰ, append_assoc}
use mathlib.Core.Bool.{true}
use native.Mathlib.Omega.{arith}
use native.Mathlib.Numerals.{add-one}
use native.Mathlib.Nat.{add-zero}
use lib.ListN.{length, get_or, drop, length-append}
use lib.Seq.{drop-cons}
use Rattle.wire.specs.Found.{good, Part}
use Rattle.wire.specs.Letters.{is_letter}
use Rattle.wire.specs.Numbers.{encode}
use Rattle.wire.specs.Sizes.{most_letters}
use Rattle.wire.proofs.NumberLaws.{Bytes, number-value, number-within}
use Rattle.graph.specs.Content.{Edge}
use Rattle.graph.specs.Good.{All, Next, Vertex, EdgeBelow}
use Rattle.graph.specs.Rules.{is_step}
use Rattle.graph.specs.Encode.{encode_labels, encode_numbers, encode_edges, encode_paths}
use Rattle.graph.specs.Reading.{letters_from, labels_from, edges_from, vertices_from, paths_from}
use Rattle.graph.proofs.Steps.{letters-step, LabelStep, labels-step, EdgeStep, edges_step, VertexStep, vertices-step, PathStep, paths-step, letters-none, labels-none, edges_none, vertices-none, paths-none}
use Rattle.graph.proofs.Kept.{range_kept, length_kept, letter_kept, edge_kept, vertex_kept, step-edge}

-- ---- a list in two parts, and a third after it

joined : (a b c d e : List ℕ) → a ≡ b ++ d → d ≡ c ++ e → a ≡ (b ++ c) ++ e
joined a b c d e p q = p ∙ ap (λ (t : List ℕ). b ++ t) q ∙ sym (append_assoc b c e)

joined3 : (a b c d : List ℕ) (f g h : List ℕ) → a ≡ b ++ f → f ≡ c ++ g → g ≡ d ++ h → a ≡ (b ++ (c ++ d)) ++ h
joined3 a b c d f g h p q r = joined a b (c ++ d) f h p (joined f c d g h q r)

-- ---- letters

-- what is known of letters that were read
pub record LettersRead (left : ℕ) (s : List ℕ) (at : ℕ) (r : List ℕ) : Type 0 where
  pub count : length r ≡ left
  pub within : at + left ≤ length s
  pub letters : All (λ b. is_letter b ≡ true) r
  pub bytes : drop at s ≡ r ++ drop (at + left) s

pub letters-read : (left : ℕ) (s : List ℕ) (at : ℕ) (r : List ℕ) → at ≤ length s → letters_from left s at ≡ good r → LettersRead left s at r
unfolding All
letters-read zero s at r h e =
    rw (letters-none s at r e)
    (record { count = refl; within = omega arith; letters = tt; bytes = ap (λ (k : ℕ). drop k s) (sym (add-zero at)) })
letters-read (suc left) s at r h e =
    let t = letters-step left s at r e in
    let i = letters-read left s (at + 1) t.rest (omega (arith, t.there)) t.rest_is in
    let k : at + 1 + left ≡ at + suc left = omega arith in
    rw t.whole
    (record {
      count = ap suc i.count;
      within = omega (arith, i.within);
      letters = (letter_kept (get_or s at 0) t.kept, i.letters);
      bytes = drop-cons s at 0 t.there
          ∙ ap (λ (l : List ℕ). get_or s at 0 ∷ l) (ap (λ (j : ℕ). drop j s) (sym (add-one at)) ∙ i.bytes ∙ ap (λ (j : ℕ). t.rest ++ drop j s) k);
    })

-- ---- labels

-- what is known of labels that were read after labels of `sum` letters together
pub record LabelsRead (left sum : ℕ) (s : List ℕ) (at : ℕ) (r : Part (List (List ℕ))) : Type 0 where
  pub count : length r.content ≡ left
  pub within : r.next ≤ length s
  pub some : All (λ l. 1 ≤ length l) r.content
  pub few : sum ≤ most_letters → sum + length (flatten r.content) ≤ most_letters
  pub letters : All (λ l. All (λ b. is_letter b ≡ true) l) r.content
  pub bytes : Bytes s → drop at s ≡ encode_labels r.content ++ drop r.next s

labels-more : (left sum : ℕ) (s : List ℕ) (at : ℕ) (r : Part (List (List ℕ))) (t : LabelStep left sum s at r)
    → LettersRead t.len s t.a t.label → LabelsRead left (sum + t.len) s (t.a + t.len) t.rest
    → LabelsRead (suc left) sum s at r
unfolding All encode_labels flatten
labels-more left sum s at r t l i =
    let k = length_kept sum t.len t.kept in
    let q : r ≡ record { content = t.label ∷ t.rest.content; next = t.rest.next } =
    ap₂ (λ (c : List (List ℕ)) (n : ℕ). record { content = c; next = n }) t.content t.next in
    rw q
    (record {
      count = ap suc i.count;
      within = i.within;
      some = (omega (arith, l.count), i.some);
      few = λ h. rw (length-append t.label (flatten t.rest.content)) (omega (arith, l.count, i.few k.1));
      letters = (l.letters, i.letters);
      bytes = λ b.
          joined3 (drop at s) (encode (length t.label)) t.label (encode_labels t.rest.content)
          (drop t.a s) (drop (t.a + t.len) s) (drop t.rest.next s)
          (rw l.count (number-value s at t.len t.a b t.len_is).suffix)
          l.bytes (i.bytes b);
    })

pub labels-read : (left sum : ℕ) (s : List ℕ) (at : ℕ) (r : Part (List (List ℕ))) → at ≤ length s → labels_from left sum s at ≡ good r
    → LabelsRead left sum s at r
unfolding All encode_labels flatten
labels-read zero sum s at r h e =
    rw (labels-none sum s at r e)
    (record { count = refl; within = h; some = tt; few = λ k. omega arith; letters = tt; bytes = λ b. refl })
labels-read (suc left) sum s at r h e =
    let t = labels-step left sum s at r e in
    let w = number-within s at t.len t.a t.len_is in
    let l = letters-read t.len s t.a t.label w.1 t.label_is in
    labels-more left sum s at r t l (labels-read left (sum + t.len) s (t.a + t.len) t.rest l.within t.rest_is)

-- ---- edges

pub next_more : {A : Type 0} (R : A → A → Type 0) (x y : A) (ys : List A) → R x y → Next R (y ∷ ys) → Next R (x ∷ (y ∷ ys))
unfolding Next
next_more R x y ys h k = (h, k)

pub next_tail : {A : Type 0} (R : A → A → Type 0) (x : A) (xs : List A) → Next R (x ∷ xs) → Next R xs
unfolding Next
next_tail R x [] h = tt
next_tail R x (y ∷ ys) h = h.1

-- what is known of edges that were read after the edge `last`
pub record EdgesRead (n left : ℕ) (last : Edge) (s : List ℕ) (at : ℕ) (r : Part (List Edge)) : Type 0 where
  pub count : length r.content ≡ left
  pub within : r.next ≤ length s
  pub vertices : All (λ e. Vertex n e.from × Vertex n e.to) r.content
  pub rise : Next EdgeBelow (last ∷ r.content)
  pub bytes : Bytes s → drop at s ≡ encode_edges r.content ++ drop r.next s

edges_more : (n left : ℕ) (last : Edge) (s : List ℕ) (at : ℕ) (r : Part (List Edge)) (t : EdgeStep n left last s at r)
    → EdgesRead n left (record { from = t.u; to = t.v }) s t.b t.rest
    → EdgesRead n (suc left) last s at r
unfolding All encode_edges
edges_more n left last s at r t i =
    let e : Edge = record { from = t.u; to = t.v } in
    let k = edge_kept n last e t.kept in
    let q : r ≡ record { content = e ∷ t.rest.content; next = t.rest.next } =
    ap₂ (λ (c : List Edge) (n : ℕ). record { content = c; next = n }) t.content t.next in
    rw q
    (record {
      count = ap suc i.count;
      within = i.within;
      vertices = ((k.0, k.1), i.vertices);
      rise = next_more EdgeBelow last e t.rest.content k.2 i.rise;
      bytes = λ b.
          joined3 (drop at s) (encode t.u) (encode t.v) (encode_edges t.rest.content)
          (drop t.a s) (drop t.b s) (drop t.rest.next s)
          (number-value s at t.u t.a b t.u_is).suffix
          (number-value s t.a t.v t.b b t.v_is).suffix
          (i.bytes b);
    })

pub edges-read : (n left : ℕ) (last : Edge) (s : List ℕ) (at : ℕ) (r : Part (List Edge)) → at ≤ length s → edges_from n left last s at ≡ good r
    → EdgesRead n left last s at r
unfolding All Next encode_edges
edges-read n zero last s at r h e =
    rw (edges_none n last s at r e) (record { count = refl; within = h; vertices = tt; rise = tt; bytes = λ b. refl })
edges-read n (suc left) last s at r h e =
    let t = edges_step n left last s at r e in
    let w = number-within s t.a t.v t.b t.v_is in
    edges_more n left last s at r t (edges-read n left (record { from = t.u; to = t.v }) s t.b t.rest w.1 t.rest_is)

-- ---- a path's vertices

-- what is known of a path's vertices that were read after the vertex `last`, or 0
pub record VerticesRead (n : ℕ) (es : List Edge) (left last : ℕ) (s : List ℕ) (at : ℕ) (r : Part (List ℕ)) : Type 0 where
  pub count : length r.content ≡ left
  pub within : r.next ≤ length s
  pub vertices : All (Vertex n) r.content
  pub rise : Next ◌<◌ (last ∷ r.content)
  pub steps : Next (λ u v. is_step es u v ≡ true) (last ∷ r.content)
  pub bytes : Bytes s → drop at s ≡ encode_numbers r.content ++ drop r.next s

vertices-more : (n : ℕ) (es : List Edge) (left last : ℕ) (s : List ℕ) (at : ℕ) (r : Part (List ℕ)) (t : VertexStep n es left last s at r)
    → VerticesRead n es left t.v s t.a t.rest
    → VerticesRead n es (suc left) last s at r
unfolding All encode_numbers
vertices-more n es left last s at r t i =
    let k = vertex_kept n es last t.v t.kept in
    let q : r ≡ record { content = t.v ∷ t.rest.content; next = t.rest.next } =
    ap₂ (λ (c : List ℕ) (n : ℕ). record { content = c; next = n }) t.content t.next in
    rw q
    (record {
      count = ap suc i.count;
      within = i.within;
      vertices = (k.0, i.vertices);
      rise = next_more ◌<◌ last t.v t.rest.content k.1 i.rise;
      steps = next_more (λ u v. is_step es u v ≡ true) last t.v t.rest.content k.2 i.steps;
      bytes = λ b.
          joined (drop at s) (encode t.v) (encode_numbers t.rest.content) (drop t.a s) (drop t.rest.next s)
          (number-value s at t.v t.a b t.v_is).suffix
          (i.bytes b);
    })

pub vertices-read : (n : ℕ) (es : List Edge) (left last : ℕ) (s : List ℕ) (at : ℕ) (r : Part (List ℕ)) → at ≤ length s
    → vertices_from n es left last s at ≡ good r → VerticesRead n es left last s at r
unfolding All Next encode_numbers
vertices-read n es zero last s at r h e =
    rw (vertices-none n es last s at r e)
    (record { count = refl; within = h; vertices = tt; rise = tt; steps = tt; bytes = λ b. refl })
vertices-read n es (suc left) last s at r h e =
    let t = vertices-step n es left last s at r e in
    let w = number-within s at t.v t.a t.v_is in
    vertices-more n es left last s at r t (vertices-read n es left t.v s t.a t.rest w.1 t.rest_is)

-- the steps of a path's vertices are edges
pub steps_edges : (n : ℕ) (es : List Edge) (p : List ℕ) → All (Vertex n) p → Next (λ u v. is_step es u v ≡ true) p
    → Next (λ u v. Memᴰ (record { from = u; to = v }) es) p
unfolding All Next
steps_edges n es [] a h = tt
steps_edges n es (u ∷ []) a h = tt
steps_edges n es (u ∷ (v ∷ p)) a h = (step-edge es u v a.0.0 h.0, steps_edges n es (v ∷ p) a.1 h.1)

-- ---- paths

-- what is known of paths that were read
pub record PathsRead (n : ℕ) (es : List Edge) (left : ℕ) (s : List ℕ) (at : ℕ) (r : Part (List (List ℕ))) : Type 0 where
  pub count : length r.content ≡ left
  pub within : r.next ≤ length s
  pub lengths : All (λ p. (1 ≤ length p) × (length p ≤ n)) r.content
  pub vertices : All (λ p. All (Vertex n) p) r.content
  pub rise : All (λ p. Next ◌<◌ p) r.content
  pub steps : All (λ p. Next (λ u v. Memᴰ (record { from = u; to = v }) es) p) r.content
  pub bytes : Bytes s → drop at s ≡ encode_paths r.content ++ drop r.next s

paths-more : (n : ℕ) (es : List Edge) (left : ℕ) (s : List ℕ) (at : ℕ) (r : Part (List (List ℕ))) (t : PathStep n es left s at r)
    → VerticesRead n es t.count 0 s t.a t.path → PathsRead n es left s t.path.next t.rest
    → PathsRead n es (suc left) s at r
unfolding All encode_paths
paths-more n es left s at r t p i =
    let k = range_kept 1 n t.count t.kept in
    let vs : List ℕ = t.path.content in
    let q : r ≡ record { content = vs ∷ t.rest.content; next = t.rest.next } =
    ap₂ (λ (c : List (List ℕ)) (n : ℕ). record { content = c; next = n }) t.content t.next in
    rw q
    (record {
      count = ap suc i.count;
      within = i.within;
      lengths = ((omega (arith, p.count), omega (arith, p.count)), i.lengths);
      vertices = (p.vertices, i.vertices);
      rise = (next_tail ◌<◌ 0 vs p.rise, i.rise);
      steps = (steps_edges n es vs p.vertices (next_tail (λ u v. is_step es u v ≡ true) 0 vs p.steps), i.steps);
      bytes = λ b.
          joined3 (drop at s) (encode (length vs)) (encode_numbers vs) (encode_paths t.rest.content)
          (drop t.a s) (drop t.path.next s) (drop t.rest.next s)
          (rw p.count (number-value s at t.count t.a b t.count_is).suffix)
          (p.bytes b) (i.bytes b);
    })

pub paths-read : (n : ℕ) (es : List Edge) (left : ℕ) (s : List ℕ) (at : ℕ) (r : Part (List (List ℕ))) → at ≤ length s
    → paths_from n es left s at ≡ good r → PathsRead n es left s at r
unfolding All Next encode_paths
paths-read n es zero s at r h e =
    rw (paths-none n es s at r e)
    (record { count = refl; within = h; lengths = tt; vertices = tt; rise = tt; steps = tt; bytes = λ b. refl })
paths-read n es (suc left) s at r h e =
    let t = paths-step n es left s at r e in
    let w = number-within s at t.count t.a t.count_is in
    let p = vertices-read n es t.count 0 s t.a t.path w.1 t.path_is in
    paths-more n es left s at r t p (paths-read n es left s t.path.next t.rest p.within t.rest_is)
