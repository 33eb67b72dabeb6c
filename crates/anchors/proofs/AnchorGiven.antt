-- Content as a caller gives it in lent buffers: what it is where it has no fault, and that good content which lies there is taken.
-- Assumes nothing.
use Prim.Native.Nat.{ℕ, zero, suc, ◌+◌, ◌*◌, ◌≤◌, ◌<◌}
use mathlib.Core.Path.{◌≡◌, refl, sym, ap, ap₂, ◌∙◌, subst}
use mathlib.Core.List.{List, [], ◌∷◌, ◌++◌}
use native.Mathlib.Omega.{arith}
use native.Mathlib.Numerals.{add-one}
use lib.ListN.{length, get_or, take, drop, length-append}
use lib.Seq.{drop-cons, drop-drop, get_or-drop, take-append-add, take-append_seam}
use Rattle.graph.specs.Entries.{numbers_in}
use Rattle.wire.specs.Found.{Found, good, fault, as_content}
use Rattle.wire.specs.Numbers.{encode}
use Rattle.wire.specs.Sizes.{anchor_kind}
use Rattle.graph.specs.Content.{Graph}
use Rattle.graph.specs.Good.{GoodGraph}
use Rattle.graph.proofs.Rereading.{here}
use Rattle.graph.proofs.Givens.{length-numbers, numbers_part}
use Rattle.anchors.specs.Anchors.{Anchor, AnchorSet, numbers_of, per_anchor, anchor_numbers, read_length, anchor_count}
use Rattle.anchors.specs.AnchorBytes.{encode_each, encode_anchors}
use Rattle.anchors.specs.AnchorReading.{ParsedAnchors, whole_anchors}
use Rattle.anchors.specs.GoodAnchors.{GoodAnchors}
use Rattle.anchors.specs.AnchorEntries.{AnchorsGiven, anchor_in, anchors_in, set_in, anchors_given}
use Rattle.anchors.proofs.AnchorWhole.{whole_good}
use Rattle.anchors.proofs.AnchorRereading.{encoded_whole}
use Rattle.anchors.proofs.AnchorWritten.{whole_written}

-- ---- numbers in the used places

-- those at the front
numbers-front : (used more : List ℕ) → numbers_in (length used) 0 (used ++ more) ≡ used
numbers-front used more = sym (numbers_part (length used) 0 (used ++ more) (omega (arith, length-append used more))) ∙ take-append_seam used more

-- ---- anchors in the used places

pub length-anchors : (left i : ℕ) (numbers : List ℕ) → length (anchors_in left i numbers) ≡ left
unfolding anchors_in
length-anchors zero i numbers = refl
length-anchors (suc left) i numbers = ap suc (length-anchors left (i + 1) numbers)

-- the bytes of the content: the kind, r, the read, N, the anchors
pub set-bytes : (c : AnchorsGiven)
    → encode_anchors (set_in c)
    ≡ encode anchor_kind
    ++ (encode c.r
    ++ (numbers_in c.r 0 c.buffers.letters ++ (encode c.n ++ encode_each (anchors_in c.n 0 c.buffers.anchors))))
unfolding encode_anchors
set-bytes c = simp (length-numbers c.r 0 c.buffers.letters, length-anchors c.n 0 c.buffers.anchors)

next_place : (i : ℕ) → per_anchor * (i + 1) ≡ per_anchor * i + per_anchor
next_place i = omega arith

-- one number, and those after it
one_used : (numbers : List ℕ) (p q : ℕ) → p < length numbers → q ≡ p + 1 → drop p numbers ≡ get_or numbers p 0 ∷ drop q numbers
one_used numbers p q h e = drop-cons numbers p 0 h ∙ ap (λ (j : ℕ). get_or numbers p 0 ∷ drop j numbers) (sym (add-one p) ∙ sym e)

-- anchor i is made of the five numbers at its places
anchor_used : (numbers : List ℕ) (i : ℕ) → per_anchor * (i + 1) ≤ length numbers
    → drop (per_anchor * i) numbers ≡ numbers_of (anchor_in numbers i) ++ drop (per_anchor * (i + 1)) numbers
anchor_used numbers i h =
    let p : ℕ = per_anchor * i in
    one_used numbers p (p + 1) (omega arith) refl
    ∙ ap (λ (t : List ℕ). get_or numbers p 0 ∷ t) (one_used numbers (p + 1) (p + 2) (omega arith) (omega arith)
    ∙ ap (λ (t : List ℕ). get_or numbers (p + 1) 0 ∷ t) (one_used numbers (p + 2) (p + 3) (omega arith) (omega arith)
    ∙ ap (λ (t : List ℕ). get_or numbers (p + 2) 0 ∷ t) (one_used numbers (p + 3) (p + 4) (omega arith) (omega arith)
    ∙ ap (λ (t : List ℕ). get_or numbers (p + 3) 0 ∷ t) (one_used numbers (p + 4) (per_anchor * (i + 1)) (omega arith) (omega arith)))))

-- the numbers of anchor i, and of those after it
take_more : (left : ℕ) (numbers : List ℕ) (i : ℕ) → per_anchor * (i + 1) ≤ length numbers
    → take (per_anchor * suc left) (drop (per_anchor * i) numbers)
    ≡ numbers_of (anchor_in numbers i) ++ take (per_anchor * left) (drop (per_anchor * (i + 1)) numbers)
take_more left numbers i h =
    let n : per_anchor * suc left ≡ per_anchor + per_anchor * left = omega arith in
    ap₂ (λ (j : ℕ) (u : List ℕ). take j u) n (anchor_used numbers i h)
    ∙ take-append-add (numbers_of (anchor_in numbers i)) (drop (per_anchor * (i + 1)) numbers) (per_anchor * left)

-- the used places hold the numbers of the anchors
anchors-held : (left i : ℕ) (numbers : List ℕ) → per_anchor * (i + left) ≤ length numbers
    → take (per_anchor * left) (drop (per_anchor * i) numbers) ≡ anchor_numbers (anchors_in left i numbers)
unfolding anchors_in anchor_numbers
anchors-held zero i numbers h = refl
anchors-held (suc left) i numbers h =
    take_more left numbers i (omega arith)
    ∙ ap (λ (u : List ℕ). numbers_of (anchor_in numbers i) ++ u) (anchors-held left (i + 1) numbers (omega arith))

-- the five numbers of an anchor, from its place on
anchor_stands : (numbers : List ℕ) (i : ℕ) (a : Anchor) (rest : List ℕ) → drop (per_anchor * i) numbers ≡ numbers_of a ++ rest → anchor_in numbers i ≡ a
anchor_stands numbers i a rest e =
    let p : ℕ = per_anchor * i in
    let f : (n : ℕ) → get_or numbers (p + n) 0 ≡ get_or (numbers_of a ++ rest) n 0 = λ n. sym (get_or-drop p numbers n 0) ∙ ap (λ (t : List ℕ). get_or t n 0) e in
    let v = (here numbers p a.v _ e).1 in
    let x = f 1 in
    let c = f 2 in
    let l = f 3 in
    let w = f 4 in
    simp (v, x, c, l, w)

-- anchors whose numbers stand from a place on
anchors_stand : (each : List Anchor) (i : ℕ) (numbers rest : List ℕ) → drop (per_anchor * i) numbers ≡ anchor_numbers each ++ rest
    → anchors_in (length each) i numbers ≡ each
unfolding anchors_in anchor_numbers
anchors_stand [] i numbers rest e = refl
anchors_stand (a ∷ each) i numbers rest e =
    let s = anchor_stands numbers i a (anchor_numbers each ++ rest) e in
    let d : drop (per_anchor * (i + 1)) numbers ≡ anchor_numbers each ++ rest =
    ap (λ (j : ℕ). drop j numbers) (next_place i) ∙ sym (drop-drop per_anchor (per_anchor * i) numbers) ∙ ap (drop per_anchor) e
    in
    ap₂ (λ (b : Anchor) (l : List Anchor). b ∷ l) s (anchors_stand each (i + 1) numbers rest d)

-- ---- the content

as_good : {A B : Type 0} (f : A → B) (x : Found A) (b : B) → as_content f x ≡ good b → (a : A) × (x ≡ good a) × (f a ≡ b)
as_good f (good a) b e = (a, refl, cc)
as_good f (fault k place) b e = let z : ◌≡◌ {A = ℕ} 0 1 = cc in absurd (omega arith)

-- content that is given and has no fault is what the used places hold, and it keeps the rules
pub given-set : (g : Graph) (c : AnchorsGiven) (a : AnchorSet) → anchors_given g c ≡ good a → (a ≡ set_in c) × GoodAnchors g a
unfolding anchors_given
given-set g c a e =
    let t = as_good (λ (q : ParsedAnchors). q.set) (whole_anchors g (encode_anchors (set_in c))) a e in
    (sym t.2 ∙ whole_written g (set_in c) t.0 t.1, subst (GoodAnchors g) t.2 (whole_good g (encode_anchors (set_in c)) t.0 t.1))

-- the same, in the words of the buffers
pub record ContentHeld (g : Graph) (c : AnchorsGiven) (a : AnchorSet) : Type 0 where
  pub rules : GoodAnchors g a
  pub letter_count : read_length a ≡ c.r
  pub count : anchor_count a ≡ c.n
  pub read : c.r ≤ length c.buffers.letters → take c.r c.buffers.letters ≡ a.read
  pub anchors : per_anchor * c.n ≤ length c.buffers.anchors → take (per_anchor * c.n) c.buffers.anchors ≡ anchor_numbers a.anchors

pub content-held : (g : Graph) (c : AnchorsGiven) (a : AnchorSet) → anchors_given g c ≡ good a → ContentHeld g c a
content-held g c a e =
    let t = given-set g c a e in
    let read = ap (λ (x : AnchorSet). x.read) t.0 in
    let anchors = ap (λ (x : AnchorSet). x.anchors) t.0 in
    record {
      rules = t.1;
      letter_count = ap length read ∙ length-numbers c.r _ c.buffers.letters;
      count = ap length anchors ∙ length-anchors c.n 0 c.buffers.anchors;
      read = λ h. numbers_part c.r 0 c.buffers.letters (omega arith) ∙ sym read;
      anchors = λ h. anchors-held c.n 0 c.buffers.anchors (omega arith) ∙ ap anchor_numbers (sym anchors);
    }

-- good content over a good graph, which lies at the front of the buffers, is taken
pub content-given : (g : Graph) (c : AnchorsGiven) (a : AnchorSet) (more_letters more_numbers : List ℕ) → GoodGraph g → GoodAnchors g a
    → c.r ≡ read_length a
    → c.n ≡ anchor_count a
    → c.buffers.letters ≡ a.read ++ more_letters
    → c.buffers.anchors ≡ anchor_numbers a.anchors ++ more_numbers
    → anchors_given g c ≡ good a
unfolding anchors_given
content-given g c a ml mn k h er en el ea =
    let l : numbers_in c.r 0 c.buffers.letters ≡ a.read = ap₂ (λ (n : ℕ) (t : List ℕ). numbers_in n 0 t) er el ∙ numbers-front a.read ml in
    let u : anchors_in c.n 0 c.buffers.anchors ≡ a.anchors =
    ap (λ (n : ℕ). anchors_in n 0 c.buffers.anchors) en ∙ anchors_stand a.anchors 0 c.buffers.anchors mn ea
    in
    let s : set_in c ≡ a = ap₂ (λ (t : List ℕ) (v : List Anchor). record { read = t; anchors = v }) l u in
    ap (λ (x : AnchorSet). as_content (λ (q : ParsedAnchors). q.set) (whole_anchors g (encode_anchors x))) s
    ∙ ap (as_content (λ (q : ParsedAnchors). q.set)) (encoded_whole g a k h)
