-- The view of an anchor's letters: which bytes it is, that the two files' letters are the same, and when it is empty.
-- Assumes nothing.
use Prim.Native.Nat.{ℕ, zero, suc, ◌+◌, ◌-◌, ◌≤◌, ◌<◌}
use mathlib.Core.Path.{◌≡◌, refl, sym, ap, ap₂, ◌∙◌}
use mathlib.Core.Logic.{◌⊎◌, inl, inr, ◌↔◌}
use mathlib.Core.List.{List, [], ◌∷◌, ◌++◌, append_assoc}
use mathlib.Core.Bool.{Bool, true, false, ◌&&◌}
use native.Mathlib.Omega.{arith}
use native.Mathlib.Decide.{ℕ_discrete}
use lib.ListN.{length, get_or, take, drop, length-drop}
use lib.Seq.{drop-drop, drop-append_seam, drop-append-le, take-append-le, length-take-le, get_or-take, get_or-drop, ext_get_or}
use lib.Dec.{leb}
use borrow.Author.Tests.{le-leb, lt-leb, ne_eqb}
use Rattle.wire.specs.Cases.{pick}
use Rattle.wire.specs.Found.{Reply, accepted, refused}
use Rattle.wire.specs.Letters.{agree}
use Rattle.wire.specs.Numbers.{encode}
use Rattle.wire.specs.Refusals.{graph_file, anchor_file}
use Rattle.wire.proofs.Alphabet.{agree_same}
use Rattle.wire.proofs.Encoding.{split}
use Rattle.wire.proofs.NumberLaws.{Bytes, number-within}
use Rattle.graph.specs.Content.{vertex_count}
use Rattle.graph.specs.Encode.{encode_labels}
use Rattle.graph.proofs.Accepting.{letters-read}
use Rattle.graph.proofs.Parted.{parts}
use Rattle.graph.proofs.RoundTrips.{all_at}
use Rattle.anchors.specs.Anchors.{Anchor, d, read_length, anchor_count}
use Rattle.anchors.specs.AnchorRules.{label_of, no_anchor}
use Rattle.anchors.specs.AnchorEntries.{Both, both_reply}
use Rattle.anchors.specs.GoodAnchors.{GoodAnchor}
use Rattle.anchors.specs.View.{View, empty_view, anchor_numbered, label_start, view_in, view_of, bytes_of, letters_view}
use Rattle.anchors.proofs.AnchorAccepting.{anchor_parts}
use Rattle.anchors.proofs.BothFiles.{BothTaken, both-taken, both-good}

-- ---- parts of lists

-- a part of what stands at a place of a file
part_of : (s : List ℕ) (at : ℕ) (l rest : List ℕ) (from len : ℕ) → drop at s ≡ l ++ rest → from + len ≤ length l
    → take len (drop (at + from) s) ≡ take len (drop from l)
part_of s at l rest from len e h =
    let n = length-drop from l in
    ap (take len) (sym (drop-drop from at s) ∙ ap (drop from) e ∙ drop-append-le from l rest (omega arith))
    ∙ take-append-le len (drop from l) rest (omega arith)

part_at : (len from : ℕ) (l : List ℕ) (i : ℕ) → i < len → get_or (take len (drop from l)) i 0 ≡ get_or l (from + i) 0
part_at len from l i h = get_or-take len (drop from l) i 0 h ∙ get_or-drop from l i 0

part_length : (len from : ℕ) (l : List ℕ) → from + len ≤ length l → length (take len (drop from l)) ≡ len
part_length len from l h = length-take-le len (drop from l) (omega (arith, length-drop from l))

-- the labels, around label i
labels_around : (ls : List (List ℕ)) (i : ℕ) → i < length ls
    → (rest : List ℕ) × (encode_labels ls ≡ encode_labels (take i ls) ++ (encode (length (get_or ls i [])) ++ (get_or ls i [] ++ rest)))
unfolding encode_labels
labels_around [] i h = absurd (omega arith)
labels_around (l ∷ ls) zero h = (encode_labels ls, refl)
labels_around (l ∷ ls) (suc i) h =
    let t = labels_around ls i (omega arith) in (
      t.0,
      ap (λ (u : List ℕ). encode (length l) ++ (l ++ u)) t.1
          ∙ sym (append_assoc (encode (length l)) (l ++ encode_labels (take i ls)) _
          ∙ ap (λ (u : List ℕ). encode (length l) ++ u) (append_assoc l (encode_labels (take i ls)) _)),
    )

regrouped : (a b c d e : List ℕ) → (a ++ (b ++ (c ++ d))) ++ e ≡ a ++ (b ++ (c ++ (d ++ e)))
regrouped a b c d e = simp append_assoc

-- after two parts of a file comes the rest
after_two : (s : List ℕ) (at : ℕ) (a b rest : List ℕ) → drop at s ≡ a ++ (b ++ rest) → drop (at + length a + length b) s ≡ rest
after_two s at a b rest e =
    sym (drop-drop (length b) (at + length a) s)
    ∙ ap (drop (length b)) (sym (drop-drop (length a) at s) ∙ ap (drop (length a)) e ∙ drop-append_seam a (b ++ rest))
    ∙ drop-append_seam b rest

-- ---- where the letters stand

-- the letters of a label stand in the graph file at the label's start
pub label_stands : (graph file : List ℕ) (p : Both) → Bytes graph → BothTaken graph file p → (v : ℕ) → 1 ≤ v → v ≤ vertex_count p.graph.graph
    → (rest : List ℕ) × (drop (label_start p v) graph ≡ label_of p.graph.graph v ++ rest)
unfolding label_start
label_stands graph file p b t v h k =
    let f = (parts graph p.graph t.graph_is).front in
    let ls : List (List ℕ) = p.graph.graph.labels in
    let l : List ℕ = label_of p.graph.graph v in
    let a = labels_around ls (v - 1) (omega arith) in
    let e =
    f.labels_hold.bytes b
    ∙ ap (λ (u : List ℕ). u ++ drop f.labels_end graph) a.1
    ∙ regrouped (encode_labels (take (v - 1) ls)) (encode (length l)) l a.0 (drop f.labels_end graph)
    in
    (a.0 ++ drop f.labels_end graph, after_two graph p.graph.labels_at (encode_labels (take (v - 1) ls)) (encode (length l)) _ e)

-- the letters of the read stand in the anchor file at its start
pub read_stands : (graph file : List ℕ) (p : Both) → BothTaken graph file p
    → (rest : List ℕ) × (drop p.anchors.read_at file ≡ p.anchors.set.read ++ rest)
read_stands graph file p t =
    let q = anchor_parts p.graph.graph file p.anchors t.anchors_is in
    let w = number-within file q.length_at (read_length p.anchors.set) _ q.length_is in
    let l = letters-read (read_length p.anchors.set) file p.anchors.read_at p.anchors.set.read w.1 q.read_is in
    (drop (p.anchors.read_at + read_length p.anchors.set) file, l.bytes)

-- ---- the view of an anchor that there is

module _ (graph file : List ℕ) (p : Both) (taken : both_reply graph file ≡ accepted p) (j : ℕ) (some : 1 ≤ j) (few : j ≤ anchor_count p.anchors.set) where
  -- anchor number j keeps the rules
  pub view_anchor : GoodAnchor p.graph.graph p.anchors.set.read (anchor_numbered p j)
  view_anchor =
      let k = both-good graph file p (both-taken graph file p taken) in
      all_at (GoodAnchor p.graph.graph p.anchors.set.read) p.anchors.set.anchors (j - 1) no_anchor k.1.each (omega arith)

  -- in the graph file: the letters x..y of the label
  pub view_label : Bytes graph
      → letters_view graph file j graph_file
      ≡ take (anchor_numbered p j).len (drop ((anchor_numbered p j).x - 1) (label_of p.graph.graph (anchor_numbered p j).v))
  unfolding letters_view view_in
  view_label b =
      let a : Anchor = anchor_numbered p j in
      let h = view_anchor in
      let e = label_stands graph file p b (both-taken graph file p taken) a.v h.vertex.0 h.vertex.1 in
      let i = h.in_label in
      let n = h.some_length in
      let x = h.some_x in
      simp (taken, le-leb 1 j some, le-leb j (anchor_count p.anchors.set) few)
      (part_of graph (label_start p a.v) (label_of p.graph.graph a.v) e.0 (a.x - 1) a.len e.1 (omega arith))

  -- in the anchor file: the letters c..d of the read
  pub view_read : letters_view graph file j anchor_file ≡ take (anchor_numbered p j).len (drop ((anchor_numbered p j).c - 1) p.anchors.set.read)
  unfolding letters_view view_in
  view_read =
      let a : Anchor = anchor_numbered p j in
      let h = view_anchor in
      let e = read_stands graph file p (both-taken graph file p taken) in
      let i = h.in_read in
      let n = h.some_length in
      let c = h.some_c in
      simp (taken, le-leb 1 j some, le-leb j (anchor_count p.anchors.set) few)
      (part_of file p.anchors.read_at p.anchors.set.read e.0 (a.c - 1) a.len e.1 (omega arith))

  -- letter by letter the two agree: "Label letters x..y of v equal read letters c..d."
  pub view_agree : Bytes graph → (i : ℕ) → i < (anchor_numbered p j).len
      → agree (get_or (letters_view graph file j graph_file) i 0) (get_or (letters_view graph file j anchor_file) i 0) ≡ true
  view_agree b i h =
      let a : Anchor = anchor_numbered p j in
      ap₂ (λ (s t : ℕ). agree s t)
      (ap (λ (l : List ℕ). get_or l i 0) (view_label b) ∙ part_at a.len (a.x - 1) (label_of p.graph.graph a.v) i h)
      (ap (λ (l : List ℕ). get_or l i 0) view_read ∙ part_at a.len (a.c - 1) p.anchors.set.read i h)
      ∙ view_anchor.letters i h

  -- each has the anchor's length
  pub view_lengths : Bytes graph
      → (length (letters_view graph file j graph_file) ≡ (anchor_numbered p j).len) × (length (letters_view graph file j anchor_file) ≡ (anchor_numbered p j).len)
  view_lengths b =
      let a : Anchor = anchor_numbered p j in
      let h = view_anchor in
      let il = h.in_label in
      let ir = h.in_read in
      let n = h.some_length in
      let x = h.some_x in
      let c = h.some_c in (
        ap length (view_label b) ∙ part_length a.len (a.x - 1) (label_of p.graph.graph a.v) (omega arith),
        ap length view_read ∙ part_length a.len (a.c - 1) p.anchors.set.read (omega arith),
      )

  -- so they are the same letters
  pub view_same : Bytes graph → letters_view graph file j graph_file ≡ letters_view graph file j anchor_file
  view_same b =
      let l = view_lengths b in
      ext_get_or 0 (letters_view graph file j graph_file) (letters_view graph file j anchor_file) (l.0 ∙ sym l.1) (λ i h.
      (agree_same (get_or (letters_view graph file j graph_file) i 0) (get_or (letters_view graph file j anchor_file) i 0) (view_agree b i (omega arith))).0)

-- ---- when the view is empty

-- "a file is refused, the anchor's number is not 1 to N, or the file named is neither"
abbrev pub NoView : List ℕ → List ℕ → ℕ → ℕ → Type 0
NoView graph file j named =
    ((k : ℕ) × (f : ℕ) × (place : ℕ) × (both_reply graph file ≡ refused k f place))
    ⊎ ((p : Both) × (both_reply graph file ≡ accepted p) × ((j ≡ 0) ⊎ (anchor_count p.anchors.set < j)))
    ⊎ ((named ≡ graph_file → ⊥) × (named ≡ anchor_file → ⊥))

-- an anchor's letters are some: its view is not the empty one
view_some : (graph file : List ℕ) (p : Both) (j named : ℕ) → both_reply graph file ≡ accepted p → 1 ≤ j → j ≤ anchor_count p.anchors.set
    → (named ≡ graph_file) ⊎ (named ≡ anchor_file) → view_in p j named ≡ empty_view → ⊥
unfolding view_in
view_some graph file p j named e h k (inl n) v =
    let g = (view_anchor graph file p e j h k).some_length in
    let w = simp (n, le-leb 1 j h, le-leb j (anchor_count p.anchors.set) k) at v in
    omega (arith, ap (λ (u : View). u.len) w)
view_some graph file p j named e h k (inr n) v =
    let g = (view_anchor graph file p e j h k).some_length in
    let w = simp (n, le-leb 1 j h, le-leb j (anchor_count p.anchors.set) k) at v in
    omega (arith, ap (λ (u : View). u.len) w)

view_none : (p : Both) (j named : ℕ) → (j ≡ 0) ⊎ (anchor_count p.anchors.set < j) → view_in p j named ≡ empty_view
unfolding view_in
view_none p j named (inl h) = simp (lt-leb 1 j (omega arith))
view_none p j named (inr h) = simp (lt-leb j (anchor_count p.anchors.set) h, le-leb 1 j (omega arith))

view_neither : (p : Both) (j named : ℕ) → (named ≡ graph_file → ⊥) → (named ≡ anchor_file → ⊥) → view_in p j named ≡ empty_view
unfolding view_in
view_neither p j named h k = simp (ne_eqb named graph_file h, ne_eqb named anchor_file k) (either_way (◌&&◌ (leb 1 j) (leb j (anchor_count p.anchors.set))))
  where
    either_way : (t : Bool) → pick t empty_view empty_view ≡ empty_view
    either_way true = refl
    either_way false = refl

-- which of the cases it is
view_cases : (p : Both) (j named : ℕ) → ((j ≡ 0) ⊎ (anchor_count p.anchors.set < j)) ⊎ ((named ≡ graph_file → ⊥) × (named ≡ anchor_file → ⊥))
    ⊎ ((1 ≤ j) × (j ≤ anchor_count p.anchors.set) × ((named ≡ graph_file) ⊎ (named ≡ anchor_file)))
view_cases p j named =
    split 1 j
    (λ h.
    split j (anchor_count p.anchors.set)
    (λ k.
    elim (ℕ_discrete named graph_file) [
      | yes e ↦ inr (inr (h, k, inl e))
      | no n ↦ elim (ℕ_discrete named anchor_file) [
        | yes e ↦ inr (inr (h, k, inr e))
        | no m ↦ inr (inl (n, m))
      ]
    ])
    (λ k. inl (inr k)))
    (λ h. inl (inl (omega arith)))

-- "the empty part at the front of the graph file is handed back exactly when a file is refused, the anchor's number is not 1 to N, or the file
-- named is neither"
pub view_empty : (graph file : List ℕ) (j named : ℕ) → (view_of (both_reply graph file) j named ≡ empty_view) ↔ NoView graph file j named
view_empty graph file j named = (λ v. empty_no (both_reply graph file) refl v, no_empty)
  where
    empty_no : (r : Reply Both) → both_reply graph file ≡ r → view_of r j named ≡ empty_view → NoView graph file j named
    empty_no (refused k f place) e v = inl (k, f, place, e)
    empty_no (accepted p) e v =
        elim (view_cases p j named) [
          | inl h ↦ inr (inl (p, e, h))
          | inr (inl h) ↦ inr (inr h)
          | inr (inr h) ↦ absurd (view_some graph file p j named e h.0 h.1 h.2 v)
        ]

    neither : (r : Reply Both) → (named ≡ graph_file → ⊥) → (named ≡ anchor_file → ⊥) → view_of r j named ≡ empty_view
    neither (refused k f place) h i = refl
    neither (accepted p) h i = view_neither p j named h i

    no_empty : NoView graph file j named → view_of (both_reply graph file) j named ≡ empty_view
    no_empty (inl (k, f, place, e)) = ap (λ (r : Reply Both). view_of r j named) e
    no_empty (inr (inl (p, e, h))) = ap (λ (r : Reply Both). view_of r j named) e ∙ view_none p j named h
    no_empty (inr (inr (h, i))) = neither (both_reply graph file) h i

-- and then no letters are handed back
pub view_no_letters : (graph file : List ℕ) (j named : ℕ) → NoView graph file j named → letters_view graph file j named ≡ []
unfolding letters_view
view_no_letters graph file j named h = ap (λ (w : View). bytes_of w graph file) ((view_empty graph file j named).1 h)
