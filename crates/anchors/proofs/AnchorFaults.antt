-- A fault of an anchor file: its number is one of 1 to 7 and 10 to 12, and its place is at most the greatest file length. And a refusal of both
-- files: its number is not 0, its file is 1 or 2, and its place is at most the greatest file length.
-- Assumes nothing.
use Prim.Native.Nat.{ℕ, zero, suc, ◌+◌, ◌≤◌}
use mathlib.Core.Path.{◌≡◌, refl, sym, ◌∙◌}
use mathlib.Core.Logic.{◌⊎◌, inl, inr}
use mathlib.Core.List.{List}
use mathlib.Core.Bool.{Bool, true, false, ◌&&◌}
use native.Mathlib.Omega.{arith}
use lib.ListN.{length, get_or}
use lib.Dec.{ltb, leb, eqb}
use borrow.Author.Tests.{ltb-true, leb-true}
use Rattle.wire.specs.Cases.{pick}
use Rattle.wire.specs.Letters.{is_letter}
use Rattle.wire.specs.Found.{fault, Part, refused}
use Rattle.wire.specs.Refusals.{bytes_end, wrong_kind, out_of_range, not_letter, not_rising, left_over, outside, letters_differ, graph_file, anchor_file}
use Rattle.wire.specs.Sizes.{anchor_kind, most_file_bytes, most_read, most_anchors}
use Rattle.wire.proofs.Finding.{Ends, ends_then, ends-number, ends-refuse, ends-pick, ends-fault}
use Rattle.wire.proofs.NumberLaws.{Refusal, number-within}
use Rattle.graph.specs.Content.{Graph}
use Rattle.graph.specs.Rules.{range_fault, letter_fault}
use Rattle.graph.specs.Reading.{letters_from}
use Rattle.graph.proofs.Kept.{passed}
use Rattle.graph.proofs.Faulty.{graph-fault}
use Rattle.anchors.specs.Anchors.{Anchor}
use Rattle.anchors.specs.AnchorRules.{read_fault, anchor_count_fault, anchor_fault, fault_place, no_anchor}
use Rattle.anchors.specs.AnchorReading.{Numbers, numbers_at, anchors_from, ParsedAnchors, whole_anchors, anchors_of}
use Rattle.anchors.specs.AnchorEntries.{both_reply}
use Rattle.anchors.proofs.AnchorSteps.{numbers-within}
use Rattle.anchors.proofs.FileOrder.{Ordered, graph-refused, anchors-refused, both-accepted, ordered}
use Rattle.anchors.proofs.AnchorOrder.{FirstFault, first-vertex, first-outside, first-weight, first-letters, first-order, no_fault, anchor-first}

-- ---- the numbers

-- a refusal number of an anchor file: 1 to 7, or 10 to 12
abbrev pub AnchorNumber : ℕ → Type 0
AnchorNumber k = ((bytes_end ≤ k) × (k ≤ not_rising)) ⊎ ((left_over ≤ k) × (k ≤ letters_differ))

-- it is never 0
pub number-some : (k : ℕ) → AnchorNumber k → 1 ≤ k
number-some k (inl h) = omega arith
number-some k (inr h) = omega arith

-- .. or 0, where the rule is kept
abbrev Told : ℕ → Type 0
Told k = (k ≡ 0) ⊎ AnchorNumber k

none : Told 0
none = inl refl

low : (k : ℕ) → bytes_end ≤ k → k ≤ not_rising → Told k
low k h i = inr (inl (h, i))

high : (k : ℕ) → left_over ≤ k → k ≤ letters_differ → Told k
high k h i = inr (inr (h, i))

told-pick : (b : Bool) (x y : ℕ) → Told x → Told y → Told (pick b x y)
told-pick true x y h i = h
told-pick false x y h i = i

number_of : (k : ℕ) → Told k → (k ≡ 0 → ⊥) → AnchorNumber k
number_of k (inl e) n = absurd (n e)
number_of k (inr h) n = h

-- a refusal number of the content's rules: "4 to 9, 11 and 12", of which 8 and 9 are the graph file's
abbrev pub ContentNumber : ℕ → Type 0
ContentNumber k = ((out_of_range ≤ k) × (k ≤ not_rising)) ⊎ ((outside ≤ k) × (k ≤ letters_differ))

-- .. or 0, where the rule is kept
abbrev pub Ruled : ℕ → Type 0
Ruled k = (k ≡ 0) ⊎ ContentNumber k

ruled_told : (k : ℕ) → Ruled k → Told k
ruled_told k (inl e) = inl e
ruled_told k (inr (inl h)) = low k (omega arith) (omega arith)
ruled_told k (inr (inr h)) = high k (omega arith) (omega arith)

ruled_pick : (b : Bool) (k : ℕ) → ContentNumber k → Ruled (pick b 0 k)
ruled_pick true k h = inl refl
ruled_pick false k h = inr h

pub range_ruled : (lo hi x : ℕ) → Ruled (range_fault lo hi x)
range_ruled lo hi x = ruled_pick (◌&&◌ (leb lo x) (leb x hi)) out_of_range (inl (omega arith, omega arith))

pub letter_ruled : (b : ℕ) → Ruled (letter_fault b)
letter_ruled b = ruled_pick (is_letter b) not_letter (inl (omega arith, omega arith))

-- the numbers of an anchor's rules
first_ruled : (g : Graph) (read : List ℕ) (last a : Anchor) (k : ℕ) → FirstFault g read last a k → Ruled k
first_ruled g read last a k (first-vertex n) = inr (inl (omega arith, omega arith))
first_ruled g read last a k (first-outside v n) = inr (inr (omega arith, omega arith))
first_ruled g read last a k (first-weight v i n) = inr (inl (omega arith, omega arith))
first_ruled g read last a k (first-letters v i w n) = inr (inr (omega arith, omega arith))
first_ruled g read last a k (first-order v i w l n) = inr (inl (omega arith, omega arith))
first_ruled g read last a k (no_fault v i w l o) = inl refl

pub anchor_ruled : (g : Graph) (read : List ℕ) (last a : Anchor) → Ruled (anchor_fault g read last a)
anchor_ruled g read last a = first_ruled g read last a (anchor_fault g read last a) (anchor-first g read last a)

-- ---- the faults

-- the number is one of an anchor file's, and the place is at most `most`
record AnchorFileFault (most k place : ℕ) : Type 0 where
  pub known : AnchorNumber k
  pub near : place ≤ most

made : {most : ℕ} (k place : ℕ) → Told k → (k ≡ 0 → ⊥) → place ≤ most → AnchorFileFault most k place
made k place h n p = record { known = number_of k h n; near = p }

place-near : (b : Bool) (x y m : ℕ) → x ≤ m → y ≤ m → pick b x y ≤ m
place-near true x y m h i = h
place-near false x y m h i = i

module _ (s : List ℕ) (most : ℕ) (short : length s ≤ most) where
  number-known : (at : ℕ) → at ≤ length s → (k p : ℕ) → Refusal (length s) at k p → AnchorFileFault most k p
  number-known at h k p (inl r) = made k p (low k (omega arith) (omega arith)) (λ e. omega arith) (omega arith)
  number-known at h k p (inr r) = made k p (low k (omega arith) (omega arith)) (λ e. omega arith) (omega arith)

  letters-fault : (left at : ℕ) → at ≤ length s → Ends (λ (l : List ℕ). at + left ≤ length s) (AnchorFileFault most) (letters_from left s at)
  unfolding letters_from
  letters-fault zero at h = record { ends = omega arith }
  letters-fault (suc left) at h =
      ends-pick (ltb at (length s)) _ _
      (λ t.
      ends-refuse (letter_fault (get_or s at 0)) at _
      (λ n. made _ at (ruled_told _ (letter_ruled (get_or s at 0))) n (omega arith))
      (λ z.
      ends_then (letters_from left s (at + 1)) _ (letters-fault left (at + 1) (omega (arith, ltb-true)))
      (λ l e w. record { ends = omega arith })))
      (λ t. record { ends = made bytes_end (length s) (low bytes_end (omega arith) (omega arith)) (λ e. omega arith) short })

  numbers-fault : (at : ℕ) → at ≤ length s → Ends (λ (a : Numbers). Unit {0}) (AnchorFileFault most) (numbers_at s at)
  unfolding numbers_at
  numbers-fault at h =
      ends-number s at _ (number-known at h) (λ v a e.
      ends-number s a _ (number-known a (number-within s at v a e).1) (λ x b f.
      ends-number s b _ (number-known b (number-within s a x b f).1) (λ c d i.
      ends-number s d _ (number-known d (number-within s b c d i).1) (λ len l j.
      ends-number s l _ (number-known l (number-within s d len l j).1) (λ weight w k.
      record { ends = tt })))))

  anchors-fault : (g : Graph) (read : List ℕ) (left : ℕ) (last : Anchor) (at : ℕ) → at ≤ length s
      → Ends (λ (r : Part (List Anchor)). r.next ≤ length s) (AnchorFileFault most) (anchors_from g read left last s at)
  unfolding anchors_from
  anchors-fault g read zero last at h = record { ends = h }
  anchors-fault g read (suc left) last at h =
      ends_then (numbers_at s at) _ (numbers-fault at h) (λ a e u.
      let f : ℕ = anchor_fault g read last a.anchor in
      let w = numbers-within s at a e in
      ends-refuse f (fault_place f at a.weight_at) _
      (λ n.
      made f (fault_place f at a.weight_at) (ruled_told _ (anchor_ruled g read last a.anchor)) n
      (place-near (eqb f out_of_range) a.weight_at at most (omega arith) (omega arith)))
      (λ z.
      ends_then (anchors_from g read left a.anchor s a.next) _ (anchors-fault g read left a.anchor a.next w.2) (λ r i v.
      record { ends = v })))

whole_ends : (g : Graph) (s : List ℕ) (most : ℕ) → length s ≤ most → Ends (λ (q : ParsedAnchors). Unit {0}) (AnchorFileFault most) (whole_anchors g s)
unfolding whole_anchors
whole_ends g s most short =
    ends-number s 0 _ (number-known s most short 0 (omega arith)) (λ kind a e.
    ends-refuse (pick (eqb kind anchor_kind) 0 wrong_kind) 0 _
    (λ n. made _ 0 (told-pick (eqb kind anchor_kind) 0 wrong_kind none (low wrong_kind (omega arith) (omega arith))) n (omega arith))
    (λ y.
    let u : a ≤ length s = (number-within s 0 kind a e).1 in
    ends-number s a _ (number-known s most short a u) (λ r b f.
    ends-refuse (read_fault r) a _ (λ n. made _ a (ruled_told _ (range_ruled 1 most_read r)) n (omega arith)) (λ x.
    ends_then (letters_from r s b) _ (letters-fault s most short r b (number-within s a r b f).1) (λ read i v.
    ends-number s (b + r) _ (number-known s most short (b + r) v) (λ n c j.
    ends-refuse (anchor_count_fault n) (b + r) _ (λ m. made _ (b + r) (ruled_told _ (range_ruled 0 most_anchors n)) m (omega arith)) (λ w.
    ends_then (anchors_from g read n no_anchor s c) _
    (anchors-fault s most short g read n no_anchor c (number-within s (b + r) n c j).1)
    (λ p k l.
    ends-refuse (pick (eqb p.next (length s)) 0 left_over) p.next _
    (λ m. made _ p.next (told-pick (eqb p.next (length s)) 0 left_over none (high left_over (omega arith) (omega arith))) m (omega arith))
    (λ t. record { ends = tt })))))))))

-- a fault of bytes that are read as an anchor file, however many they are
pub whole_fault : (g : Graph) (s : List ℕ) (k place : ℕ) → whole_anchors g s ≡ fault k place → AnchorNumber k
whole_fault g s k place e = (ends-fault (whole_anchors g s) k place (whole_ends g s (length s) (omega arith)) e).known

-- A fault of the anchor file: one of its numbers, never 0, at a place of the file.
anchors-fault-known : (g : Graph) (s : List ℕ) (k place : ℕ) → anchors_of g s ≡ fault k place → AnchorFileFault most_file_bytes k place
unfolding anchors_of
anchors-fault-known g s k place e =
    ends-fault (anchors_of g s) k place
    (ends-refuse (pick (leb (length s) most_file_bytes) 0 out_of_range) most_file_bytes (whole_anchors g s)
    (λ n. made _ most_file_bytes (told-pick (leb (length s) most_file_bytes) 0 out_of_range none (low out_of_range (omega arith) (omega arith))) n (omega arith))
    (λ z. whole_ends g s most_file_bytes (leb-true (length s) most_file_bytes (passed _ out_of_range (omega arith) z))))
    e

-- ---- both files

-- a refusal of the two files: never 0, in file 1 or 2, at a place of a file
pub record BothRefused (k file place : ℕ) : Type 0 where
  pub some : 1 ≤ k
  pub file_is : (file ≡ graph_file) ⊎ (file ≡ anchor_file)
  pub near : place ≤ most_file_bytes

pub both-refused : (graph file : List ℕ) (k f place : ℕ) → both_reply graph file ≡ refused k f place → BothRefused k f place
both-refused graph file k f place e = from (ordered graph file)
  where
    named : (j g p : ℕ) → both_reply graph file ≡ refused j g p → BothRefused j g p → BothRefused k f place
    named j g p r h =
        let q = sym r ∙ e in
        let x : j ≡ k = cc in
        let y : g ≡ f = cc in
        let z : p ≡ place = cc in
        rw (← x, ← y, ← z) h

    from : Ordered graph file → BothRefused k f place
    from (graph-refused j p g r) =
        let t = graph-fault graph j p g in
        named j graph_file p r (record { some = t.some; file_is = inl refl; near = t.near })
    from (anchors-refused q j p g a r) =
        let t = anchors-fault-known q.graph file j p a in
        named j anchor_file p r (record { some = number-some j t.known; file_is = inr refl; near = t.near })
    from (both-accepted q g a r) = let z : ◌≡◌ {A = ℕ} 0 1 = cc in absurd (omega arith)
