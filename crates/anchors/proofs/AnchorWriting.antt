-- What the anchor writer refuses, and when: "4 with place 65,536 if the file would pass 65,536 bytes" never happens, and 14 "is given exactly if the
-- encoding is longer than the room".
-- Assumes nothing.
use Prim.Native.Nat.{ℕ, ◌≤◌, ◌<◌}
use mathlib.Core.Path.{◌≡◌, refl, sym, ap, ◌∙◌}
use mathlib.Core.Logic.{inl, inr, ◌↔◌}
use mathlib.Core.List.{List}
use mathlib.Core.Bool.{true, false}
use native.Mathlib.Omega.{arith}
use lib.ListN.{length}
use lib.Dec.{leb}
use borrow.Author.Tests.{leb-false, le-leb, lt-leb}
use Rattle.wire.specs.Found.{Found, good, fault, accepted, refused, in_file, on_accepted, as_content, refusal_number}
use Rattle.wire.specs.Refusals.{out_of_range, small_buffer, short_output, graph_file, anchor_file}
use Rattle.wire.specs.Sizes.{most_file_bytes, most_read, most_anchors}
use Rattle.wire.proofs.Encoding.{split}
use Rattle.graph.specs.Content.{Graph}
use Rattle.graph.specs.Reading.{Parsed, graph_of}
use Rattle.graph.proofs.Parted.{parts}
use Rattle.graph.proofs.Whole.{parts_good}
use Rattle.anchors.specs.Anchors.{AnchorSet}
use Rattle.anchors.specs.AnchorBytes.{encode_anchors}
use Rattle.anchors.specs.AnchorReading.{ParsedAnchors, whole_anchors}
use Rattle.anchors.specs.AnchorEntries.{AnchorsGiven, set_in, anchors_given, roomy_anchors, anchor_size_reply, write_anchors_reply}
use Rattle.wire.proofs.Replying.{on-refused, file-accepted, file-refused, test_refused}
use Rattle.anchors.proofs.FileOrder.{content-next, WriteOrdered, write_small, write_graph, write_content, write_ordered}
use Rattle.anchors.proofs.AnchorFaults.{AnchorNumber, number-some, whole_fault}
use Rattle.anchors.proofs.AnchorSizes.{anchors-short}
use Rattle.anchors.proofs.AnchorGiven.{given-set, content-held}

-- ---- faults of the content

-- the number is one of an anchor file's, and the place is 0: "with place 0 for faults of the content"
pub record ContentFault (k place : ℕ) : Type 0 where
  pub known : AnchorNumber k
  pub front : place ≡ 0

as_fault : {A B : Type 0} (f : A → B) (x : Found A) (k place : ℕ) → as_content f x ≡ fault k place → (p : ℕ) × (x ≡ fault k p) × (place ≡ 0)
as_fault f (good a) k place e = let z : ◌≡◌ {A = ℕ} 0 1 = cc in absurd (omega arith)
as_fault f (fault j p) k place e = (p, cc, cc)

pub content-fault : (g : Graph) (c : AnchorsGiven) (k place : ℕ) → anchors_given g c ≡ fault k place → ContentFault k place
unfolding anchors_given
content-fault g c k place e =
    let t = as_fault (λ (q : ParsedAnchors). q.set) (whole_anchors g (encode_anchors (set_in c))) k place e in
    record { known = whole_fault g (encode_anchors (set_in c)) k t.0 t.1; front = t.2 }

-- content that has a fault of number k, and content that has none
numbered : {A : Type 0} (x : Found A) (k : ℕ) → k ≡ refusal_number x → (k ≡ 0 → ⊥) → (place : ℕ) × (x ≡ fault k place)
numbered (good a) k e n = absurd (n e)
numbered (fault j place) k e n = (place, ap (λ (i : ℕ). fault i place) (sym e))

unnumbered : {A : Type 0} (x : Found A) → ((place : ℕ) → x ≡ fault 0 place → ⊥) → refusal_number x ≡ 0 → (a : A) × (x ≡ good a)
unnumbered (good a) f e = (a, refl)
unnumbered (fault k place) f e = absurd (f place (ap (λ (i : ℕ). fault i place) e))

pub content-refused : (g : Graph) (c : AnchorsGiven) (k : ℕ) → k ≡ refusal_number (anchors_given g c) → (k ≡ 0 → ⊥) → anchors_given g c ≡ fault k 0
content-refused g c k e n =
    let t = numbered (anchors_given g c) k e n in
    t.1 ∙ ap (fault k) (content-fault g c k t.0 t.1).front

pub content-taken : (g : Graph) (c : AnchorsGiven) → refusal_number (anchors_given g c) ≡ 0 → anchors_given g c ≡ good (set_in c)
content-taken g c e =
    let t = unnumbered (anchors_given g c) (λ place f. omega (arith, number-some 0 (content-fault g c 0 place f).known)) e in
    t.1 ∙ ap good (given-set g c t.0 t.1).0

-- its counts are in range
pub content-ranged : (g : Graph) (c : AnchorsGiven) → refusal_number (anchors_given g c) ≡ 0 → (c.r ≤ most_read) × (c.n ≤ most_anchors)
content-ranged g c e =
    let t = content-held g c (set_in c) (content-taken g c e) in
    (omega (arith, t.letter_count, t.rules.few_read), omega (arith, t.count, t.rules.few_anchors))

-- ---- the writer

-- Why the writer refuses, with what number, file and place: 13, a fault of the graph file, a fault of the content, or 14.
pub data WriterRefusal (c : AnchorsGiven) (graph : List ℕ) (room : ℕ) : ℕ → ℕ → ℕ → Type 0 where
  small_buffer_lem : roomy_anchors c.buffers ≡ false → WriterRefusal c graph room small_buffer 0 0
  bad_graph : (k place : ℕ) → graph_of graph ≡ fault k place → WriterRefusal c graph room k graph_file place
  bad_content : (p : Parsed) (k : ℕ) → graph_of graph ≡ good p → anchors_given p.graph c ≡ fault k 0 → AnchorNumber k
      → WriterRefusal c graph room k anchor_file 0
  short_output_lem : (p : Parsed) (a : AnchorSet) → graph_of graph ≡ good p → anchors_given p.graph c ≡ good a → room < length (encode_anchors a)
      → WriterRefusal c graph room short_output 0 0

module _ (c : AnchorsGiven) (graph : List ℕ) (room : ℕ) where
  size_refusal : (p : Parsed) (a : AnchorSet) (k f place : ℕ) → graph_of graph ≡ good p → anchors_given p.graph c ≡ good a
      → anchor_size_reply room a ≡ refused k f place → WriterRefusal c graph room k f place
  unfolding anchor_size_reply
  size_refusal p a k f place e h r =
      let w = parts_good graph p (parts graph p e) in
      let s = anchors-short p.graph a w (content-held p.graph c a h).rules in
      let t = simp (le-leb (length (encode_anchors a)) most_file_bytes s) at r in
      elim (test_refused (leb (length (encode_anchors a)) room) (accepted a) short_output 0 0 k f place t) [
        | inl x ↦ let y = x.1 in let z : ◌≡◌ {A = ℕ} 0 1 = cc in absurd (omega arith)
        | inr x ↦
            rw (x.1, x.2, x.3) (short_output_lem p a e h (leb-false (length (encode_anchors a)) room x.0))
      ]

  content_refusal : (p : Parsed) (k f place : ℕ) → graph_of graph ≡ good p
      → on_accepted (in_file anchor_file (anchors_given p.graph c)) (anchor_size_reply room) ≡ refused k f place → WriterRefusal c graph room k f place
  content_refusal p k f place e r =
      elim (on-refused (in_file anchor_file (anchors_given p.graph c)) (anchor_size_reply room) k f place r) [
        | inl x ↦
            let y = file-refused anchor_file (anchors_given p.graph c) k f place x in
            let t = content-fault p.graph c k place y.0 in
            rw (y.1, t.front) (bad_content p k e (y.0 ∙ ap (fault k) t.front) t.known)
        | inr x ↦ size_refusal p x.0 k f place e (file-accepted anchor_file (anchors_given p.graph c) x.0 x.1) x.2
      ]

  -- a refusal has one of these reasons: 4 with place 65,536 is none of them
  pub writer_refused : (k f place : ℕ) → write_anchors_reply c graph room ≡ refused k f place → WriterRefusal c graph room k f place
  writer_refused k f place e = from (write_ordered c graph room)
    where
      named : (j g p : ℕ) → write_anchors_reply c graph room ≡ refused j g p → WriterRefusal c graph room j g p → WriterRefusal c graph room k f place
      named j g p r h =
          let q = sym r ∙ e in
          let x : j ≡ k = cc in
          let y : g ≡ f = cc in
          let z : p ≡ place = cc in
          rw (← x, ← y, ← z) h

      from : WriteOrdered c graph room → WriterRefusal c graph room k f place
      from (write_small h r) = named small_buffer 0 0 r (small_buffer_lem h)
      from (write_graph j p h r) = named j graph_file p r (bad_graph j p h)
      from (write_content p h g r) = content_refusal p k f place g (sym r ∙ e)

  never_at : (k f place : ℕ) → WriterRefusal c graph room k f place → f ≡ anchor_file → place ≡ most_file_bytes → ⊥
  never_at k f place (small_buffer_lem h) e q = omega arith
  never_at k f place (bad_graph j l h) e q = omega arith
  never_at k f place (bad_content p j h i n) e q = omega arith
  never_at k f place (short_output_lem p a h i n) e q = omega arith

  -- "then 4 with place 65,536 if the file would pass 65,536 bytes": no anchor file would
  pub writer_never_long : write_anchors_reply c graph room ≡ refused out_of_range anchor_file most_file_bytes → ⊥
  writer_never_long e = never_at out_of_range anchor_file most_file_bytes (writer_refused out_of_range anchor_file most_file_bytes e) refl refl

  -- "14, which is given exactly if the encoding is longer than the room"
  pub writer_short : (p : Parsed) (a : AnchorSet) → roomy_anchors c.buffers ≡ true → graph_of graph ≡ good p → anchors_given p.graph c ≡ good a
      → (write_anchors_reply c graph room ≡ refused short_output 0 0) ↔ (room < length (encode_anchors a))
  unfolding anchor_size_reply
  writer_short p a r e h =
      let n = content-next c graph room p r e in
      let w = parts_good graph p (parts graph p e) in
      let s = anchors-short p.graph a w (content-held p.graph c a h).rules in
      let l : ℕ = length (encode_anchors a) in (
        λ t.
            split l room
            (λ i.
            let u = simp (h, le-leb l most_file_bytes s, le-leb l room i) at (sym n ∙ t) in
            let z : ◌≡◌ {A = ℕ} 0 1 = cc in
            absurd (omega arith))
            (λ i. i),
        λ i. n ∙ simp (h, le-leb l most_file_bytes s, lt-leb l room i),
      )
