-- An accepted anchor file that is read and written again is the same bytes; content that is written and read again is the same content.
-- Assumes nothing.
use Prim.Native.Nat.{ℕ, ◌-◌, ◌*◌, ◌≤◌}
use mathlib.Core.Path.{◌≡◌, refl, sym, ap, ◌∙◌, subst}
use mathlib.Core.List.{List, [], ◌∷◌, ◌++◌, append_assoc}
use mathlib.Core.Bool.{true}
use native.Mathlib.Omega.{arith}
use lib.ListN.{length, take, drop, replicate}
use lib.Seq.{take_at, take-append_seam}
use lib.Dec.{leb}
use borrow.Author.Tests.{le-leb}
use Rattle.wire.specs.Found.{good, Reply, accepted, in_file}
use Rattle.wire.specs.Lent.{padded, laid, front}
use Rattle.wire.specs.Refusals.{out_of_range, small_buffer, short_output, anchor_file}
use Rattle.wire.specs.Sizes.{most_file_bytes, full_letters, full_anchors}
use Rattle.wire.proofs.NumberLaws.{Bytes}
use Rattle.wire.proofs.Laying.{length-laid}
use Rattle.graph.specs.Content.{Graph}
use Rattle.graph.specs.Good.{GoodGraph}
use Rattle.graph.specs.Reading.{Parsed, graph_of}
use Rattle.graph.proofs.Parted.{parts}
use Rattle.graph.proofs.Whole.{parts_good}
use Rattle.anchors.specs.Anchors.{Anchor, AnchorSet, per_anchor, anchor_numbers, read_length, anchor_count}
use Rattle.anchors.specs.AnchorBytes.{encode_anchors}
use Rattle.anchors.specs.AnchorPlaces.{parsed_anchors}
use Rattle.anchors.specs.GoodAnchors.{GoodAnchors}
use Rattle.anchors.specs.AnchorEntries.{Both, both_reply, AnchorBuffers, roomy_anchors, read_anchors_reply, filled_anchors, AnchorsGiven, anchors_given, anchor_size_reply, write_anchors_reply, write_anchors_after}
use Rattle.wire.proofs.Replying.{accepted-same, on-accepted, file-accepted, test_accepted}
use Rattle.anchors.proofs.FileOrder.{content-next, WriteOrdered, write_small, write_graph, write_content, write_ordered}
use Rattle.anchors.proofs.AnchorWhole.{anchors-taken}
use Rattle.anchors.proofs.AnchorRooms.{full_buffers, buffers_full}
use Rattle.anchors.proofs.AnchorSizes.{anchors-short}
use Rattle.anchors.proofs.AnchorRereading.{encoded_read}
use Rattle.anchors.proofs.AnchorGiven.{ContentHeld, content-held, content-given}
use Rattle.anchors.proofs.BothFiles.{both-taken, taken-both, both-good}

-- ---- buffers

-- what is laid stands at the front
laid-front : (full : ℕ) (used old : List ℕ) → (rest : List ℕ) × (laid full used old ≡ used ++ rest)
unfolding laid padded
laid-front full used old = (replicate (full - length used) 0 ++ drop full old, append_assoc used (replicate (full - length used) 0) (drop full old))

-- five numbers for each anchor
numbers-count : (each : List Anchor) → length (anchor_numbers each) ≡ per_anchor * length each
unfolding anchor_numbers
numbers-count [] = refl
numbers-count (a ∷ each) = let i = numbers-count each in omega arith

module _ (g : Graph) (a : AnchorSet) (h : GoodAnchors g a) (b : AnchorBuffers) where
  read_fits : length a.read ≤ full_letters
  read_fits = omega (arith, h.few_read)

  numbers_fit : length (anchor_numbers a.anchors) ≤ full_anchors
  numbers_fit = omega (arith, h.few_anchors, numbers-count a.anchors)

  -- filled buffers are still full
  filled-roomy : roomy_anchors b ≡ true → roomy_anchors (filled_anchors a b) ≡ true
  unfolding filled_anchors
  filled-roomy r =
      let t = full_buffers b r in
      let l = length-laid full_letters a.read b.letters read_fits t.0 in
      let n = length-laid full_anchors (anchor_numbers a.anchors) b.anchors numbers_fit t.1 in
      buffers_full (filled_anchors a b) (omega (arith, t.0)) (omega (arith, t.1))

-- ---- read, then written

-- content as it was read into the buffers, given to the writer
abbrev pub read_content : AnchorSet → AnchorBuffers → AnchorsGiven
read_content a b = record { r = read_length a; n = anchor_count a; buffers = filled_anchors a b }

read-given : (g : Graph) (a : AnchorSet) (b : AnchorBuffers) → GoodGraph g → GoodAnchors g a → anchors_given g (read_content a b) ≡ good a
unfolding filled_anchors
read-given g a b k h =
    let l = laid-front full_letters a.read b.letters in
    let n = laid-front full_anchors (anchor_numbers a.anchors) b.anchors in
    content-given g (read_content a b) a l.0 n.0 k h refl refl l.1 n.1

size-accepted : (room : ℕ) (a : AnchorSet) → length (encode_anchors a) ≤ most_file_bytes → length (encode_anchors a) ≤ room → anchor_size_reply room a ≡ accepted a
unfolding anchor_size_reply
size-accepted room a h k = simp (le-leb (length (encode_anchors a)) most_file_bytes h, le-leb (length (encode_anchors a)) room k)

write_accepted : (c : AnchorsGiven) (graph : List ℕ) (room : ℕ) (p : Parsed) (a : AnchorSet) → roomy_anchors c.buffers ≡ true
    → graph_of graph ≡ good p → anchors_given p.graph c ≡ good a → anchor_size_reply room a ≡ accepted a → write_anchors_reply c graph room ≡ accepted a
write_accepted c graph room p a r e f s = content-next c graph room p r e ∙ simp (f, s)

-- An accepted file, read and written again with room, is the same bytes at the front of the output.
pub read_written : (graph file out : List ℕ) (b : AnchorBuffers) (p : Both) → Bytes file → read_anchors_reply graph file b ≡ accepted p
    → length file ≤ length out
    → (write_anchors_reply (read_content p.anchors.set b) graph (length out) ≡ accepted p.anchors.set)
    × (write_anchors_after (write_anchors_reply (read_content p.anchors.set b) graph (length out)) out ≡ front file out)
unfolding read_anchors_reply
read_written graph file out b p bytes e room =
    let a : AnchorSet = p.anchors.set in
    let t = test_accepted (roomy_anchors b) (both_reply graph file) small_buffer 0 0 p e in
    let h = both-taken graph file p t.1 in
    let k = both-good graph file p h in
    let q = anchors-taken p.graph.graph file p.anchors bytes h.anchors_is in
    let l : length (encode_anchors a) ≡ length file = ap length (sym q.bytes) in
    let s = size-accepted (length out) a (anchors-short p.graph.graph a k.0 k.1) (omega arith) in
    let r = filled-roomy p.graph.graph a k.1 b t.0 in
    let w = write_accepted (read_content a b) graph (length out) p.graph a r h.graph_is (read-given p.graph.graph a b k.0 k.1) s in
    (w, ap (λ (x : Reply AnchorSet). write_anchors_after x out) w ∙ ap (λ (f : List ℕ). front f out) (sym q.bytes))

-- ---- written, then read

-- what the writer accepted: the graph file, the content, and that there was room
record Written (c : AnchorsGiven) (graph : List ℕ) (room : ℕ) (a : AnchorSet) : Type 0 where
  full : roomy_anchors c.buffers ≡ true
  parsed : Parsed
  graph_is : graph_of graph ≡ good parsed
  got : ContentHeld parsed.graph c a

written : (c : AnchorsGiven) (graph : List ℕ) (room : ℕ) (a : AnchorSet) → write_anchors_reply c graph room ≡ accepted a → Written c graph room a
unfolding anchor_size_reply
written c graph room a e = from (write_ordered c graph room)
  where
    from : WriteOrdered c graph room → Written c graph room a
    from (write_small h r) = let z : ◌≡◌ {A = ℕ} 0 1 = cc in absurd (omega arith)
    from (write_graph k place g r) = let z : ◌≡◌ {A = ℕ} 0 1 = cc in absurd (omega arith)
    from (write_content p h g r) =
        let f = on-accepted (in_file anchor_file (anchors_given p.graph c)) (anchor_size_reply room) a (sym r ∙ e) in
        let s = test_accepted (leb (length (encode_anchors f.0)) most_file_bytes) _ out_of_range anchor_file most_file_bytes a f.2 in
        let t = test_accepted (leb (length (encode_anchors f.0)) room) (accepted f.0) short_output 0 0 a s.1 in
        let d = file-accepted anchor_file (anchors_given p.graph c) f.0 f.1 in
        record {
          full = h;
          parsed = p;
          graph_is = g;
          got = subst (ContentHeld p.graph c) (accepted-same f.0 a t.1) (content-held p.graph c f.0 d);
        }

-- what was written is at the front of the output, it is accepted with the same content, and the used places of the buffers hold it again
pub record ReadAgain (c : AnchorsGiven) (graph out : List ℕ) (a : AnchorSet) (b : AnchorBuffers) : Type 0 where
  pub bytes : take (length (encode_anchors a)) (write_anchors_after (write_anchors_reply c graph (length out)) out) ≡ encode_anchors a
  pub parsed : Parsed
  pub reply : read_anchors_reply graph (encode_anchors a) b ≡ accepted (record { graph = parsed; anchors = parsed_anchors a })
  pub letter_count : read_length a ≡ c.r
  pub count : anchor_count a ≡ c.n
  pub letters : take c.r (filled_anchors a b).letters ≡ take c.r c.buffers.letters
  pub anchors : take (per_anchor * c.n) (filled_anchors a b).anchors ≡ take (per_anchor * c.n) c.buffers.anchors

pub written_read : (c : AnchorsGiven) (graph out : List ℕ) (a : AnchorSet) (b : AnchorBuffers) → write_anchors_reply c graph (length out) ≡ accepted a
    → roomy_anchors b ≡ true → ReadAgain c graph out a b
unfolding read_anchors_reply filled_anchors
written_read c graph out a b e roomy =
    let w = written c graph (length out) a e in
    let t = w.got in
    let g : Graph = w.parsed.graph in
    let k = parts_good graph w.parsed (parts graph w.parsed w.graph_is) in
    let r = taken-both graph (encode_anchors a) (record { graph = w.parsed; anchors = parsed_anchors a })
    (record { graph_is = w.graph_is; anchors_is = encoded_read g a k t.rules }) in
    let l = laid-front full_letters a.read b.letters in
    let n = laid-front full_anchors (anchor_numbers a.anchors) b.anchors in
    let fr = t.rules.few_read in
    let fa = t.rules.few_anchors in
    let cr = t.letter_count in
    let cn = t.count in
    let full = full_buffers c.buffers w.full in
    record {
      bytes = ap (λ (x : Reply AnchorSet). take (length (encode_anchors a)) (write_anchors_after x out)) e
          ∙ take-append_seam (encode_anchors a) (drop (length (encode_anchors a)) out);
      parsed = w.parsed;
      reply = simp roomy r;
      letter_count = cr;
      count = cn;
      letters = ap (take c.r) l.1 ∙ take_at a.read l.0 c.r cr ∙ sym (t.read (omega arith));
      anchors = ap (take (per_anchor * c.n)) n.1
          ∙ take_at (anchor_numbers a.anchors) n.0 (per_anchor * c.n) (omega (arith, numbers-count a.anchors))
          ∙ sym (t.anchors (omega arith));
    }
