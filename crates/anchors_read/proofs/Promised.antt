-- From what the check of both files finds to the reader's promise: what the fills may rely on, and what each way through the reader answers.
-- Assumes nothing.
use Prim.Native.Nat.{ℕ, ◌+◌, ◌*◌, ◌≤◌}
use mathlib.Core.Path.{◌≡◌, refl, sym, ap, ◌∙◌}
use mathlib.Core.List.{List}
use mathlib.Core.Bool.{Bool, true, false}
use lib.ListN.{length, take, drop}
use Rattle.wire.specs.Found.{Reply, accepted, refused}
use Rattle.wire.specs.Lent.{laid}
use Rattle.wire.specs.Refusals.{small_buffer}
use Rattle.wire.specs.Sizes.{most_read, most_anchors, full_letters, full_anchors}
use Rattle.graph_check.specs.Checked.{sections_of}
use Rattle.graph_check.specs.declared.Sections.{Sections}
use Rattle.graph_fill.specs.Filling.{numbers_in}
use Rattle.graph_fill.proofs.Decoding.{letters-are}
use Rattle.anchors.specs.Anchors.{per_anchor, anchor_numbers}
use Rattle.anchors.specs.AnchorEntries.{Both, both_reply, AnchorBuffers, room_for_anchors, roomy_anchors, read_anchors_reply, filled_anchors}
use Rattle.anchors_check.specs.CheckedAnchors.{anchor_sections_of, checked_both_of}
use Rattle.anchors_check.specs.declared.AnchorSections.{AnchorSections}
use Rattle.anchors.proofs.AnchorAccepting.{anchor_parts}
use Rattle.anchors.proofs.BothFiles.{both-taken}
use Rattle.anchors_read.specs.declared.AnchorsAnswer.{AnchorsAnswer}
use Rattle.anchors_read.specs.Answer.{answer_of, counts_answer, Answered}
use Rattle.anchors_fill.proofs.Taking.{anchors-are}

-- the buffers as they were lent
abbrev pub lent : List ℕ → List ℕ → AnchorBuffers
lent letters anchors = record { letters = letters; anchors = anchors }

-- what the room test says
pub room : (b : AnchorBuffers) {t d : Bool} → t ≡ room_for_anchors (length b.letters) (length b.anchors) → t ≡ d → roomy_anchors b ≡ d
unfolding roomy_anchors
room b e f = sym e ∙ f

-- ---- refusals

pub refusal_found : (x : Reply Both) (k f place : ℕ) → checked_both_of x ≡ refused k f place → x ≡ refused k f place
refusal_found (accepted p) k f place e = absurd (cc)
refusal_found (refused j h at) k f place e = cc

module _ (graph file : List ℕ) (b : AnchorBuffers) where
  refused-answered : (k f place : ℕ) (r : AnchorsAnswer) → read_anchors_reply graph file b ≡ refused k f place → r ≡ answer_of (refused k f place)
      → Answered graph file b b r
  refused-answered k f place r h e = record { answer = e ∙ rw h; buffers = rw h }

  -- a buffer is below full size
  pub small-answered : (r : AnchorsAnswer) → roomy_anchors b ≡ false → r ≡ answer_of (refused small_buffer 0 0) → Answered graph file b b r
  unfolding read_anchors_reply
  small-answered r h e = refused-answered small_buffer 0 0 r (rw h) e

  -- a file has a fault
  pub fault-answered : (k f place : ℕ) (r : AnchorsAnswer) → roomy_anchors b ≡ true → both_reply graph file ≡ refused k f place
      → r ≡ answer_of (refused k f place) → Answered graph file b b r
  unfolding read_anchors_reply
  fault-answered k f place r h g e = refused-answered k f place r (rw (h, g)) e

-- ---- acceptance

acceptance_found : (x : Reply Both) (g : Sections) (a : AnchorSections) → checked_both_of x ≡ accepted (g, a)
    → (p : Both) × (x ≡ accepted p) × (a ≡ anchor_sections_of p.anchors)
acceptance_found (accepted p) g a e =
    let q : ◌≡◌ {A = Sections × AnchorSections} (g, a) (sections_of p.graph, anchor_sections_of p.anchors) = cc in
    (p, refl, ap (λ (t : Sections × AnchorSections). t.1) q)
acceptance_found (refused k f place) g a e = absurd (cc)

-- what an accepted anchor file's sections are, and that each has room
pub record Ready (graph file : List ℕ) (a : AnchorSections) : Type 0 where
  pub taken : Both
  pub found : both_reply graph file ≡ accepted taken
  pub same : a ≡ anchor_sections_of taken.anchors
  pub read_is : take a.r (drop a.read file) ≡ taken.anchors.set.read
  pub read_within : a.read + a.r ≤ length file
  pub few_read : a.r ≤ most_read
  pub anchors_are : (numbers_in file (per_anchor * a.n) a.anchors).content ≡ anchor_numbers taken.anchors.set.anchors
  pub few_anchors : a.n ≤ most_anchors

ready_parts : (graph file : List ℕ) (p : Both) → both_reply graph file ≡ accepted p → Ready graph file (anchor_sections_of p.anchors)
ready_parts graph file p e =
    let t = anchor_parts p.graph.graph file p.anchors (both-taken graph file p e).anchors_is in
    record {
      taken = p;
      found = e;
      same = refl;
      read_is = sym (letters-are file t.length_at _ _ p.anchors.set.read t.length_is t.read_is).0;
      read_within = t.read_within;
      few_read = t.few_read;
      anchors_are = sym (anchors-are p.graph.graph p.anchors.set.read _ _ file p.anchors.anchors_at _ t.anchors_is);
      few_anchors = t.few_anchors;
    }

pub ready : (graph file : List ℕ) (g : Sections) (a : AnchorSections) → checked_both_of (both_reply graph file) ≡ accepted (g, a) → Ready graph file a
ready graph file g a e =
    let t = acceptance_found (both_reply graph file) g a e in
    rw t.2 (ready_parts graph file t.0 t.1)

-- both files are accepted, and each buffer was filled from its section
module _ (graph file : List ℕ) (b : AnchorBuffers) (a : AnchorSections) (letters anchors : List ℕ) (r : AnchorsAnswer) where
  pub accepted-answered : roomy_anchors b ≡ true → Ready graph file a
      → (from n : ℕ) → from ≡ a.read → n ≡ a.r → letters ≡ laid full_letters (take n (drop from file)) b.letters
      → anchors ≡ laid full_anchors (numbers_in file (per_anchor * a.n) a.anchors).content b.anchors
      → r ≡ counts_answer a
      → Answered graph file b (record { letters = letters; anchors = anchors }) r
  unfolding read_anchors_reply filled_anchors
  accepted-answered h t from n at long e1 e2 q =
      record {
        answer = q ∙ rw (h, t.found, t.same);
        buffers = rw (h, t.found, e1, at, long, e2, t.read_is, t.anchors_are);
      }
