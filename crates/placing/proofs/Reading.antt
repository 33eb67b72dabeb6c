-- What the entries have from the two readers: the reply, and the content of accepted files. Assumes nothing.
use Prim.Native.Nat.{ℕ, zero, suc, ◌+◌, ◌-◌, ◌*◌, ◌≤◌, ◌<◌}
use mathlib.Core.Path.{◌≡◌, refl, sym, ap, ◌∙◌}
use mathlib.Core.Logic.{◌⊎◌, inl, inr, ⊎_elim}
use mathlib.Core.List.{List, [], ◌∷◌}
use mathlib.Core.Bool.{true, false}
use native.Mathlib.Omega.{arith}
use lib.ListN.{length, get_or}
use lib.Dec.{leb}
use borrow.Author.Tests.{leb-true, le-leb}
use Rattle.wire.specs.Found.{Reply, accepted, refused}
use Rattle.wire.specs.Lent.{laid}
use Rattle.wire.specs.Refusals.{small_buffer}
use Rattle.wire.specs.Sizes.{most_anchors, full_letters, full_anchors, full_scores, full_chain}
use Rattle.wire.proofs.Laying.{laid_at, length-laid}
use Rattle.rounds.specs.Rounds.{Within}
use Rattle.rounds.proofs.Upto.{within}
use Rattle.graph.proofs.Kept.{both}
use Rattle.anchors.specs.Anchors.{Anchor, per_anchor, anchor_numbers}
use Rattle.anchors.specs.AnchorRules.{no_anchor}
use Rattle.anchors.specs.AnchorEntries.{Both, both_reply, anchor_in, AnchorBuffers, roomy_anchors, read_anchors_reply, filled_anchors}
use Rattle.anchors.proofs.AnchorFaults.{both-refused}
use Rattle.anchors.proofs.BothFiles.{both-taken, both-good}
use Rattle.anchors_read.specs.Answer.{answer_of, Answered}
use Rattle.anchors_read.specs.declared.AnchorsAnswer.{AnchorsAnswer}
use Rattle.chain.specs.Steps.{anchor_at}
use Rattle.chain.specs.ChainEntries.{ChainBuffers, roomy_chain, chain_reply}
use Rattle.engine.specs.Lying.{AnchorsLie}
use Rattle.placing.specs.Begun.{Taken, Begun}

-- ---- the anchors as they lie

numbers_in : (l : List Anchor) (i : ℕ) → i < length l → anchor_in (anchor_numbers l) i ≡ get_or l i no_anchor
unfolding anchor_numbers
numbers_in [] i h = absurd (omega arith)
numbers_in (a ∷ l) zero h = refl
numbers_in (a ∷ l) (suc i) h =
    let e0 : per_anchor * suc i ≡ suc (suc (suc (suc (suc (per_anchor * i))))) = omega arith in
    let e1 : per_anchor * suc i + 1 ≡ suc (suc (suc (suc (suc (per_anchor * i + 1))))) = omega arith in
    let e2 : per_anchor * suc i + 2 ≡ suc (suc (suc (suc (suc (per_anchor * i + 2))))) = omega arith in
    let e3 : per_anchor * suc i + 3 ≡ suc (suc (suc (suc (suc (per_anchor * i + 3))))) = omega arith in
    let e4 : per_anchor * suc i + 4 ≡ suc (suc (suc (suc (suc (per_anchor * i + 4))))) = omega arith in
    rw (e1, e2, e3, e4, e0) (numbers_in l i (omega arith))

numbers-long : (l : List Anchor) → length (anchor_numbers l) ≡ per_anchor * length l
unfolding anchor_numbers
numbers-long [] = refl
numbers-long (a ∷ l) = omega (arith, numbers-long l)

module _ (l : List Anchor) (old : List ℕ) (few : length l ≤ most_anchors) where
  fit : length (anchor_numbers l) ≤ full_anchors
  fit = omega (arith, numbers-long l)

  place : (q : ℕ) → q < full_anchors → get_or (laid full_anchors (anchor_numbers l) old) q 0 ≡ get_or (anchor_numbers l) q 0
  place = laid_at full_anchors (anchor_numbers l) old fit

  -- each anchor's numbers are in the buffer
  pub laid-anchor : (j : ℕ) → Within (length l) j → anchor_in (laid full_anchors (anchor_numbers l) old) (j - 1) ≡ anchor_at l j
  laid-anchor j w =
      (λ i. record {
        v = place (per_anchor * (j - 1)) (omega arith) i;
        x = place (per_anchor * (j - 1) + 1) (omega arith) i;
        c = place (per_anchor * (j - 1) + 2) (omega arith) i;
        len = place (per_anchor * (j - 1) + 3) (omega arith) i;
        weight = place (per_anchor * (j - 1) + 4) (omega arith) i;
      })
      ∙ numbers_in l (j - 1) (omega arith)

  pub laid-long : full_anchors ≤ length old → per_anchor * length l ≤ length (laid full_anchors (anchor_numbers l) old)
  laid-long h = omega (arith, length-laid full_anchors (anchor_numbers l) old fit h)

-- ---- the reader of both files

-- each lent buffer has full size
full_chain_lem : (b : ChainBuffers) → roomy_chain b ≡ true → (full_scores ≤ length b.scores) × (full_chain ≤ length b.chain)
unfolding roomy_chain
full_chain_lem b h =
    let one = both (leb full_scores (length b.scores)) _ h in
    (leb-true full_scores (length b.scores) one.0, leb-true full_chain (length b.chain) one.1)

-- buffers of full size are roomy
pub full_anchors_lem : (b : AnchorBuffers) → full_letters ≤ length b.letters → full_anchors ≤ length b.anchors → roomy_anchors b ≡ true
unfolding roomy_anchors
full_anchors_lem b l a = simp (le-leb full_letters (length b.letters) l, le-leb full_anchors (length b.anchors) a)

-- both files are accepted, and the buffers hold the anchors
pub record BothAccepted (graph file : List ℕ) (b after : AnchorBuffers) (r : AnchorsAnswer) : Type 0 where
  pub taken : Both
  pub found : both_reply graph file ≡ accepted taken
  pub content : after ≡ filled_anchors taken.anchors.set b
  pub answer : r ≡ answer_of (accepted taken)

module _ (graph file : List ℕ) (b after : AnchorBuffers) (r : AnchorsAnswer) (full : roomy_anchors b ≡ true) (A : Answered graph file b after r) where
  same-reply : read_anchors_reply graph file b ≡ both_reply graph file
  unfolding read_anchors_reply
  same-reply = rw full

  refused_with : (k f place : ℕ) → both_reply graph file ≡ refused k f place → r ≡ answer_of (refused k f place)
  refused_with k f place e = A.answer ∙ ap answer_of (same-reply ∙ e)

  by_reply : (x : Reply Both) → both_reply graph file ≡ x
      → BothAccepted graph file b after r ⊎ ((1 ≤ r.number) × (both_reply graph file ≡ refused r.number r.file r.place))
  by_reply (accepted p) e = inl (record {
    taken = p;
    found = e;
    content = A.buffers ∙ rw (same-reply ∙ e);
    answer = A.answer ∙ ap answer_of (same-reply ∙ e);
  })
  by_reply (refused k f place) e =
      let q = refused_with k f place e in
      inr (rw q (both-refused graph file k f place e).some, e ∙ rw q)

  -- number 0: both are accepted
  pub both_zero : r.number ≡ 0 → BothAccepted graph file b after r
  both_zero z = ⊎_elim (λ t. t) (λ t. absurd (omega (arith, t.0))) (by_reply (both_reply graph file) refl)

  -- any other number: refused so
  pub both_some : (r.number ≡ 0 → ⊥) → both_reply graph file ≡ refused r.number r.file r.place
  both_some n = ⊎_elim (λ t. absurd (n (ap (λ (q : AnchorsAnswer). q.number) t.answer))) (λ t. t.1) (by_reply (both_reply graph file) refl)

-- ---- a call's beginning

module _ (graph file : List ℕ) (b : ChainBuffers) where
  -- a buffer below full size
  pub small_begun : (numbers : List ℕ) → roomy_chain b ≡ false → Begun graph file b numbers (answer_of (refused small_buffer 0 0))
  unfolding chain_reply
  small_begun numbers h = record { takes = λ z. absurd (omega (arith, z)); refuses = λ _. rw h }

  -- what the reader of both files answers, where each buffer has full size
  module _ (roomy : roomy_chain b ≡ true) (l after : AnchorBuffers) (r : AnchorsAnswer) (full : full_letters ≤ length l.letters) (room : full_anchors ≤ length l.anchors) (A : Answered graph file l after r) where
    replied : (x : Reply Both) → both_reply graph file ≡ x → chain_reply graph file b ≡ x
    unfolding chain_reply
    replied x e = rw roomy e

    lies : (B : BothAccepted graph file l after r) → AnchorsLie B.taken.graph.graph B.taken.anchors.set r.anchors after.anchors
    unfolding filled_anchors
    lies B =
        let p = B.taken in
        let G = (both-good graph file p (both-taken graph file p B.found)).1 in
        let n : length p.anchors.set.anchors ≡ r.anchors = sym (ap (λ (k : AnchorsAnswer). k.anchors) B.answer) in
        let e : after.anchors ≡ laid full_anchors (anchor_numbers p.anchors.set.anchors) l.anchors = ap (λ (k : AnchorBuffers). k.anchors) B.content in
        record {
          good = G;
          anchors_are = n;
          room = rw (e, ← n) (laid-long p.anchors.set.anchors l.anchors G.few_anchors room);
          each = λ j w. rw e (laid-anchor p.anchors.set.anchors l.anchors G.few_anchors j (within w.low (omega (arith, w.high, n))));
        }

    took : BothAccepted graph file l after r → Taken graph file b after.anchors r
    took B = record {
      both = B.taken;
      reply = replied _ B.found;
      graph_is = (both-taken graph file B.taken B.found).graph_is;
      rooms = full_chain_lem b roomy;
      letters = sym (ap (λ (k : AnchorsAnswer). k.letters) B.answer);
      anchors = lies B;
    }

    pub read_begun : Begun graph file b after.anchors r
    read_begun =
        let f = full_anchors_lem l full room in
        record { takes = λ z. took (both_zero graph file l after r f A z); refuses = λ n. replied _ (both_some graph file l after r f A n) }
