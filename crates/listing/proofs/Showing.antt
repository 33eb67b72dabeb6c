-- From the promises of the sweep and of the reader of both files to the listing's; and that the listing's promise admits one answer. Assumes nothing.
use Prim.Native.Nat.{ℕ, ◌+◌, ◌-◌, ◌≤◌, ◌<◌}
use mathlib.Core.Path.{◌≡◌, refl, sym, ap, ◌∙◌, subst}
use mathlib.Core.List.{List, [], ◌∷◌, ◌++◌, append_assoc}
use mathlib.Core.Bool.{true}
use native.Mathlib.Decide.{dec_le}
use native.Mathlib.Omega.{arith}
use lib.ListN.{length, get_or, take, drop, replicate, length-append, get_or-append}
use lib.Seq.{get_or-append-add, take_at}
use borrow.Author.Tests.{le-leb}
use Rattle.wire.specs.Found.{Reply, accepted, refused}
use Rattle.wire.specs.Lent.{padded, laid, front}
use Rattle.wire.specs.Sizes.{most_anchors, full_anchors, full_scores, full_chain}
use Rattle.wire.proofs.Laying.{laid_at}
use Rattle.rounds.specs.Rounds.{Within}
use Rattle.rounds.specs.Table.{entry}
use Rattle.graph.specs.Content.{Graph}
use Rattle.anchors.specs.Anchors.{Anchor, anchor_numbers}
use Rattle.anchors.specs.AnchorEntries.{Both, both_reply, anchor_in, AnchorBuffers, roomy_anchors, read_anchors_reply, read_anchors_after, filled_anchors}
use Rattle.anchors.proofs.AnchorAccepting.{anchor_parts}
use Rattle.anchors.proofs.AnchorFaults.{both-refused}
use Rattle.anchors.proofs.BothFiles.{both-taken}
use Rattle.anchors_read.specs.Answer as reader
use Rattle.anchors_read.specs.declared.AnchorsAnswer.{AnchorsAnswer}
use Rattle.chain.specs.Named.{Back, stop, go, Returned, empty, some}
use Rattle.chain.specs.ChainEntries.{Result, IsSweep, ChainBuffers, roomy_chain, chain_reply, filled_chain}
use Rattle.placing.specs.Answer as entries
use Rattle.placing.specs.declared.ChainAnswer.{ChainAnswer}
use Rattle.placing.proofs.Reading.{laid-anchor}
use Rattle.placing.proofs.Answering.{sweep-one}
use Rattle.listing_lines.specs.Lines.{refused_line, no_file_line, Printed}
use Rattle.listing_result.specs.Showing.{listing_of, Shown, SomeShown}
use Rattle.std.specs.Prelude.{Some}
use Rattle.loaded.specs.Files.{File, missing, read, missing_of, number_of}
use Rattle.loaded.specs.declared.Missing.{Missing}
use Rattle.loaded.specs.declared.Missing.TheVariants.{Graph as no_graph, Anchors as no_anchors}
use Rattle.listing.specs.Printing.{Outcome, Listed, Output}

-- ---- the chain returned

module _ (g : Graph) (anchors : List Anchor) (S : List ℕ) where
  -- each number on the way back is that of an anchor
  back-within : {j : ℕ} {js : List ℕ} → Within (length anchors) j → Back g anchors S j js → (i : ℕ) → i < length js → Within (length anchors) (get_or js i 0)
  back-within {j} l (stop e) i h = let z : i ≡ 0 = omega arith in subst (λ (x : ℕ). Within (length anchors) (get_or (j ∷ []) x 0)) (sym z) l
  back-within {j} l (go {js = js} n p b) i h =
      elim (dec_le (length js) i) [
        | yes k ↦
            let z : i ≡ length js + 0 = omega (arith, length-append js (j ∷ [])) in
            subst (λ (x : ℕ). Within (length anchors) (get_or (js ++ (j ∷ [])) x 0)) (sym z)
            (subst (λ (x : ℕ). Within (length anchors) x) (sym (get_or-append-add js (j ∷ []) 0 0)) l)
        | no k ↦
            subst (λ (x : ℕ). Within (length anchors) x) (sym (get_or-append js (j ∷ []) 0 i (omega arith))) (back-within p.gives.within b i (omega arith))
      ]

  returned-within : {js : List ℕ} {s : ℕ} → Returned g anchors S js s → (i : ℕ) → i < length js → Within (length anchors) (get_or js i 0)
  returned-within (empty e) i h = absurd (omega arith)
  returned-within (some t b) i h = back-within t.within b i h

-- ---- buffers

-- a buffer has room for what was laid in it
used_fits : (full : ℕ) (used old : List ℕ) → length used ≤ length (laid full used old)
unfolding laid padded
used_fits full used old = simp (length-append, append_assoc) (omega arith)

-- and its front is that
take-laid : (full n : ℕ) (used old : List ℕ) → n ≡ length used → take n (laid full used old) ≡ used
unfolding laid padded
take-laid full n used old e =
    ap (take n) (append_assoc used (replicate (full - length used) 0) (drop full old)) ∙ take_at used (replicate (full - length used) 0 ++ drop full old) n (sym e)

-- chain buffers of full size are roomy
pub full_roomy : (b : ChainBuffers) → full_scores ≤ length b.scores → full_chain ≤ length b.chain → roomy_chain b ≡ true
unfolding roomy_chain
full_roomy b s c = simp (le-leb full_scores (length b.scores) s, le-leb full_chain (length b.chain) c)

-- ---- the sweep's answer

-- both files are accepted, and the sweep's result is in the buffers
pub record Taken (graph file : List ℕ) (b after : ChainBuffers) (r : ChainAnswer) : Type 0 where
  pub both : Both
  pub found : both_reply graph file ≡ accepted both
  pub placed : entries.Placed IsSweep both.graph.graph both.anchors.set.anchors b after r

module _ (graph file : List ℕ) (b after : ChainBuffers) (r : ChainAnswer) (full : roomy_chain b ≡ true) (A : entries.Answered IsSweep graph file b after r) where
  same-reply : chain_reply graph file b ≡ both_reply graph file
  unfolding chain_reply
  same-reply = rw full

  outcome : entries.Outcome IsSweep (both_reply graph file) b after r
  outcome = subst (λ (x : Reply Both). entries.Outcome IsSweep x b after r) same-reply A.outcome

  by_some : (x : Reply Both) → entries.Outcome IsSweep x b after r → (r.number ≡ 0 → ⊥) → (old out : List ℕ) (n : ℕ)
      → Printed (refused_line r.number r.file r.place) old out n → Outcome x old out n
  by_some (accepted p) t h old out n q = absurd (h (ap (λ (z : ChainAnswer). z.number) t.answer))
  by_some (refused k f place) t h old out n q =
      subst (λ (z : ChainAnswer). Printed (refused_line z.number z.file z.place) old out n) t.answer q

  -- any number but 0: the refusal's line is the listing
  pub refused-listed : (r.number ≡ 0 → ⊥) → (old out : List ℕ) (n : ℕ) → Printed (refused_line r.number r.file r.place) old out n
      → Listed graph file old out n
  refused-listed h old out n q = record { outcome = by_some (both_reply graph file) outcome h old out n q }

  by_zero : (x : Reply Both) → both_reply graph file ≡ x → entries.Outcome IsSweep x b after r → r.number ≡ 0 → Taken graph file b after r
  by_zero (accepted p) e t z = record { both = p; found = e; placed = t }
  by_zero (refused k f place) e t z =
      absurd (omega (arith, (both-refused graph file k f place e).some, ap (λ (q : ChainAnswer). q.number) t.answer))

  -- number 0: both are accepted
  pub zero-taken : r.number ≡ 0 → Taken graph file b after r
  zero-taken z = by_zero (both_reply graph file) refl outcome z

-- ---- what is shown

module _ (graph file : List ℕ) (b after : ChainBuffers) (r : ChainAnswer) (T : Taken graph file b after r)
    (d e : AnchorBuffers) (q : AnchorsAnswer) (roomy : roomy_anchors d ≡ true) (B : reader.Answered graph file d e q)
    (ls : length after.scores ≡ full_scores) (lc : length after.chain ≡ full_chain) (ln : length e.anchors ≡ full_anchors) where
  abbrev anchors : List Anchor
  anchors = T.both.anchors.set.anchors

  abbrev result : Result
  result = T.placed.result

  few : length anchors ≤ most_anchors
  few = (anchor_parts T.both.graph.graph file T.both.anchors (both-taken graph file T.both T.found).anchors_is).few_anchors

  scores_lie : after.scores ≡ laid full_scores result.scores b.scores
  unfolding filled_chain
  scores_lie = ap (λ (c : ChainBuffers). c.scores) T.placed.buffers

  chain-lies : after.chain ≡ laid full_chain result.chain b.chain
  unfolding filled_chain
  chain-lies = ap (λ (c : ChainBuffers). c.chain) T.placed.buffers

  reads_both : read_anchors_reply graph file d ≡ both_reply graph file
  unfolding read_anchors_reply
  reads_both = rw roomy

  numbers_lie : e.anchors ≡ laid full_anchors (anchor_numbers anchors) d.anchors
  unfolding filled_anchors
  numbers_lie = ap (λ (k : AnchorBuffers). k.anchors) (B.buffers ∙ ap (λ (x : Reply Both). read_anchors_after x d) (reads_both ∙ T.found))

  long : r.length ≡ length result.chain
  long = ap (λ (z : ChainAnswer). z.length) T.placed.answer

  -- the anchors and the sweep's result are in the answer and in the buffers
  shown : Shown anchors result r.anchors r.score r.rounds r.length e.anchors after.scores after.chain
  shown = record {
    few = few;
    numbers_room = ln;
    scores_room = ls;
    chain_room = lc;
    anchors_is = ap (λ (z : ChainAnswer). z.anchors) T.placed.answer;
    score_is = ap (λ (z : ChainAnswer). z.score) T.placed.answer;
    rounds_is = ap (λ (z : ChainAnswer). z.rounds) T.placed.answer;
    long_is = long;
    held = λ j w. ap (λ (s : List ℕ). anchor_in s (j - 1)) numbers_lie ∙ laid-anchor anchors d.anchors few j w;
    scored = λ j w. ap (entry j) scores_lie
        ∙ laid_at full_scores result.scores b.scores (omega (arith, few, T.placed.is.result.size)) (j - 1) (omega (arith, w.low, w.high, few));
    chained = ap (take r.length) chain-lies ∙ take-laid full_chain r.length result.chain b.chain long;
    in_file = returned-within T.both.graph.graph anchors result.scores T.placed.is.result.returned;
  }

  pub some-shown : SomeShown r.anchors r.score r.rounds r.length e.anchors after.scores after.chain
  some-shown = record { list = anchors; result = result; shown = shown }

  -- what is laid of them is the listing
  pub found-listed : (old out : List ℕ) (n : ℕ)
      → ((l : List Anchor) (t : Result) → Shown l t r.anchors r.score r.rounds r.length e.anchors after.scores after.chain → Printed (listing_of l t) old out n)
      → Listed graph file old out n
  found-listed old out n p = record {
    outcome = subst (λ (x : Reply Both). Outcome x old out n) (sym T.found) (record { result = result; is = T.placed.is; printed = p anchors result shown });
  }

-- ---- a file that is missing

module _ (old out : List ℕ) (n : ℕ) where
  -- one is missing, and it is named
  pub missing-printed : (g a : File) (file : Missing) → missing_of g a ≡ Some file → Printed (no_file_line (number_of file)) old out n → Output g a old out n
  missing-printed missing a no_graph e p = p
  missing-printed missing a no_anchors e p = absurd (cc)
  missing-printed (read g) missing no_anchors e p = p
  missing-printed (read g) missing no_graph e p = absurd (cc)
  missing-printed (read g) (read a) file e p = absurd (cc)

-- ---- one answer

module _ (old x y : List ℕ) (r q : ℕ) where
  same-printed : (s t : List ℕ) → s ≡ t → Printed s old x r → Printed t old y q → (r ≡ q) × (x ≡ y)
  same-printed s t e h k = (h.count ∙ ap length e ∙ sym k.count, h.bytes ∙ ap (λ (u : List ℕ). front u old) e ∙ sym k.bytes)

  same_outcome : (z : Reply Both) → Outcome z old x r → Outcome z old y q → (r ≡ q) × (x ≡ y)
  same_outcome (accepted p) h k =
      same-printed _ _
      (ap (listing_of p.anchors.set.anchors) (sweep-one p.graph.graph p.anchors.set.anchors h.result k.result h.is k.is))
      h.printed
      k.printed
  same_outcome (refused k f place) h l = same-printed _ _ refl h l

  -- ONE LISTING: the promise over two files' bytes admits one count and one output
  pub one_listing : (graph file : List ℕ) → Listed graph file old x r → Listed graph file old y q → (r ≡ q) × (x ≡ y)
  one_listing graph file h k = same_outcome (both_reply graph file) h.outcome k.outcome

  -- ONE OUTPUT: and so does the promise over files that may be missing
  pub one_output : (graph anchors : File) → Output graph anchors old x r → Output graph anchors old y q → (r ≡ q) × (x ≡ y)
  one_output missing anchors h k = same-printed _ _ refl h k
  one_output (read graph) missing h k = same-printed _ _ refl h k
  one_output (read graph) (read anchors) h k = one_listing graph anchors h k
