-- What is laid out of the buffers that a result is in, is its listing. Assumes nothing.
use Prim.Native.Nat.{ℕ, ◌≤◌}
use mathlib.Core.Path.{◌≡◌, sym, ap, ◌∙◌, subst}
use mathlib.Core.List.{List, ◌++◌}
use native.Mathlib.Omega.{arith}
use lib.ListN.{length, get_or, take, length-take}
use Rattle.wire.specs.Lent.{front}
use Rattle.wire.specs.Sizes.{full_chain}
use Rattle.rounds.specs.Rounds.{Within}
use Rattle.rounds.specs.Table.{entry}
use Rattle.anchors.specs.Anchors.{Anchor}
use Rattle.chain.specs.Steps.{anchor_at}
use Rattle.chain.specs.ChainEntries.{Result}
use Rattle.listing_lines.specs.Lines.{found_line, Printed}
use Rattle.listing_text.specs.Lines.{anchor_line, line_in, Numbered, lines_in}
use Rattle.listing_text.proofs.Each.{each_same}
use Rattle.listing_result.specs.Showing.{anchor_lines, listing_of, Shown}

module _ (l : List Anchor) (t : Result) (anchors score rounds long : ℕ) (numbers scores chain : List ℕ) (S : Shown l t anchors score rounds long numbers scores chain) where
  -- the chain's length is within its buffer, and so is N
  pub shown-fits : (long ≤ full_chain) × (anchors ≤ full_chain)
  shown-fits = (omega (arith, S.long_is, ap length S.chained, length-take long chain, S.chain_room), omega (arith, S.anchors_is, S.few))

  -- what is shown are anchors
  pub shown_numbered : Numbered numbers scores (take long chain)
  shown_numbered =
      subst (λ (js : List ℕ). Numbered numbers scores js) (sym S.chained)
      (λ i h. let w = S.in_file i h in (w.low, omega (arith, w.high, S.few, S.scores_room), omega (arith, w.high, S.few, S.numbers_room)))

  same_line : (j : ℕ) → Within (length l) j → line_in numbers scores j ≡ anchor_line j (anchor_at l j) (entry j t.scores)
  same_line j w =
      let a = S.held j w in
      let s = S.scored j w in
      λ i. anchor_line j (a i) (s i)

  same_lines : lines_in numbers scores (take long chain) ≡ anchor_lines l t.scores t.chain
  same_lines =
      ap (λ (js : List ℕ). lines_in numbers scores js) S.chained
      ∙ each_same _ (λ j. anchor_line j (anchor_at l j) (entry j t.scores)) t.chain (λ i h. same_line (get_or t.chain i 0) (S.in_file i h))

  same_first : found_line anchors score rounds ≡ found_line (length l) t.score t.rounds
  same_first = λ i. found_line (S.anchors_is i) (S.score_is i) (S.rounds_is i)

  same_text : found_line anchors score rounds ++ lines_in numbers scores (take long chain) ≡ listing_of l t
  unfolding listing_of
  same_text = λ i. same_first i ++ same_lines i

  -- the first line and the lines from the buffers are the listing
  pub shown-printed : (old out : List ℕ) (r : ℕ) → r ≡ length (found_line anchors score rounds ++ lines_in numbers scores (take long chain))
      → out ≡ front (found_line anchors score rounds ++ lines_in numbers scores (take long chain)) old → Printed (listing_of l t) old out r
  shown-printed old out r e f = subst (λ (u : List ℕ). Printed u old out r) same_text (record { count = e; bytes = f })
