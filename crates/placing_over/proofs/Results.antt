-- From the scores of an engine and the chain laid to the engine's result. Assumes nothing.
use Prim.Native.Nat.{ℕ, ◌-◌, ◌≤◌}
use mathlib.Core.Path.{◌≡◌, sym, ap, ◌∙◌, subst}
use native.Mathlib.Omega.{arith}
use mathlib.Core.List.{List, ◌++◌}
use lib.ListN.{length, take, drop, replicate, length-append, length-drop}
use lib.Seq.{take-append_seam}
use Rattle.wire.specs.Lent.{padded, laid}
use Rattle.wire.specs.Sizes.{full_scores}
use Rattle.rounds.proofs.Upto.{within}
use Rattle.graph.specs.Content.{Graph}
use Rattle.anchors.specs.Anchors.{Anchor, AnchorSet}
use Rattle.chain.specs.Named.{Returned}
use Rattle.chain.specs.ChainEntries.{Result, IsResult, filled_chain, ChainBuffers}
use Rattle.steps.specs.Setting.{Setting, Holds, Prepared}
use Rattle.steps.specs.Scores.{AllBest, Scored}
use Rattle.tables.proofs.Tabling.{laid_part}
use Rattle.named_chain.specs.Returning.{ChainLaid}
use Rattle.placing_over.specs.declared.over.Placement.{Placement}
use Rattle.placing_over.specs.Laying.{Ended, Laid}

-- the part that was lent, taken back
pub part_taken : (n : ℕ) (part old : List ℕ) → length part ≡ n → take n (part ++ drop n old) ≡ part
part_taken n part old e = rw (← e) (take-append_seam part (drop (length part) old))

-- what is laid into a buffer of the same length is no longer than the full size
pub laid-short : (full : ℕ) (used old after : List ℕ) → after ≡ laid full used old → length after ≡ length old → full ≤ length old → length used ≤ full
unfolding laid padded
laid-short full used old after e l h = omega (
  arith,
  ap length e,
  length-append (used ++ replicate (full - length used) 0) (drop full old),
  length-append used (replicate (full - length used) 0),
  length-drop full old,
)

-- an engine left its scores S, each the best, at the front of the buffer
module _ {s : Setting} (S old : List ℕ) (l : length S ≡ s.count) (best : AllBest s S) where
  -- so the way back may start
  pub scored-front : Prepared s → Scored s (take s.count (S ++ drop s.count old))
  scored-front p = subst (Scored s) (sym (part_taken s.count S old l)) (record { g = p.g; a = p.a; holds = p.holds; size = l; best = best p.g p.a p.holds })

  -- the result is there in all but what the engine says besides
  module _ {g : Graph} {a : AnchorSet} (H : Holds s g a) (rounds : ℕ) where
    result-is : (js : List ℕ) (score : ℕ) → Returned g a.anchors S js score → IsResult g a.anchors (record { scores = S; chain = js; score = score; rounds = rounds })
    result-is js score r = record {
      size = l ∙ sym H.anchors_are;
      best = λ j w. best g a H j (within w.low (omega (arith, w.high, H.anchors_are)));
      returned = r;
    }

    -- with the chain laid by these scores, the engine's result lies in the buffers
    pub laid_by : (Is : Graph → List Anchor → Result → Type 0) {chain : List ℕ} {after : ChainBuffers} {t : Placement} → s.count ≤ full_scores
        → ((js : List ℕ) (score : ℕ) → IsResult g a.anchors (record { scores = S; chain = js; score = score; rounds = rounds }) → Is g a.anchors (record { scores = S; chain = js; score = score; rounds = rounds }))
        → Ended s rounds (record { scores = S ++ drop s.count old; chain = chain }) after t
        → Laid Is g a.anchors (record { scores = old; chain = chain }) after t
    unfolding filled_chain
    laid_by Is {chain} {after} {t} few is E =
        let c = subst (λ (R : List ℕ). ChainLaid s R chain after.chain t.length t.score) (part_taken s.count S old l) E.chain in
        let q : after.scores ≡ laid full_scores S old = E.scores ∙ laid_part full_scores s.count S old l few in
        record {
          result = record { scores = S; chain = c.js; score = t.score; rounds = rounds };
          is = is c.js t.score (result-is c.js t.score (c.returned g a H));
          buffers = λ i. record { scores = q i; chain = c.lies i };
          placement = λ i. record { score = t.score; rounds = E.rounds i; length = sym c.long i };
        }
