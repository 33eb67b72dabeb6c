-- What `toad_sweep` and `toad_plain` answer on accepted files is what demands 2 and 3 of the order ask for.
-- Assumes nothing.
use Prim.Native.Nat.{ℕ}
use mathlib.Core.Path.{◌≡◌, ap, subst}
use mathlib.Core.Bool.{true}
use mathlib.Core.List.{List}
use lib.ListN.{length}
use Rattle.wire.specs.Found.{Reply, accepted}
use Rattle.graph.specs.Content.{Graph}
use Rattle.anchors.specs.Anchors.{Anchor}
use Rattle.anchors.specs.AnchorEntries.{Both, both_reply}
use Rattle.anchors.proofs.BothFiles.{both-taken, both-good}
use Rattle.chain.specs.ChainEntries.{Result, ChainBuffers, roomy_chain, chain_reply, filled_chain, IsSweep, IsPlain}
use Rattle.chain.specs.Demands.{Demanded}
use Rattle.chain.proofs.Demands.{sweep_demanded, plain_demanded}
use Rattle.placing.specs.Answer.{Outcome}
use Rattle.placing.specs.declared.ChainAnswer.{ChainAnswer}
use Rattle.toadtrellis.specs.Promises.{ChainFound}

-- a result that meets the demands lies in the buffers, and its numbers are in the answer
pub record Met (Is : Graph → List Anchor → Result → Type 0) (g : Graph) (anchors : List Anchor) (b after : ChainBuffers) (r : ChainAnswer) : Type 0 where
  pub result : Result
  pub is : Is g anchors result
  pub demanded : Demanded g anchors result
  pub buffers : after ≡ filled_chain result b
  pub number : r.number ≡ 0
  pub count : r.anchors ≡ length anchors
  pub score : r.score ≡ result.score
  pub rounds : r.rounds ≡ result.rounds
  pub long : r.length ≡ length result.chain

module _ (graph file : List ℕ) (b after : ChainBuffers) (r : ChainAnswer) (p : Both) (full : roomy_chain b ≡ true) (both : both_reply graph file ≡ accepted p) where
  reply : chain_reply graph file b ≡ accepted p
  unfolding chain_reply
  reply = simp (full, both)

  met : (Is : Graph → List Anchor → Result → Type 0) → ((t : Result) → Is p.graph.graph p.anchors.set.anchors t → Demanded p.graph.graph p.anchors.set.anchors t)
      → ChainFound Is graph file b after r → Met Is p.graph.graph p.anchors.set.anchors b after r
  met Is D h =
      let o = subst (λ (x : Reply Both). Outcome Is x b after r) reply h.outcome in
      record {
        result = o.result;
        is = o.is;
        demanded = D o.result o.is;
        buffers = o.buffers;
        number = ap (λ (a : ChainAnswer). a.number) o.answer;
        count = ap (λ (a : ChainAnswer). a.anchors) o.answer;
        score = ap (λ (a : ChainAnswer). a.score) o.answer;
        rounds = ap (λ (a : ChainAnswer). a.rounds) o.answer;
        long = ap (λ (a : ChainAnswer). a.length) o.answer;
      }

  -- "Given any anchor, the chain is valid, no valid chain of the given anchors scores higher, and of equal chains the named one comes back."
  pub sweep_met : ChainFound IsSweep graph file b after r → Met IsSweep p.graph.graph p.anchors.set.anchors b after r
  sweep_met = let (G, A) = both-good graph file p (both-taken graph file p both) in met IsSweep (sweep_demanded G A)

  pub plain_met : ChainFound IsPlain graph file b after r → Met IsPlain p.graph.graph p.anchors.set.anchors b after r
  plain_met = let (G, A) = both-good graph file p (both-taken graph file p both) in met IsPlain (plain_demanded G A)
