-- What the plain pass and the sweep answer on the same files and buffers.
-- Assumes nothing.
use Prim.Native.Nat.{ℕ}
use mathlib.Core.Path.{◌≡◌, sym, ap, ◌∙◌}
use mathlib.Core.List.{List}
use lib.ListN.{length}
use Rattle.wire.specs.Found.{Reply, accepted, refused}
use Rattle.anchors.specs.AnchorEntries.{Both}
use Rattle.chain.specs.ChainEntries.{ChainBuffers, chain_reply, filled_chain, IsSweep, IsPlain}
use Rattle.placing.specs.Answer.{Outcome}
use Rattle.placing.specs.declared.ChainAnswer.{ChainAnswer}
use Rattle.placing.proofs.Answering.{engines_agree}
use Rattle.toadtrellis.specs.Promises.{ChainFound}

-- the sweep's answer r and the plain pass's answer q have the same in all but the rounds, and leave the same in every place of the buffers
pub record Audited (x y : ChainBuffers) (r q : ChainAnswer) : Type 0 where
  pub buffers : x ≡ y
  pub number : r.number ≡ q.number
  pub file : r.file ≡ q.file
  pub place : r.place ≡ q.place
  pub anchors : r.anchors ≡ q.anchors
  pub score : r.score ≡ q.score
  pub long : r.length ≡ q.length
  pub none : q.rounds ≡ 0

module _ (b x y : ChainBuffers) (r q : ChainAnswer) where
  by_reply : (t : Reply Both) → Outcome IsSweep t b x r → Outcome IsPlain t b y q → Audited x y r q
  unfolding filled_chain
  by_reply (accepted p) h k =
      let s = engines_agree p.graph.graph p.anchors.set.anchors h.result k.result h.is k.is in
      let same : filled_chain h.result b ≡ filled_chain k.result b = rw (s.scores, s.chain) in
      record {
        buffers = h.buffers ∙ same ∙ sym k.buffers;
        number = ap (λ (a : ChainAnswer). a.number) h.answer ∙ sym (ap (λ (a : ChainAnswer). a.number) k.answer);
        file = ap (λ (a : ChainAnswer). a.file) h.answer ∙ sym (ap (λ (a : ChainAnswer). a.file) k.answer);
        place = ap (λ (a : ChainAnswer). a.place) h.answer ∙ sym (ap (λ (a : ChainAnswer). a.place) k.answer);
        anchors = ap (λ (a : ChainAnswer). a.anchors) h.answer ∙ sym (ap (λ (a : ChainAnswer). a.anchors) k.answer);
        score = ap (λ (a : ChainAnswer). a.score) h.answer ∙ s.score ∙ sym (ap (λ (a : ChainAnswer). a.score) k.answer);
        long = ap (λ (a : ChainAnswer). a.length) h.answer ∙ ap length s.chain ∙ sym (ap (λ (a : ChainAnswer). a.length) k.answer);
        none = ap (λ (a : ChainAnswer). a.rounds) k.answer ∙ k.is.none;
      }
  by_reply (refused n f place) h k =
      let e : r ≡ q = h.answer ∙ sym k.answer in
      record {
        buffers = h.buffers ∙ sym k.buffers;
        number = ap (λ (a : ChainAnswer). a.number) e;
        file = ap (λ (a : ChainAnswer). a.file) e;
        place = ap (λ (a : ChainAnswer). a.place) e;
        anchors = ap (λ (a : ChainAnswer). a.anchors) e;
        score = ap (λ (a : ChainAnswer). a.score) e;
        long = ap (λ (a : ChainAnswer). a.length) e;
        none = ap (λ (a : ChainAnswer). a.rounds) k.answer;
      }

-- "The plain pass over pairs returns the same scores and chain."
pub audit : (graph file : List ℕ) (b x y : ChainBuffers) (r q : ChainAnswer) → ChainFound IsSweep graph file b x r → ChainFound IsPlain graph file b y q
    → Audited x y r q
audit graph file b x y r q h k = by_reply b x y r q (chain_reply graph file b) h.outcome k.outcome
