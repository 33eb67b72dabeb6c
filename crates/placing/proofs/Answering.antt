-- From each way through an entry to its promise; and that the promise admits one answer. Assumes nothing.
use Prim.Native.Nat.{ℕ}
use mathlib.Core.Path.{◌≡◌, refl, sym, ap, ◌∙◌}
use mathlib.Core.List.{List}
use lib.ListN.{length}
use Rattle.wire.specs.Found.{Reply, accepted, refused}
use Rattle.graph.specs.Content.{Graph}
use Rattle.anchors.specs.Anchors.{Anchor}
use Rattle.anchors.specs.AnchorEntries.{Both}
use Rattle.chain.specs.ChainEntries.{Result, IsSweep, IsPlain, ChainBuffers, chain_reply, filled_chain}
use Rattle.chain.proofs.Results.{Same, result-one, swept-one}
use Rattle.placing.specs.declared.ChainAnswer.{ChainAnswer}
use Rattle.placing_over.specs.declared.over.Placement.{Placement}
use Rattle.placing.specs.Answer.{refusal_of, placed_of, acceptance_of, Placed, Outcome, Answered}
use Rattle.placing_over.specs.Laying.{Laid}

module _ (Is : Graph → List Anchor → Result → Type 0) (graph file : List ℕ) (b : ChainBuffers) where
  -- a refusal
  pub refused-answered : (k f place : ℕ) (r : ChainAnswer) → chain_reply graph file b ≡ refused k f place → r ≡ refusal_of k f place → Answered Is graph file b b r
  refused-answered k f place r q e = record { outcome = rw q (record { buffers = refl; answer = e }) }

  -- accepted files
  pub accepted-answered : (p : Both) (after : ChainBuffers) (t : Placement) (n : ℕ) (r : ChainAnswer) → chain_reply graph file b ≡ accepted p → length p.anchors.set.anchors ≡ n
      → Laid Is p.graph.graph p.anchors.set.anchors b after t → r ≡ placed_of n t → Answered Is graph file b after r
  accepted-answered p after t n r q e L a = record { outcome = rw q placed }
    where
      placed : Placed Is p.graph.graph p.anchors.set.anchors b after r
      placed = record {
        result = L.result;
        is = L.is;
        buffers = L.buffers;
        answer = a ∙ (λ i. placed_of (sym e i) (L.placement i));
      }

-- ---- one answer

same-result : (r t : Result) → Same r t → r.rounds ≡ t.rounds → r ≡ t
same-result r t s e = λ i. record { scores = s.scores i; chain = s.chain i; score = s.score i; rounds = e i }

-- an engine has one result
pub sweep-one : (g : Graph) (anchors : List Anchor) (r t : Result) → IsSweep g anchors r → IsSweep g anchors t → r ≡ t
sweep-one g anchors r t p q = same-result r t (result-one g anchors r t p.result q.result) (swept-one g anchors _ _ _ _ p.swept q.swept).0

pub plain_one : (g : Graph) (anchors : List Anchor) (r t : Result) → IsPlain g anchors r → IsPlain g anchors t → r ≡ t
plain_one g anchors r t p q = same-result r t (result-one g anchors r t p.result q.result) (p.none ∙ sym q.none)

module _ (Is : Graph → List Anchor → Result → Type 0) (one : (g : Graph) (anchors : List Anchor) (r t : Result) → Is g anchors r → Is g anchors t → r ≡ t)
    (graph file : List ℕ) (b : ChainBuffers) where
  same_outcome : (x : Reply Both) (c d : ChainBuffers) (r q : ChainAnswer) → Outcome Is x b c r → Outcome Is x b d q → (r ≡ q) × (c ≡ d)
  same_outcome (accepted p) c d r q h k =
      let s : h.result ≡ k.result = one p.graph.graph p.anchors.set.anchors h.result k.result h.is k.is in
      (h.answer ∙ ap (acceptance_of p.anchors.set.anchors) s ∙ sym k.answer, h.buffers ∙ ap (λ (t : Result). filled_chain t b) s ∙ sym k.buffers)
  same_outcome (refused n f place) c d r q h k = (h.answer ∙ sym k.answer, h.buffers ∙ sym k.buffers)

  -- THE PROMISE OF AN ENTRY ADMITS ONE ANSWER, and one content of every buffer, where its engine has one result
  pub one_answer : (c d : ChainBuffers) (r q : ChainAnswer) → Answered Is graph file b c r → Answered Is graph file b d q → (r ≡ q) × (c ≡ d)
  one_answer c d r q h k = same_outcome (chain_reply graph file b) c d r q h.outcome k.outcome

-- "The plain pass over pairs returns the same scores and chain": the two entries differ in the rounds alone
pub engines_agree : (g : Graph) (anchors : List Anchor) (r t : Result) → IsSweep g anchors r → IsPlain g anchors t → Same r t
engines_agree g anchors r t p q = result-one g anchors r t p.result q.result
