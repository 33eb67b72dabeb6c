-- The entries' answers from buffers that are zeros, and the digests of what they leave. Assumes nothing.
use Prim.Native.Nat.{ℕ}
use mathlib.Core.Path.{◌≡◌, ap, sym, ◌∙◌, subst}
use mathlib.Core.List.{List}
use mathlib.Core.Bool.{Bool, true}
use Rattle.graph.specs.Entries.{Buffers, read_reply}
use Rattle.graph_read.specs.Answer.{answer_of as graph_answer}
use Rattle.graph_read.specs.declared.GraphAnswer.{GraphAnswer}
use Rattle.anchors.specs.AnchorEntries.{AnchorBuffers, read_anchors_reply}
use Rattle.anchors_read.specs.Answer.{answer_of as anchors_answer}
use Rattle.anchors_read.specs.declared.AnchorsAnswer.{AnchorsAnswer}
use Rattle.cover.specs.TableEntries.{TableBuffers}
use Rattle.chain.specs.ChainEntries.{ChainBuffers, IsSweep, IsPlain}
use Rattle.wire_lent.specs.Zeros.{zeros}
use Rattle.tables.specs.Answer.{Answered as TablesAnswered}
use Rattle.tables.specs.declared.TablesAnswer.{TablesAnswer}
use Rattle.placing.specs.Answer.{Answered as ChainAnswered}
use Rattle.placing.specs.declared.ChainAnswer.{ChainAnswer}
use Rattle.caseinput.specs.Digest.{digest_start, digest_numbers}
use Rattle.corpus.specs.Results.{fresh_graph, fresh_anchors, fresh_tables, fresh_chain, TablesDigest, SameButRounds, Audited, ChainDigest}

pub tables_digest : (file reach distance closed : List ℕ) (after : TableBuffers) (r : TablesAnswer) (x y z : ℕ)
    → reach ≡ zeros 16384 → distance ≡ zeros 16384 → closed ≡ zeros 1024
    → TablesAnswered file (record { reach = reach; distance = distance; closed = closed }) after r
    → x ≡ digest_numbers digest_start after.reach → y ≡ digest_numbers x after.distance → z ≡ digest_numbers y after.closed
    → TablesDigest file r z
tables_digest file reach distance closed after r x y z p q s a d e f =
    let same : ◌≡◌ {A = TableBuffers} (record { reach = reach; distance = distance; closed = closed }) fresh_tables = cc in
    record {
      after = after;
      answered = subst (λ (b : TableBuffers). TablesAnswered file b after r) same a;
      digested = f ∙ ap (λ (h : ℕ). digest_numbers h after.closed) (e ∙ ap (λ (h : ℕ). digest_numbers h after.distance) d);
    }

-- buffers with the same lists are the same
chain_same : (scores chain own own_chain : List ℕ) → scores ≡ own → chain ≡ own_chain
    → ◌≡◌ {A = ChainBuffers} (record { scores = scores; chain = chain }) (record { scores = own; chain = own_chain })
chain_same scores chain own own_chain p q = cc

-- what holds of the buffers lent holds of zeros
from-zeros : (P : ChainBuffers → Type 0) (scores chain : List ℕ) → scores ≡ zeros 2048 → chain ≡ zeros 2048 → P (record { scores = scores; chain = chain }) → P fresh_chain
from-zeros P scores chain p q a = subst P (chain_same scores chain (zeros 2048) (zeros 2048) p q) a

pub audit : (graph file own own_chain scores chain after after_chain : List ℕ) (swept r : ChainAnswer)
    → own ≡ zeros 2048 → own_chain ≡ zeros 2048
    → ChainAnswered IsPlain graph file (record { scores = own; chain = own_chain }) (record { scores = after; chain = after_chain }) r
    → SameButRounds swept r → scores ≡ after → chain ≡ after_chain
    → Audited graph file swept (record { scores = scores; chain = chain })
audit graph file own own_chain scores chain after after_chain swept r p q a s e f = record {
  answer = r;
  answered = subst (λ (b : ChainBuffers). ChainAnswered IsPlain graph file fresh_chain b r) (sym (chain_same scores chain after after_chain e f)) (from-zeros (λ (b : ChainBuffers). ChainAnswered IsPlain graph file b (record { scores = after; chain = after_chain }) r) own own_chain p q a);
  same = s;
}

pub chain_digest : (graph file scores chain : List ℕ) (after : ChainBuffers) (r : ChainAnswer) (agree : Bool) (x y : ℕ)
    → scores ≡ zeros 2048 → chain ≡ zeros 2048
    → ChainAnswered IsSweep graph file (record { scores = scores; chain = chain }) after r
    → (agree ≡ true → Audited graph file r after)
    → x ≡ digest_numbers digest_start after.scores → y ≡ digest_numbers x after.chain
    → ChainDigest graph file r y agree
chain_digest graph file scores chain after r agree x y p q a s d e = record {
  after = after;
  answered = from-zeros (λ (b : ChainBuffers). ChainAnswered IsSweep graph file b after r) scores chain p q a;
  digested = e ∙ ap (λ (h : ℕ). digest_numbers h after.chain) d;
  audited = s;
}

pub graph-read : (file letters lengths edges paths counts : List ℕ) (r : GraphAnswer)
    → letters ≡ zeros 32768 → lengths ≡ zeros 1024 → edges ≡ zeros 8192 → paths ≡ zeros 16384 → counts ≡ zeros 16
    → r ≡ graph_answer (read_reply file (record { letters = letters; lengths = lengths; edges = edges; paths = paths; counts = counts }))
    → r ≡ graph_answer (read_reply file fresh_graph)
graph-read file letters lengths edges paths counts r p q s t u a =
    let same : ◌≡◌ {A = Buffers} (record { letters = letters; lengths = lengths; edges = edges; paths = paths; counts = counts }) fresh_graph = cc in
    a ∙ ap (λ (b : Buffers). graph_answer (read_reply file b)) same

pub anchors-read : (graph file letters anchors : List ℕ) (r : AnchorsAnswer)
    → letters ≡ zeros 32768 → anchors ≡ zeros 10240
    → r ≡ anchors_answer (read_anchors_reply graph file (record { letters = letters; anchors = anchors }))
    → r ≡ anchors_answer (read_anchors_reply graph file fresh_anchors)
anchors-read graph file letters anchors r p q a =
    let same : ◌≡◌ {A = AnchorBuffers} (record { letters = letters; anchors = anchors }) fresh_anchors = cc in
    a ∙ ap (λ (b : AnchorBuffers). anchors_answer (read_anchors_reply graph file b)) same
