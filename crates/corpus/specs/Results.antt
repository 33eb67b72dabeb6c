-- What the answers and digests of a line are: those of the proved entries, called with buffers of zeros, each of full size.
use Rattle.std.specs.Prelude.{ℕ, ◌≡◌, List, Bool, true}
use Rattle.graph.specs.Entries.{Buffers}
use Rattle.anchors.specs.AnchorEntries.{AnchorBuffers}
use Rattle.cover.specs.TableEntries.{TableBuffers}
use Rattle.chain.specs.ChainEntries.{ChainBuffers, IsSweep, IsPlain}
use Rattle.wire_lent.specs.Zeros.{zeros}
use Rattle.tables.specs.Answer.{Answered as TablesAnswered}
use Rattle.tables.specs.declared.TablesAnswer.{TablesAnswer}
use Rattle.placing.specs.Answer.{Answered as ChainAnswered}
use Rattle.placing.specs.declared.ChainAnswer.{ChainAnswer}
use Rattle.caseinput.specs.Digest.{digest_start, digest_numbers}

-- the buffers that are lent: to the graph file's reader
abbrev pub fresh_graph : Buffers
fresh_graph = record { letters = zeros 32768; lengths = zeros 1024; edges = zeros 8192; paths = zeros 16384; counts = zeros 16 }

-- to the anchor file's reader
abbrev pub fresh_anchors : AnchorBuffers
fresh_anchors = record { letters = zeros 32768; anchors = zeros 10240 }

-- to the entry for tables
abbrev pub fresh_tables : TableBuffers
fresh_tables = record { reach = zeros 16384; distance = zeros 16384; closed = zeros 1024 }

-- to the sweep, and to the plain pass
abbrev pub fresh_chain : ChainBuffers
fresh_chain = record { scores = zeros 2048; chain = zeros 2048 }

-- the entry for tables answers r, and the digest is that of what it leaves in the buffers
pub record TablesDigest (file : List ℕ) (r : TablesAnswer) (digest : ℕ) : Type 0 where
  pub after : TableBuffers
  pub answered : TablesAnswered file fresh_tables after r
  pub digested : digest ≡ digest_numbers (digest_numbers (digest_numbers digest_start after.reach) after.distance) after.closed

-- two answers are the same, but for the rounds: the plain pass "reports no rounds"
pub record SameButRounds (a b : ChainAnswer) : Type 0 where
  pub number : a.number ≡ b.number
  pub file : a.file ≡ b.file
  pub place : a.place ≡ b.place
  pub anchors : a.anchors ≡ b.anchors
  pub score : a.score ≡ b.score
  pub size : a.length ≡ b.length

-- the plain pass answers the same but for the rounds, and leaves the same scores and the same chain
pub record Audited (graph file : List ℕ) (r : ChainAnswer) (after : ChainBuffers) : Type 0 where
  pub answer : ChainAnswer
  pub answered : ChainAnswered IsPlain graph file fresh_chain after answer
  pub same : SameButRounds r answer

-- the sweep answers r, the digest is that of what it leaves in the buffers, and where `agree` is true the plain pass gives the same
pub record ChainDigest (graph file : List ℕ) (r : ChainAnswer) (digest : ℕ) (agree : Bool) : Type 0 where
  pub after : ChainBuffers
  pub answered : ChainAnswered IsSweep graph file fresh_chain after r
  pub digested : digest ≡ digest_numbers (digest_numbers digest_start after.scores) after.chain
  pub audited : agree ≡ true → Audited graph file r after
