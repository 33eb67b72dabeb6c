-- Each promise of a delivered entry admits one answer, and one content of every lent buffer.
-- Assumes nothing.
use Prim.Native.Nat.{ℕ}
use mathlib.Core.Path.{◌≡◌, sym, ◌∙◌}
use mathlib.Core.List.{List}
use Rattle.graph.specs.Entries.{Buffers, Given}
use Rattle.graph_read.specs.Answer as graph-read
use Rattle.graph_read.specs.declared.GraphAnswer.{GraphAnswer}
use Rattle.graph_write.specs.Answer as graph-write
use Rattle.graph_write.specs.declared.WrittenAnswer.{WrittenAnswer}
use Rattle.anchors.specs.AnchorEntries.{AnchorBuffers, AnchorsGiven}
use Rattle.anchors_read.specs.Answer as anchors-read
use Rattle.anchors_read.specs.declared.AnchorsAnswer.{AnchorsAnswer}
use Rattle.anchors_write.specs.Answer as anchors-write
use Rattle.anchors_write.specs.declared.WrittenAnchors.{WrittenAnchors}
use Rattle.chain.specs.ChainEntries.{ChainBuffers, IsSweep, IsPlain}
use Rattle.cover.specs.TableEntries.{TableBuffers}
use Rattle.placing.proofs.Answering as placing
use Rattle.placing.specs.declared.ChainAnswer.{ChainAnswer}
use Rattle.tables.proofs.Tabling as tables
use Rattle.tables.specs.declared.TablesAnswer.{TablesAnswer}
use Rattle.toadtrellis.specs.declared.ToadPart.{ToadPart}
use Rattle.toadtrellis.specs.Promises.{GraphRead, GraphWritten, AnchorsRead, AnchorsWritten, TablesMade, ChainFound, LettersFound}

pub graph-read-one : (file : List ℕ) (b x y : Buffers) (r q : GraphAnswer) → GraphRead file b x r → GraphRead file b y q → (r ≡ q) × (x ≡ y)
graph-read-one = graph-read.one_answer

pub graph_written_one : (c : Given) (room : ℕ) (before x y : List ℕ) (r q : WrittenAnswer)
    → GraphWritten c room before x r → GraphWritten c room before y q → (r ≡ q) × (x ≡ y)
graph_written_one = graph-write.one_answer

pub anchors-read-one : (graph file : List ℕ) (b x y : AnchorBuffers) (r q : AnchorsAnswer)
    → AnchorsRead graph file b x r → AnchorsRead graph file b y q → (r ≡ q) × (x ≡ y)
anchors-read-one = anchors-read.one_answer

pub anchors_written_one : (c : AnchorsGiven) (graph before x y : List ℕ) (r q : WrittenAnchors)
    → AnchorsWritten c graph before x r → AnchorsWritten c graph before y q → (r ≡ q) × (x ≡ y)
anchors_written_one = anchors-write.one_answer

pub tables-made-one : (file : List ℕ) (b x y : TableBuffers) (r q : TablesAnswer) → TablesMade file b x r → TablesMade file b y q → (r ≡ q) × (x ≡ y)
tables-made-one = tables.one_answer

pub sweep-found-one : (graph file : List ℕ) (b x y : ChainBuffers) (r q : ChainAnswer)
    → ChainFound IsSweep graph file b x r → ChainFound IsSweep graph file b y q → (r ≡ q) × (x ≡ y)
sweep-found-one = placing.one_answer IsSweep placing.sweep-one

pub plain_found-one : (graph file : List ℕ) (b x y : ChainBuffers) (r q : ChainAnswer)
    → ChainFound IsPlain graph file b x r → ChainFound IsPlain graph file b y q → (r ≡ q) × (x ≡ y)
plain_found-one = placing.one_answer IsPlain placing.plain_one

pub letters-found-one : (graph anchors : List ℕ) (j file : ℕ) (r q : ToadPart)
    → LettersFound graph anchors j file r → LettersFound graph anchors j file q → r ≡ q
letters-found-one graph anchors j file r q h k = h ∙ sym k
