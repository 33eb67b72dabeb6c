-- What the delivered entries promise: what the layers' entries promise. b and `after` are the lent buffers before and after the call, r is the answer.
use Rattle.std.specs.Prelude.{ℕ, ◌≡◌, List}
use Rattle.graph.specs.Content.{Graph}
use Rattle.graph.specs.Entries.{Buffers, Given}
use Rattle.graph_read.specs.Answer as graph-read
use Rattle.graph_read.specs.declared.GraphAnswer.{GraphAnswer}
use Rattle.graph_write.specs.Answer as graph-write
use Rattle.graph_write.specs.declared.WrittenAnswer.{WrittenAnswer}
use Rattle.anchors.specs.AnchorEntries.{AnchorBuffers, AnchorsGiven, both_reply}
use Rattle.anchors.specs.View.{View, view_of}
use Rattle.anchors_read.specs.Answer as anchors-read
use Rattle.anchors_read.specs.declared.AnchorsAnswer.{AnchorsAnswer}
use Rattle.anchors_write.specs.Answer as anchors-write
use Rattle.anchors_write.specs.declared.WrittenAnchors.{WrittenAnchors}
use Rattle.cover.specs.TableEntries.{TableBuffers}
use Rattle.tables.specs.Answer as tables
use Rattle.tables.specs.declared.TablesAnswer.{TablesAnswer}
use Rattle.anchors.specs.Anchors.{Anchor}
use Rattle.chain.specs.ChainEntries.{Result, ChainBuffers}
use Rattle.placing.specs.Answer as placing
use Rattle.placing.specs.declared.ChainAnswer.{ChainAnswer}
use Rattle.toadtrellis.specs.declared.ToadPart.{ToadPart}

-- of `toad_read_graph`
abbrev pub GraphRead : List ℕ → Buffers → Buffers → GraphAnswer → Type 0
GraphRead file b after r = graph-read.Answered file b after r

-- of `toad_write_graph`: content c, and an output that has `room` bytes
abbrev pub GraphWritten : Given → ℕ → List ℕ → List ℕ → WrittenAnswer → Type 0
GraphWritten c room before after r = graph-write.Written c room before after r

-- of `toad_read_anchors`
abbrev pub AnchorsRead : List ℕ → List ℕ → AnchorBuffers → AnchorBuffers → AnchorsAnswer → Type 0
AnchorsRead graph file b after r = anchors-read.Answered graph file b after r

-- of `toad_write_anchors`: content c over a graph file
abbrev pub AnchorsWritten : AnchorsGiven → List ℕ → List ℕ → List ℕ → WrittenAnchors → Type 0
AnchorsWritten c graph before after r = anchors-write.Written c graph before after r

-- of `toad_tables`
abbrev pub TablesMade : List ℕ → TableBuffers → TableBuffers → TablesAnswer → Type 0
TablesMade file b after r = tables.Answered file b after r

-- of `toad_sweep` and `toad_plain`: Is says what a result of the engine is
abbrev pub ChainFound : (Graph → List Anchor → Result → Type 0) → List ℕ → List ℕ → ChainBuffers → ChainBuffers → ChainAnswer → Type 0
ChainFound Is graph file b after r = placing.Answered Is graph file b after r

-- where the letters of a view stand in the file named: 0 and 0 for the empty part at the front of the graph file
abbrev pub part_of : View → ToadPart
part_of w = record { start = w.start; length = w.len }

-- of `toad_letters`: anchor number j, in the file named
abbrev pub LettersFound : List ℕ → List ℕ → ℕ → ℕ → ToadPart → Type 0
LettersFound graph anchors j file r = r ≡ part_of (view_of (both_reply graph anchors) j file)
