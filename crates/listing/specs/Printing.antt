-- What is printed of two files. Document 01, chapter "Listing".
use Rattle.std.specs.Prelude.{ℕ, List}
use Rattle.wire.specs.Found.{Reply, accepted, refused}
use Rattle.graph.specs.Content.{Graph}
use Rattle.anchors.specs.Anchors.{Anchor}
use Rattle.anchors.specs.AnchorEntries.{Both, both_reply}
use Rattle.chain.specs.ChainEntries.{Result, IsSweep}
use Rattle.listing_lines.specs.Lines.{refused_line, no_file_line, Printed}
use Rattle.listing_result.specs.Showing.{listing_of}
use Rattle.loaded.specs.Files.{File, missing, read}

-- ---- the listing

-- accepted files: the listing of the sweep's result
pub record Found (g : Graph) (anchors : List Anchor) (old after : List ℕ) (r : ℕ) : Type 0 where
  pub result : Result
  pub is : IsSweep g anchors result
  pub printed : Printed (listing_of anchors result) old after r

-- by the reply to both files: the listing, or "Only that line is printed."
abbrev pub Outcome : Reply Both → List ℕ → List ℕ → ℕ → Type 0
Outcome (accepted p) old after r = Found p.graph.graph p.anchors.set.anchors old after r
Outcome (refused k file place) old after r = Printed (refused_line k file place) old after r

-- the promise: `old` and `after` are the output before and after the call, r is how many bytes the listing has
pub record Listed (graph file old after : List ℕ) (r : ℕ) : Type 0 where
  pub outcome : Outcome (both_reply graph file) old after r

-- ---- what is printed

-- "`no file 1` or `no file 2`, both being read, the graph file first, before either is checked", else the listing; "Only that line is printed."
abbrev pub Output : File → File → List ℕ → List ℕ → ℕ → Type 0
Output missing anchors old after r = Printed (no_file_line 1) old after r
Output (read graph) missing old after r = Printed (no_file_line 2) old after r
Output (read graph) (read anchors) old after r = Listed graph anchors old after r
