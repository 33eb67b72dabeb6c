-- What loading a file gave, as the file that was read.
use Rattle.std.specs.Prelude.{List, ℕ, Option, Some, None}
use Rattle.loaded.specs.declared.Missing.{Missing}
use Rattle.loaded.specs.declared.Missing.TheVariants.{Graph, Anchors}

-- a file as it was read: it "cannot be opened or read", or its bytes
pub data File : Type 0 where
  missing : File
  read : List ℕ → File

-- what loading gave: the file's bytes, or none
abbrev pub file_in : Option (List ℕ) → File
file_in (Some bytes) = read bytes
file_in None = missing

-- the file that is missing, the graph file first, or none where both were read: for the code; the rule is `Output` (listing), tied by the proof of
-- `output` there
abbrev pub missing_of : File → File → Option Missing
missing_of missing anchors = Some Graph
missing_of (read graph) missing = Some Anchors
missing_of (read graph) (read anchors) = None

-- "`no file 1` or `no file 2`": the graph file is file 1, the anchor file 2
abbrev pub number_of : Missing → ℕ
number_of Graph = 1
number_of Anchors = 2
