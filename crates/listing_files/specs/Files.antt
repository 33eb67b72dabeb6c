-- What is written of two files.
use Rattle.std.specs.Prelude.{ℕ, List, take, Option}
use Rattle.std.specs.Io.KnownBytes.{Appends}
use Rattle.loaded.specs.Files.{File}
use Rattle.listing.specs.Printing.{Output}

-- a writer that held `old` holds `new`: with what is printed of two files after it. What loading each of the files gave is the system's word.
pub record Wrote (old new : Option (List ℕ)) : Type 0 where
  pub graph : File
  pub anchors : File
  -- the output before and after it was laid there, and how many bytes that took
  pub before : List ℕ
  pub after : List ℕ
  pub count : ℕ
  pub printed : Output graph anchors before after count
  pub written : Appends old new (take count after)
