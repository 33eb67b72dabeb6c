-- The refusal numbers of document 01, chapter "Refusal numbers", in its words and order, and the two files that an answer names.
use Rattle.std.specs.Prelude.{ℕ}
use Rattle.wire.specs.declared.refusals.Refusal.{Refusal}
use Rattle.wire.specs.declared.refusals.Refusal.TheVariants.{
  BytesEnd,
  BadNumber,
  WrongKind,
  OutOfRange,
  NotLetter,
  NoVertex,
  NotRising,
  NotEdge,
  OnNoPath,
  LeftOver,
  Outside,
  LettersDiffer,
  SmallBuffer,
  ShortOutput,
}
use Rattle.wire.specs.declared.refusals.File.{File}
use Rattle.wire.specs.declared.refusals.File.TheVariants.{Graph, Anchors}

-- "bytes end within the file"
abbrev pub bytes_end : ℕ
bytes_end = 1

-- "number not in fewest bytes, or too great"
abbrev pub bad_number : ℕ
bad_number = 2

-- "first number not the kind wanted"
abbrev pub wrong_kind : ℕ
wrong_kind = 3

-- "a count, length or weight out of range; file too long"
abbrev pub out_of_range : ℕ
out_of_range = 4

-- "not a letter"
abbrev pub not_letter : ℕ
not_letter = 5

-- "no such vertex"
abbrev pub no_vertex : ℕ
no_vertex = 6

-- "edges, anchors or a path not strictly rising"
abbrev pub not_rising : ℕ
not_rising = 7

-- "a path step that is not an edge"
abbrev pub not_edge : ℕ
not_edge = 8

-- "a vertex on no path"
abbrev pub on_no_path : ℕ
on_no_path = 9

-- "bytes left over"
abbrev pub left_over : ℕ
left_over = 10

-- "anchor outside label or read, or x, c or length 0"
abbrev pub outside : ℕ
outside = 11

-- "anchor's letters differ"
abbrev pub letters_differ : ℕ
letters_differ = 12

-- "a lent buffer below full size"
abbrev pub small_buffer : ℕ
small_buffer = 13

-- "the writer's output is too short"
abbrev pub short_output : ℕ
short_output = 14

-- "the file (1 graph, 2 anchors)"
abbrev pub graph_file : ℕ
graph_file = 1

abbrev pub anchor_file : ℕ
anchor_file = 2

-- the number of a refusal
abbrev pub code : Refusal → ℕ
code BytesEnd = bytes_end
code BadNumber = bad_number
code WrongKind = wrong_kind
code OutOfRange = out_of_range
code NotLetter = not_letter
code NoVertex = no_vertex
code NotRising = not_rising
code NotEdge = not_edge
code OnNoPath = on_no_path
code LeftOver = left_over
code Outside = outside
code LettersDiffer = letters_differ
code SmallBuffer = small_buffer
code ShortOutput = short_output

-- the number of a file
abbrev pub file_number : File → ℕ
file_number Graph = graph_file
file_number Anchors = anchor_file
