-- A view as the code holds it.
use Rattle.std.specs.Prelude.{ℕ, ◌+◌, ◌≤◌, List, length, eqb}
use Rattle.wire.specs.Cases.{pick}
use Rattle.wire.specs.Refusals.{graph_file, file_number}
use Rattle.anchors.specs.View.{View, bytes_of}
use Rattle.anchors_view.specs.declared.view.Viewed.{Viewed}

-- the view that code holds
abbrev pub view_held : Viewed → View
view_held w = record { file = file_number w.file; start = w.start; len = w.len }

-- the part that it names lies within its file
abbrev pub Inside : Viewed → List ℕ → List ℕ → Type 0
Inside w graph anchors = w.start + w.len ≤ length (pick (eqb (file_number w.file) graph_file) graph anchors)

-- the bytes of that part, whatever the two files hold
abbrev pub viewed_bytes : Viewed → List ℕ → List ℕ → List ℕ
viewed_bytes w graph anchors = bytes_of (view_held w) graph anchors
