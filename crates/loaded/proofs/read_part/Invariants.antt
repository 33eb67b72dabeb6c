use Rattle.std.proofs.Common.{length, take, ◌-◌, ◌≤◌}
use Rattle.std.specs.Io.KnownBytes.{Consumes}
use Rattle.loaded.proofs.read_part.Given as goal

abbrev pub invariant-loop-n : goal.invariant-loop-n
invariant-loop-n g l = record {
  in_room : l.n ≤ length l.room;
  gave : Consumes (g.R.Read.remaining l.initial.file) (g.R.Read.remaining l.file) (take l.n l.room);
}

abbrev pub decreases-loop-n : goal.decreases-loop-n
decreases-loop-n g l = length l.initial.room - l.n
