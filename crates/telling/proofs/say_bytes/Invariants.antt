use Rattle.std.proofs.Common.{take}
use Rattle.std.specs.Io.KnownBytes.{Appends}
use Rattle.telling.specs.Said.{bytes_text}
use Rattle.telling.proofs.say_bytes.Given as goal

-- the bytes that were passed are written
abbrev pub invariant-loop-b : goal.invariant-loop-b
invariant-loop-b g l = Appends (g.W.Write.contents l.initial.to) (g.W.Write.contents l.to) (bytes_text (take l.b-index l.b-items))
