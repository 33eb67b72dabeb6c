use Rattle.std.proofs.Common.{take}
use Rattle.std.specs.Io.KnownBytes.{Appends}
use Rattle.telling.specs.Said.{numbers_text}
use Rattle.telling.proofs.say_numbers.Given as goal

-- the numbers that were passed are written
abbrev pub invariant-loop-x : goal.invariant-loop-x
invariant-loop-x g l = Appends (g.W.Write.contents l.initial.to) (g.W.Write.contents l.to) (numbers_text (take l.x-index l.x-items))
