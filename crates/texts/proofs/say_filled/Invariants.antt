use Rattle.texts.proofs.Filling.{Filling}
use Rattle.texts.proofs.say_filled.Given as goal

-- the text before the piece that starts at `start` is written, with its numbers
abbrev pub invariant-loop-i : goal.invariant-loop-i
invariant-loop-i g l = Filling (g.W.Write.contents l.initial.to) (g.W.Write.contents l.to) l.text l.numbers l.at l.start l.i
