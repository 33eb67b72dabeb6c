use Rattle.std.proofs.Common.{◌≡◌, ◌-◌, length}
use Rattle.graph_content.specs.Faults.{letters_fault}
use Rattle.graph_content.proofs.content.letters_fault.Given as goal

abbrev pub invariant-loop-letter : goal.invariant-loop-letter
invariant-loop-letter l =
    letters_fault (length l.letters) l.letters 0 ≡ letters_fault (length l.letters - l.letter-index) l.letters l.letter-index
