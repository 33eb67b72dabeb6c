use Prim.Native.Nat.{◌+◌, ◌-◌}
use mathlib.Core.Path.{◌≡◌}
use Rattle.graph.specs.Reading.{letters_from}
use Rattle.graph_parts.specs.Answers.{letters_answer}
use Rattle.graph_parts.proofs.labels.check_letters.Given as goal

abbrev pub invariant-loop : goal.invariant-loop
invariant-loop l =
    (letters_answer l.len (l.initial.at + l.len) (letters_from l.len l.file l.initial.at) ≡ letters_answer l.len (l.initial.at + l.len) (letters_from (l.len - l.counter) l.file l.at)) ×
    (l.at ≡ l.initial.at + l.counter)
