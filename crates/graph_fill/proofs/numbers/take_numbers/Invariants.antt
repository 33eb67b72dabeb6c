use Rattle.std.proofs.Common.{◌≡◌}
use Rattle.wire.specs.Lent.{front}
use Rattle.graph_fill.specs.Filling.{numbers_in}
use Rattle.graph_fill.proofs.numbers.take_numbers.Given as goal

abbrev pub invariant-loop-place : goal.invariant-loop-place
invariant-loop-place l =
    (l.out ≡ front (numbers_in l.file l.place-index l.fn.start.at).content l.initial.out) × (l.cursor.at ≡ (numbers_in l.file l.place-index l.fn.start.at).next)
