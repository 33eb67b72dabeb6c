use Prim.Native.Nat.{◌-◌, ◌<◌}
use mathlib.Core.Path.{◌≡◌}
use lib.ListN.{length, drop}
use Rattle.wire.specs.Numbers.{number_at, number_in}
use Rattle.wire.proofs.Reading.{Weight}
use Rattle.wire.proofs.numbers.read_number.Given as goal

abbrev pub invariant-loop-at : goal.invariant-loop-at
invariant-loop-at l =
    (number_at l.bytes l.start ≡ number_in l.left (drop l.at l.bytes) (length l.bytes) l.start l.at l.weight l.value) × (l.value < l.weight) × Weight l.left l.weight

abbrev pub decreases-loop-at : goal.decreases-loop-at
decreases-loop-at l = length l.bytes - l.at
