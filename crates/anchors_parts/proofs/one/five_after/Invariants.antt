use Prim.Native.Nat.{◌-◌}
use mathlib.Core.Path.{◌≡◌}
use Rattle.anchors_parts.specs.ReadAnchor.{numbers_after}
use Rattle.anchors_parts.proofs.one.five_after.Given as goal

abbrev pub invariant-loop : goal.invariant-loop
invariant-loop l = numbers_after l.skipped l.file l.initial.place.at ≡ numbers_after (l.skipped - l.counter) l.file l.place.at
