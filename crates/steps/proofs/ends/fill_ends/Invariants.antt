use Prim.Native.Nat.{◌≤◌, ◌-◌}
use mathlib.Core.Path.{◌≡◌}
use lib.ListN.{length}
use Rattle.wire.specs.Lent.{front}
use Rattle.anchors.specs.Anchors.{y, d}
use Rattle.steps.specs.Filling.{each_of}
use Rattle.steps.proofs.ends.fill_ends.Given as goal

abbrev pub invariant-loop-j : goal.invariant-loop-j
invariant-loop-j l =
    (l.j ≤ l.count) × ((length l.us ≡ length l.initial.us) × (length l.ys ≡ length l.initial.ys) × (length l.ds ≡ length l.initial.ds))
    × ((l.us ≡ front (each_of (λ a. a.v) l.numbers l.j) l.initial.us) × (l.ys ≡ front (each_of y l.numbers l.j) l.initial.ys) × (l.ds ≡ front (each_of d l.numbers l.j) l.initial.ds))

abbrev pub decreases-loop-j : goal.decreases-loop-j
decreases-loop-j l = l.count - l.j
