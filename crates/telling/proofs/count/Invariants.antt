use Rattle.std.proofs.Common.{◌≡◌, take}
use Rattle.std.specs.Prelude.{count_by}
use Rattle.telling.proofs.count.Given as goal

-- the places before y
abbrev pub invariant-loop-y : goal.invariant-loop-y
invariant-loop-y g l = l.n ≡ count_by (λ z. g.T.PartialEq.eq z l.x) (take l.y-index l.xs)
