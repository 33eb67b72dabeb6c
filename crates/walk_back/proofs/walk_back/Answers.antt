use Rattle.std.proofs.lemmas.List.{get_or-replicate}
use Rattle.rounds.specs.Place.{cell_place}
use Rattle.rounds.specs.Table.{cell}
use Rattle.table_lanes.specs.Follows.{gathered}
use Rattle.table_rounds.specs.Held.{onward}
use Rattle.walk_back.proofs.WalkBack.{back_is}
use Prim.Native.Nat.{ℕ, ◌+◌, ◌-◌}
use mathlib.Core.Path.{ap, ◌∙◌}
use native.Mathlib.Omega.{arith}
use Rattle.walk_back.proofs.walk_back.Goals as goal

pub returns : goal.returns
returns c =
    let a = c.args in
    let e = a.edges.now in
    let l = a.walks.now.lengths.now in
    c.saturating_sub.ensures
    ∙ ap (λ (x : ℕ). x - 1) (c.gathered-back.ensures.lane a.i (omega arith)
    ∙ ap (gathered (onward e.m l e.list (a.i + 1)) (λ (u : ℕ). cell cell_place u (a.i + 1) a.table.now) a.v) (get_or-replicate 16 a.i 0 0 (omega arith))
    ∙ back_is l e.list a.table.now a.v (a.i + 1) e.m)
