use Rattle.rounds.proofs.Upto.{within}
use Rattle.closed_rounds.proofs.Closes.{closed-more}
use Rattle.std.proofs.lemmas.Grind.{div_ceil_times}
use Prim.Native.Nat.{◌+◌, ◌*◌}
use mathlib.Core.Path.{◌≡◌, refl, ◌∙◌}
use native.Mathlib.Omega.{arith}
use Rattle.closed_rounds.proofs.closed.closed_walks.Goals as goal

pub loop-sixteen-init : goal.loop-sixteen-init
loop-sixteen-init c = (refl, refl, λ v w. absurd (omega arith))

pub close_sixteen-requires : goal.close_sixteen-requires
close_sixteen-requires c =
    record {
      labelled = (c.requires.labelled.0, c.loop-sixteen.invariant.0 ∙ c.requires.labelled.1);
      table_len = c.loop-sixteen.invariant.1 ∙ c.requires.table_len;
      closable = c.requires.closable;
      base_in_bounds = omega (arith, div_ceil_times c.vertices.result 16 (omega arith));
    }

pub loop-sixteen-preserved : goal.loop-sixteen-preserved
loop-sixteen-preserved c =
    let k : 16 * c.loop-sixteen.sixteen + 16 ≡ 16 * (c.loop-sixteen.sixteen + 1) = omega arith in (
      c.close_sixteen.auto.closed ∙ c.loop-sixteen.invariant.0,
      c.close_sixteen.auto.table ∙ c.loop-sixteen.invariant.1,
      rw k at (closed-more (16 * c.loop-sixteen.sixteen) c.loop-sixteen.closed c.close_sixteen.new.closed c.loop-sixteen.invariant.2 c.close_sixteen.ensures.by_index c.close_sixteen.ensures.by_index_2),
    )

pub returns : goal.returns
returns c = λ v w. c.loop-sixteen.invariant.2 v (within w.low (omega (arith, w.high, div_ceil_times c.vertices.result 16 (omega arith)))) w.high
