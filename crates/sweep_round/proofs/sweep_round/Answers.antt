use Prim.Native.Nat.{◌<◌}
use mathlib.Core.Path.{◌≡◌, sym, ap, ◌∙◌}
use mathlib.Core.Bool.{true}
use native.Mathlib.Omega.{arith}
use Rattle.rounds.proofs.Turns.{swept-start}
use Rattle.steps.specs.Setting.{Setting}
use Rattle.steps.proofs.RowLaws.{row_over, stands_over}
use Rattle.sweep_round.proofs.RoundTurns.{placed_fits, turn_fits, turn_same, turn_set}
use Rattle.sweep_round.proofs.sweep_round.Goals as goal
use Rattle.sweep_round.proofs.sweep_round.Goals.{else-best-scores, then-best-scores}

pub loop-j-init : goal.loop-j-init
loop-j-init c = (c.requires.row_len, tt, swept-start _ _ _ _)

pub row_for-requires : goal.row_for-requires
row_for-requires c =
    let s = c.s-in-loop-j in
    let l = c.loop-j in
    let i = rw (← s.view_is) at l.invariant in
    let to = rw (← s.view_is) at c.start-to.ensures in
    let h : l.j < s.inside.count = omega (arith, ap (λ (t : Setting). t.count) (c.s.view_is ∙ sym s.view_is)) in
    record { within = (rw to (placed_fits s.invariant.holds l.j h).vertex, i.0, stands_over _ _ _ _ _ _ i.1) }

pub best_of-best-requires : goal.best_of-best-requires
best_of-best-requires c =
    let s = c.s-in-loop-j in
    let l = c.loop-j in
    let h : l.j < s.inside.count = omega (arith, ap (λ (t : Setting). t.count) (c.s.view_is ∙ sym s.view_is)) in
    let i = rw (← s.view_is) at l.invariant in
    let low = rw (← s.view_is) at c.requires.scores_low in
    let to = rw (← s.view_is) at c.start-to.ensures in
    let row = rw to at (c.row_for.ensures ∙ row_over s.inside.tables s.inside.count s.inside.numbers.now s.inside.ends _) in
    let f = turn_fits s.invariant.holds low l.j h row i.2 in
    record { ends_fit = f.0; row_fits = f.1.0; scores_fit = f.1.1.0; x_le_most_read = rw to f.1.1.1 }

pub loop-j-preserved : goal.loop-j-preserved
loop-j-preserved c =
    let s = c.s-in-loop-j in
    let l = c.loop-j in
    let h : l.j < s.inside.count = omega (arith, ap (λ (t : Setting). t.count) (c.s.view_is ∙ sym s.view_is)) in
    let i = rw (← s.view_is) at l.invariant in
    let low = rw (← s.view_is) at c.requires.scores_low in
    let to = rw (← s.view_is) at c.start-to.ensures in
    let row = c.row_for.ensures ∙ row_over s.inside.tables s.inside.count s.inside.numbers.now s.inside.ends _ in
    let best = rw to at c.best_of-best.ensures in
    rw (← s.view_is) (
      c.row_for.auto.row ∙ i.0,
      row,
      elim c.if-best-scores.branch [
        | then-best-scores w ↦ let e : c.if-best-scores.changed ≡ true = w.changed-is in rw (w.scores-is, e) (turn_set s.invariant.holds low l.j h (rw to at row) i.2 c.best_of-best.result best w.if-best-scores.true)
        | else-best-scores w ↦ rw (w.scores-is, w.changed-is) (turn_same s.invariant.holds low l.j h (rw to at row) i.2 c.best_of-best.result best w.if-best-scores.false)
      ],
    )
