use Prim.Native.Nat.{◌≤◌, ◌<◌}
use mathlib.Core.Path.{ap, ◌∙◌, subst}
use native.Mathlib.Omega.{arith}
use Rattle.rounds.proofs.Turns.{going_few, loop_turn}
use Rattle.steps.specs.Setting.{Setting, Prepared}
use Rattle.sweep_engine.specs.Sweeping.{made}
use Rattle.sweep_round.proofs.RoundTurns.{round-low}
use Rattle.sweep_engine.proofs.SweepTurns.{swept_none, sweep_begins}
use Rattle.sweep_engine.proofs.sweep_scores.Goals as goal

pub returns-then-s-eq0 : goal.returns-then-s-eq0
returns-then-s-eq0 c = swept_none c.args.s.now c.args.scores.now (omega (arith, ap (λ (t : Setting). t.count) c.s.view_is, c.if-s-eq0.true)) c.requires.scores_len.0

pub loop-changed-init : goal.loop-changed-init
loop-changed-init c =
    let p = subst Prepared c.s.view_is c.s.invariant in
    let some : 1 ≤ c.args.s.now.count = omega (arith, ap (λ (t : Setting). t.count) c.s.view_is, c.if-s-eq0.false) in
    let w = sweep_begins p.holds some c.start_scores.new.scores c.start_scores.ensures in
    (c.requires.scores_len.1, w.0, w.1)

pub loop-changed-smaller : goal.loop-changed-smaller
loop-changed-smaller c =
    let few : c.loop-changed.rounds < c.args.s.now.count = going_few (c.loop-changed.invariant.2.moved c.loop-changed-test.true) in
    omega (arith, few)

pub loop-changed-preserved : goal.loop-changed-preserved
loop-changed-preserved c =
    let l = c.loop-changed in
    let r = c.sweep_round-changed in
    let p = subst Prepared c.s.view_is c.s.invariant in
    (r.auto.row ∙ l.invariant.0, round-low p.holds l.scores r.new.scores l.invariant.1 r.ensures.scores_after, loop_turn r.new.scores (l.invariant.2.moved c.loop-changed-test.true) r.ensures.scores_after r.ensures.told)

pub returns : goal.returns
returns c =
    let some : 1 ≤ c.args.s.now.count = omega (arith, ap (λ (t : Setting). t.count) c.s.view_is, c.if-s-eq0.false) in
    made some (c.loop-changed.invariant.2.still c.loop-changed-test.false)
