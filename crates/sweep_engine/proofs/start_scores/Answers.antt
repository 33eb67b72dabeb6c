use mathlib.Core.Path.{◌≡◌, refl, ap}
use native.Mathlib.Omega.{arith}
use lib.ListN.{length-set}
use Rattle.steps.specs.Setting.{Setting}
use Rattle.steps.proofs.EachLaws.{each_none, each_turn, each_whole}
use Rattle.sweep_engine.proofs.start_scores.Goals as goal

pub loop-j-init : goal.loop-j-init
loop-j-init c = (refl, each_none (λ A. A.weight) c.args.s.now.numbers c.args.scores.now)

pub loop-j-preserved : goal.loop-j-preserved
loop-j-preserved c =
    let l = c.loop-j in
    let i = rw (← c.s.view_is) at l.invariant in
    let long = rw (← c.s.view_is) at c.requires in
    rw (← c.s.view_is)
    (simp length-set i.0, each_turn (λ A. A.weight) c.s.inside.numbers.now l.j c.args.scores.now l.scores _ (omega (arith, long, c.loop-j-test.true)) i.1 refl)

pub returns : goal.returns
returns c =
    let l = c.loop-j in
    let e : l.j ≡ c.args.s.now.count = omega (arith, ap (λ (t : Setting). t.count) c.s.view_is) in
    each_whole (λ A. A.weight) c.args.s.now.numbers c.args.s.now.count c.args.scores.now l.scores c.requires (rw e at l.invariant.1)
