use native.Mathlib.Omega.{arith}
use Rattle.placing_over.proofs.Settings.{few-anchors, anchors_fit, over-holds}
use Rattle.placing_over.proofs.over.place_over.Goals as goal

pub fill_ends-requires-clause-numbers_fit : goal.fill_ends-requires-clause-numbers_fit
fill_ends-requires-clause-numbers_fit g c = anchors_fit c.requires.some_over.over

pub invariant_of-s : goal.invariant_of-s
invariant_of-s g c =
    let P = c.requires.some_over in
    let e = c.fill_ends.ensures in
    let few = few-anchors P.over in
    record {
      g = P.g;
      a = P.a;
      holds = over-holds P.over _ _ _ _ _ _ e.us_after e.ys_after e.ds_after (omega (arith, few, c.fill_ends.auto.us)) (omega (arith, few, c.fill_ends.auto.ys)) (omega (arith, few, c.fill_ends.auto.ds));
    }

pub returns : goal.returns
returns g c =
    λ G a O.
    let e = c.fill_ends.ensures in
    let few = few-anchors O in
    c.score_chain.ensures G a (over-holds O _ _ _ _ _ _ e.us_after e.ys_after e.ds_after (omega (arith, few, c.fill_ends.auto.us)) (omega (arith, few, c.fill_ends.auto.ys)) (omega (arith, few, c.fill_ends.auto.ds)))
