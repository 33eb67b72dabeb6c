use Prim.Native.Nat.{◌≤◌}
use mathlib.Core.Path.{◌∙◌}
use native.Mathlib.Omega.{arith}
use lib.Seq.{length-take-le}
use Rattle.wire.specs.Sizes.{full_scores}
use Rattle.placing_over.proofs.Results.{laid_by}
use Rattle.placing_over.proofs.over.score_chain.Goals as goal

pub returns : goal.returns
returns g c =
    let s = c.s.inside in
    let left = rw (← c.s.view_is) at c.score-rounds.ensures in
    let ended = rw (← c.s.view_is) at c.lay_chain.ensures in
    rw (← c.s.view_is)
    (λ G a H.
    let few : s.count ≤ full_scores = omega (arith, H.anchors_are, H.good_anchors.few_anchors) in
    let long = c.score-rounds.auto.scores ∙ length-take-le s.count c.args.scores.now (omega (arith, few, c.requires.row_len.1)) in
    laid_by c.score-rounds.new.scores c.args.scores.now long left.best H c.score-rounds.result g.E.Engine.is few (left.is G a H) ended)
