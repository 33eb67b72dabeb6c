-- Where the anchors end: that their numbers fit, and that what is filled in is what a setting holds.
-- Assumes nothing.
use Prim.Native.Nat.{ℕ, suc, ◌-◌, ◌*◌, ◌≤◌, ◌<◌}
use mathlib.Core.Path.{◌≡◌, ap, ◌∙◌, subst}
use mathlib.Core.List.{List}
use native.Mathlib.Omega.{arith}
use lib.ListN.{length, get_or}
use Rattle.wire.specs.Lent.{front}
use Rattle.rounds.specs.Rounds.{Within}
use Rattle.rounds.proofs.Upto.{within}
use Rattle.graph.specs.Content.{Graph}
use Rattle.graph.specs.Good.{GoodGraph}
use Rattle.anchors.specs.Anchors.{Anchor, AnchorSet, per_anchor}
use Rattle.anchors.specs.GoodAnchors.{GoodAnchors}
use Rattle.anchors.specs.AnchorEntries.{anchor_in}
use Rattle.chain.specs.Steps.{anchor_at}
use Rattle.steps.specs.Filling.{each_of, NumbersFit}
use Rattle.steps.proofs.EachLaws.{each-front}
use Rattle.steps.proofs.SettingLaws.{AnchorFits, good-fits}

module _ {g : Graph} {a : AnchorSet} (G : GoodGraph g) (A : GoodAnchors g a) (count : ℕ) (numbers : List ℕ) (are : length a.anchors ≡ count)
    (is : (j : ℕ) → Within count j → anchor_in numbers (j - 1) ≡ anchor_at a.anchors j)
  where
    placed : (j : ℕ) → j < count → AnchorFits (length g.labels) (anchor_in numbers j)
    placed j l =
        let e : suc j - 1 ≡ j = omega arith in
        let w : Within count (suc j) = within (omega arith) l in
        subst (AnchorFits (length g.labels)) (ap (anchor_in numbers) e) (rw (is (suc j) w) (good-fits G A (suc j) (within (omega arith) (omega arith))))

    -- the numbers of accepted anchors fit
    pub numbers_fit : per_anchor * count ≤ length numbers → NumbersFit count numbers
    numbers_fit room = record {
      room = room;
      some = λ j l. (placed j l).length;
      ys = λ j l. let h = (placed j l).last in omega arith;
      ds = λ j l. let h = (placed j l).end in omega arith;
    }

    -- what is filled in is there for each anchor: the fields us, ys and ds of what a setting holds
    pub ends_held : (f : Anchor → ℕ) (old now : List ℕ) → now ≡ front (each_of f numbers count) old → (j : ℕ) → Within count j → get_or now (j - 1) 0 ≡ f (anchor_at a.anchors j)
    ends_held f old now e j w = each-front f numbers count (j - 1) old now e (omega arith) ∙ ap f (is j w)
