-- The anchors' first places, by which the plain pass lists them, are places of the read.
use Rattle.std.specs.Prelude.{ℕ, ◌-◌, ◌≤◌, ◌≡◌, List}
use mathlib.Core.Path.{sym, subst}
use native.Mathlib.Omega.{arith}
use Rattle.wire.specs.Sizes.{most_read, most_anchors}
use Rattle.rounds.specs.Rounds.{Within}
use Rattle.rounds.proofs.Upto.{within}
use Rattle.graph.specs.Content.{Graph}
use Rattle.anchors.specs.Anchors.{Anchor, AnchorSet, read_length}
use Rattle.anchors.specs.AnchorRules.{no_anchor}
use Rattle.cover.proofs.GoodLaws.{all_at}
use Rattle.engine.specs.Lying.{AnchorsLie}
use Rattle.read_order.specs.Order.{place_of, PlacesFit}

-- a read of r letters and `count` anchors, whose first places are places of the read, and no more of either than there may be
abbrev pub CanPlace : ℕ → ℕ → List ℕ → Type 0
CanPlace r count numbers = PlacesFit count r numbers × (r ≤ most_read) × (count ≤ most_anchors)

-- so are the anchors of an accepted file
pub can_place : (g : Graph) (a : AnchorSet) (r count : ℕ) (numbers : List ℕ) → AnchorsLie g a count numbers → read_length a ≡ r → CanPlace r count numbers
can_place g a r count numbers A letters =
    (record { room = A.room; places = λ j w. place j w }, omega (arith, A.good.few_read, letters), omega (arith, A.good.few_anchors, A.anchors_are))
  where
    place : (j : ℕ) → Within count j → Within r (place_of numbers j)
    place j w =
        let G = all_at no_anchor _ a.anchors A.good.each (j - 1) (omega (arith, A.anchors_are)) in
        subst (λ (b : Anchor). Within r b.c) (sym (A.each j w)) (within G.some_c (omega (arith, G.in_read, G.some_length, letters)))
