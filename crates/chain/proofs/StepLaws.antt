-- A step between two anchors has one gap sum, and the read place rises along it.
-- Assumes nothing.
use Prim.Native.Nat.{ℕ, ◌-◌, ◌≤◌, ◌<◌}
use mathlib.Core.Path.{◌≡◌, refl}
use mathlib.Core.List.{List}
use native.Mathlib.Omega.{arith}
use lib.ListN.{length}
use Rattle.rounds.specs.Rounds.{Within}
use Rattle.graph.specs.Content.{Graph}
use Rattle.anchors.specs.Anchors.{Anchor, AnchorSet}
use Rattle.anchors.specs.AnchorRules.{no_anchor}
use Rattle.anchors.specs.GoodAnchors.{GoodAnchor, GoodAnchors}
use Rattle.graph.proofs.RoundTrips.{all_at}
use Rattle.cover.proofs.One.{closed-one, cover_one}
use Rattle.chain.specs.Steps.{anchor_at, Jump, ahead, round, across, Step}

-- what is asked of the anchors: weights and lengths of 1 or more
pub record Sound (anchors : List Anchor) : Type 0 where
  pub heavy : (j : ℕ) → Within (length anchors) j → 1 ≤ (anchor_at anchors j).weight
  pub spans : (j : ℕ) → Within (length anchors) j → 1 ≤ (anchor_at anchors j).len

-- anchor number j of good anchors
pub good_at : {g : Graph} {a : AnchorSet} → GoodAnchors g a → (j : ℕ) → Within (length a.anchors) j → GoodAnchor g a.read (anchor_at a.anchors j)
good_at {g} {a} A j w = all_at (GoodAnchor g a.read) a.anchors (j - 1) no_anchor A.each (omega arith)

-- the weights and lengths of good anchors are 1 or more
pub good_sound : {g : Graph} {a : AnchorSet} → GoodAnchors g a → Sound a.anchors
good_sound A = record { heavy = λ j w. (good_at A j w).some_weight; spans = λ j w. (good_at A j w).some_length }

-- two anchors have one s at most
pub jump-one : (g : Graph) (A B : Anchor) (s t : ℕ) → Jump g A B s → Jump g A B t → s ≡ t
jump-one g A B s t (ahead e h) (ahead f k) = refl
jump-one g A B s t (ahead e h) (round f n c) = absurd (n h)
jump-one g A B s t (ahead e h) (across n c) = absurd (n e)
jump-one g A B s t (round e n c) (ahead f h) = absurd (n h)
jump-one g A B s t (round e n c) (round f m b) = closed-one g c b
jump-one g A B s t (round e n c) (across m b) = absurd (m e)
jump-one g A B s t (across n c) (ahead f h) = absurd (n f)
jump-one g A B s t (across n c) (round f m b) = absurd (n f)
jump-one g A B s t (across n c) (across m b) = cover_one g c b

-- two anchors have one gap sum at most
pub step-one : (g : Graph) (A B : Anchor) (k l : ℕ) → Step g A B k → Step g A B l → k ≡ l
step-one g A B k l p q =
    let e : p.s ≡ q.s = jump-one g A B p.s q.s p.jump q.jump in
    omega (arith, p.in_read, q.in_read, p.in_graph, q.in_graph, p.sum, q.sum)

-- the read place rises along a step
pub step-rises : (g : Graph) (anchors : List Anchor) (i j k : ℕ) → Sound anchors → Within (length anchors) i
    → Step g (anchor_at anchors i) (anchor_at anchors j) k → (anchor_at anchors i).c < (anchor_at anchors j).c
step-rises g anchors i j k S w p = omega (arith, S.spans i w, p.before.rises)
