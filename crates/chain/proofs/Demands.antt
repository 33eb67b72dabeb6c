-- The result of an engine is what demands 2 and 3 of the order ask for.
-- Assumes nothing.
use Prim.Native.Nat.{ℕ, suc, ◌+◌, ◌-◌, ◌≤◌}
use mathlib.Core.Path.{◌≡◌, refl, ap}
use mathlib.Core.Bool.{Bool, true, false, cond}
use mathlib.Core.List.{List}
use native.Mathlib.Omega.{arith}
use lib.ListN.{length}
use lib.IntN.{ℤ, pos, negsuc}
use lib.Signed.{le_z}
use lib.Dec.{ltb}
use borrow.Author.Tests.{ltb-true, le-leb}
use Rattle.graph.specs.Content.{Graph}
use Rattle.graph.specs.Good.{GoodGraph}
use Rattle.anchors.specs.Anchors.{AnchorSet}
use Rattle.anchors.specs.GoodAnchors.{GoodAnchors}
use Rattle.chain.specs.Chains.{score}
use Rattle.chain.specs.Named.{Returned, empty, some}
use Rattle.chain.specs.ChainEntries.{Result, IsResult, IsSweep, IsPlain}
use Rattle.chain.specs.Demands.{Valid, Scores, Demanded}
use Rattle.chain.proofs.StepLaws.{good_sound}
use Rattle.chain.proofs.NamedLaws.{back-chain, none_higher}
use Rattle.chain.proofs.SweepLaws.{swept_well}
use Rattle.chain.proofs.ValidChains.{chain-valid, valid-scores}

-- weights that are a score and gaps have that score
pub score-exact : (s w k : ℕ) → w ≡ s + k → score w k ≡ pos s
score-exact s w k e = go (ltb w k) refl
  where
    go : (t : Bool) → ltb w k ≡ t → cond t (negsuc (k - suc w)) (pos (w - k)) ≡ pos s
    go true q = absurd (omega (arith, ltb-true w k q, e))
    go false q = ap pos (omega (arith, e))

-- and weights that are not above it do not score higher
pub score-below : (s w k : ℕ) → w ≤ s + k → le_z (score w k) (pos s) ≡ true
score-below s w k h = go (ltb w k) refl
  where
    go : (t : Bool) → ltb w k ≡ t → le_z (cond t (negsuc (k - suc w)) (pos (w - k))) (pos s) ≡ true
    go true q = refl
    go false q = le-leb (w - k) s (omega (arith, h))

module _ {g : Graph} {a : AnchorSet} (G : GoodGraph g) (A : GoodAnchors g a) (r : Result) where
  result-valid : IsResult g a.anchors r → 1 ≤ length a.anchors → Valid g a.anchors r.chain × Scores g a.anchors r.chain (pos r.score)
  result-valid R h = from R.returned h
    where
      from : {js : List ℕ} {s : ℕ} → Returned g a.anchors r.scores js s → 1 ≤ length a.anchors → Valid g a.anchors js × Scores g a.anchors js (pos s)
      from (empty e) h = absurd (omega (arith, h, e))
      from (some {j = j} t b) h =
          let (w, k, c, e) = back-chain g a.anchors r.scores t.within b in
          (chain-valid c, record { j = j; w = w; k = k; chain = c; is = score-exact _ w k e })

  result-highest : IsResult g a.anchors r → (js : List ℕ) (z : ℤ) → Scores g a.anchors js z → le_z z (pos r.score) ≡ true
  result-highest R js z c =
      rw (← c.is) (score-below r.score c.w c.k (none_higher g a.anchors r.scores R.best R.returned js c.j c.w c.k c.chain))

  result_demanded : IsResult g a.anchors r → r.rounds ≤ length a.anchors → Demanded g a.anchors r
  result_demanded R few = record {
    valid = result-valid R;
    scored = valid-scores G A;
    highest = result-highest R;
    named = R.returned;
    best = R.best;
    few = omega (arith, few);
  }

  -- of the sweep
  pub sweep_demanded : IsSweep g a.anchors r → Demanded g a.anchors r
  sweep_demanded h = result_demanded h.result (swept_well g a.anchors (good_sound A) r.rounds r.scores h.swept).few

  -- and of the plain pass
  pub plain_demanded : IsPlain g a.anchors r → Demanded g a.anchors r
  plain_demanded h = result_demanded h.result (omega (arith, h.none))
