-- The best score of the chains that end at an anchor: it is one, it is never under the anchor's weight, and it follows from those before it.
-- Assumes nothing.
use Prim.Native.Nat.{ℕ, ◌+◌, ◌≤◌}
use mathlib.Core.Path.{◌≡◌}
use mathlib.Core.Logic.{◌⊎◌, inl, inr}
use mathlib.Core.List.{List, [], ◌∷◌, ◌++◌}
use native.Mathlib.Nat.{le_antisymm}
use native.Mathlib.Omega.{arith}
use lib.ListN.{length}
use Rattle.rounds.specs.Rounds.{Within}
use Rattle.graph.specs.Content.{Graph}
use Rattle.anchors.specs.Anchors.{Anchor}
use Rattle.chain.specs.Steps.{anchor_at, Step}
use Rattle.chain.specs.Chains.{Chain, one, more, IsBest}

module _ (g : Graph) (anchors : List Anchor) where
  -- an anchor has one best score
  pub best-one : (j s t : ℕ) → IsBest g anchors j s → IsBest g anchors j t → s ≡ t
  best-one j s t p q =
      le_antisymm
      (omega (arith, p.attained, q.greatest p.js p.w p.k p.chain))
      (omega (arith, q.attained, p.greatest q.js q.w q.k q.chain))

  -- "the best score ending at an anchor is never under its weight"
  pub best-heavy : (j s : ℕ) → Within (length anchors) j → IsBest g anchors j s → (anchor_at anchors j).weight ≤ s
  best-heavy j s w p = omega (arith, p.greatest (j ∷ []) (anchor_at anchors j).weight 0 (one w))

  -- a chain ends at an anchor that is there
  pub chain-within : {js : List ℕ} {j w k : ℕ} → Chain g anchors js j w k → Within (length anchors) j
  chain-within (one l) = l
  chain-within (more r l s) = l

  -- s is the greatest of the weight and of the candidates of the anchors before, whose best scores b gives
  pub record Follows (b : ℕ → ℕ) (j s : ℕ) : Type 0 where
    pub known : (i k : ℕ) → Within (length anchors) i → Step g (anchor_at anchors i) (anchor_at anchors j) k → IsBest g anchors i (b i)
    pub heavy : (anchor_at anchors j).weight ≤ s
    pub each : (i k : ℕ) → Within (length anchors) i → Step g (anchor_at anchors i) (anchor_at anchors j) k → b i + (anchor_at anchors j).weight ≤ s + k
    pub which : (s ≡ (anchor_at anchors j).weight)
        ⊎ ((i : ℕ) × (k : ℕ) × Within (length anchors) i × Step g (anchor_at anchors i) (anchor_at anchors j) k × (b i + (anchor_at anchors j).weight ≡ s + k))

  -- .. and so it is the best
  pub follows_best : (b : ℕ → ℕ) (j s : ℕ) → Within (length anchors) j → Follows b j s → IsBest g anchors j s
  follows_best b j s l f = go f.which
    where
      high : (js : List ℕ) (w k : ℕ) → Chain g anchors js j w k → w ≤ s + k
      high js w k (one m) = omega (arith, f.heavy)
      high js w k (more {i = i} {w = v} {k = h} {q = q} r m p) =
          let wi = chain-within r in
          omega (arith, (f.known i q wi p).greatest _ v h r, f.each i q wi p)

      go : (s ≡ (anchor_at anchors j).weight)
          ⊎ ((i : ℕ) × (k : ℕ) × Within (length anchors) i × Step g (anchor_at anchors i) (anchor_at anchors j) k × (b i + (anchor_at anchors j).weight ≡ s + k))
          → IsBest g anchors j s
      go (inl e) = record { js = j ∷ []; w = (anchor_at anchors j).weight; k = 0; chain = one l; attained = omega arith; greatest = high }
      go (inr (i, k, m, p, e)) =
          let t = f.known i k m p in
          record {
            js = t.js ++ (j ∷ []);
            w = t.w + (anchor_at anchors j).weight;
            k = t.k + k;
            chain = more t.chain l p;
            attained = omega (arith, t.attained);
            greatest = high;
          }
