-- The chain that is returned: it is one, it is valid, and no chain scores more.
-- Assumes nothing.
use Prim.Native.Nat.{ℕ, ◌+◌, ◌≤◌}
use mathlib.Core.Path.{◌≡◌, refl, sym, ap, subst}
use mathlib.Core.Logic.{◌≢◌}
use mathlib.Core.List.{List, [], ◌∷◌, ◌++◌}
use native.Mathlib.Nat.{le_antisymm}
use native.Mathlib.Omega.{arith}
use lib.ListN.{length}
use Rattle.rounds.specs.Rounds.{Within}
use Rattle.rounds.specs.Table.{entry}
use Rattle.graph.specs.Content.{Graph}
use Rattle.anchors.specs.Anchors.{Anchor}
use Rattle.chain.specs.Steps.{anchor_at}
use Rattle.chain.specs.Chains.{Chain, one, more, IsBest}
use Rattle.chain.specs.Named.{Gives, LowestGiving, Back, stop, go, Top, Returned, empty, some}
use Rattle.chain.proofs.BestScores.{chain-within}

module _ (g : Graph) (anchors : List Anchor) (S : List ℕ) where
  lowest-one : (h i j : ℕ) → LowestGiving g anchors S h j → LowestGiving g anchors S i j → h ≡ i
  lowest-one h i j p q = le_antisymm (p.lowest i q.gives) (q.lowest h p.gives)

  -- the way back from an anchor is one
  pub back_one : {j : ℕ} {js ks : List ℕ} → Back g anchors S j js → Back g anchors S j ks → js ≡ ks
  back_one (stop e) (stop f) = refl
  back_one (stop e) (go n l b) = absurd (n e)
  back_one (go n l b) (stop e) = absurd (n e)
  back_one (go {i = h} {j = j} {js = js} n l b) (go {i = i} {js = ks} m k c) =
      let e : h ≡ i = lowest-one h i j l k in
      ap (λ (t : List ℕ). t ++ (j ∷ [])) (back_one (subst (λ (x : ℕ). Back g anchors S x js) e b) c)

  top_one : (i j : ℕ) → Top (length anchors) S i → Top (length anchors) S j → i ≡ j
  top_one i j p q =
      let e : entry i S ≡ entry j S = le_antisymm (q.greatest i p.within) (p.greatest j q.within) in
      le_antisymm (p.lowest j q.within (sym e)) (q.lowest i p.within e)

  no_anchor : {j : ℕ} → length anchors ≡ 0 → Within (length anchors) j → ⊥
  no_anchor e w = omega arith

  -- the chain returned is one, and so is its score
  pub returned-one : {js ks : List ℕ} {s t : ℕ} → Returned g anchors S js s → Returned g anchors S ks t → (js ≡ ks) × (s ≡ t)
  returned-one (empty e) (empty f) = (refl, refl)
  returned-one (empty e) (some p b) = absurd (no_anchor e p.within)
  returned-one (some p b) (empty e) = absurd (no_anchor e p.within)
  returned-one (some {j = i} {js = js} p b) (some {j = j} q c) =
      let e : i ≡ j = top_one i j p q in
      (back_one (subst (λ (x : ℕ). Back g anchors S x js) e b) c, ap (λ (x : ℕ). entry x S) e)

  -- the way back from an anchor is a chain whose score is the anchor's
  pub back-chain : {j : ℕ} {js : List ℕ} → Within (length anchors) j → Back g anchors S j js
      → (w : ℕ) × (k : ℕ) × Chain g anchors js j w k × (w ≡ entry j S + k)
  back-chain {j} l (stop e) = ((anchor_at anchors j).weight, 0, one l, omega arith)
  back-chain {j} l (go {i = i} n p b) =
      let (w, k, c, e) = back-chain p.gives.within b in
      (w + (anchor_at anchors j).weight, k + p.gives.k, more c l p.gives.step, omega (arith, p.gives.exact))

  module _ (best : (j : ℕ) → Within (length anchors) j → IsBest g anchors j (entry j S)) where
    -- an anchor whose score is not its weight has one that gives it
    pub given : (j : ℕ) → Within (length anchors) j → entry j S ≢ (anchor_at anchors j).weight → (i : ℕ) × Gives g anchors S i j
    given j l n = from (best j l).chain (best j l).attained
      where
        from : {js : List ℕ} {w k : ℕ} → Chain g anchors js j w k → w ≡ entry j S + k → (i : ℕ) × Gives g anchors S i j
        from (one m) e = absurd (n (omega arith))
        from (more {i = i} {w = w} {k = k} {q = q} c m p) e =
            let wi = chain-within g anchors c in
            let b = best i wi in
            let low = b.greatest _ w k c in
            let high = (best j l).greatest _ _ _ (more b.chain m p) in
            (i, record { within = wi; k = q; step = p; exact = omega (arith, b.attained) })

    -- no chain of the given anchors scores more than the chain returned
    pub none_higher : {js : List ℕ} {s : ℕ} → Returned g anchors S js s → (ks : List ℕ) (i w k : ℕ) → Chain g anchors ks i w k → w ≤ s + k
    none_higher (empty e) ks i w k c = absurd (no_anchor e (chain-within g anchors c))
    none_higher (some {j = j} p b) ks i w k c =
        let wi = chain-within g anchors c in
        omega (arith, (best i wi).greatest ks w k c, p.greatest i wi)
