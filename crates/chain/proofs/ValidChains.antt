-- Anchors of which each comes before the next are a chain with weights and gaps, and only they: a valid chain has a score, and one.
-- Assumes nothing.
use Prim.Native.Nat.{ℕ, ◌≤◌}
use mathlib.Core.Path.{◌≡◌, refl, sym, ap, ap₂, ◌∙◌, subst}
use mathlib.Core.List.{List, [], ◌∷◌, ◌++◌, append-nil, append_assoc, head-eq_of_cons-eq, tail-eq_of_cons-eq}
use native.Mathlib.Omega.{arith}
use lib.ListN.{length, length-append}
use lib.IntN.{ℤ}
use Rattle.rounds.specs.Rounds.{Within}
use Rattle.graph.specs.Content.{Graph}
use Rattle.graph.specs.Good.{All, Next, GoodGraph}
use Rattle.anchors.specs.Anchors.{Anchor, AnchorSet}
use Rattle.anchors.specs.GoodAnchors.{GoodAnchors}
use Rattle.chain.specs.Steps.{anchor_at, Step}
use Rattle.chain.specs.Chains.{Chain, one, more, score}
use Rattle.chain.specs.Demands.{Ordered, Valid, Scores}
use Rattle.chain.proofs.StepLaws.{good_at, step-one}
use Rattle.chain.proofs.StepsThere.{before-step}
use Rattle.chain.proofs.BestScores.{chain-within}

module _ {g : Graph} {anchors : List Anchor} where
  -- a chain to anchor i, and what comes after it
  chain_onto : {js : List ℕ} {i w k : ℕ} → Chain g anchors js i w k → (ks : List ℕ) → All (Within (length anchors)) ks → Ordered g anchors (i ∷ ks)
      → All (Within (length anchors)) (js ++ ks) × Ordered g anchors (js ++ ks)
  unfolding All Next
  chain_onto (one l) ks a o = ((l, a), o)
  chain_onto (more {js = js} {j = j} r l p) ks a o = rw (append_assoc js (j ∷ []) ks) (chain_onto r (j ∷ ks) (l, a) (p.before, o))

  chain-some : {js : List ℕ} {j w k : ℕ} → Chain g anchors js j w k → 1 ≤ length js
  chain-some (one l) = omega arith
  chain-some (more {js = js} {j = j} r l p) = omega (arith, length-append js (j ∷ []))

  -- a chain is valid
  pub chain-valid : {js : List ℕ} {j w k : ℕ} → Chain g anchors js j w k → Valid g anchors js
  unfolding All Next
  chain-valid {js} {j} c =
      let (a, o) = chain_onto c [] tt tt in
      record { some = omega (arith, chain-some c); given = rw (append-nil js) at a; ordered = rw (append-nil js) at o }

module _ {g : Graph} {a : AnchorSet} (G : GoodGraph g) (A : GoodAnchors g a) where
  -- a chain that goes on
  chain-on : (js : List ℕ) {is : List ℕ} {i w k : ℕ} → Chain g a.anchors is i w k → All (Within (length a.anchors)) js → Ordered g a.anchors (i ∷ js)
      → (z : ℤ) × Scores g a.anchors (is ++ js) z
  unfolding All Next
  chain-on [] {is} {i} {w} {k} c h o = (score w k, record { j = i; w = w; k = k; chain = rw (append-nil is) c; is = refl })
  chain-on (j ∷ js) {is} {i} c h o =
      let (q, s) = before-step G (good_at A i (chain-within g a.anchors c)) (good_at A j h.0) o.0 in
      rw (← append_assoc is (j ∷ []) js) (chain-on js (more c h.0 s) h.1 o.1)

  -- and a valid chain has a score
  pub valid-scores : (js : List ℕ) → Valid g a.anchors js → (z : ℤ) × Scores g a.anchors js z
  unfolding All Next
  valid-scores [] v = absurd (omega (arith, v.some))
  valid-scores (j ∷ js) v = chain-on js (one v.given.0) v.given.1 v.ordered

-- ---- and one score

-- lists that are the same with one more are the same, and so is what they have more
last-same : (is js : List ℕ) {i j : ℕ} → is ++ (i ∷ []) ≡ js ++ (j ∷ []) → (is ≡ js) × (i ≡ j)
last-same [] [] e = (refl, head-eq_of_cons-eq e)
last-same [] (k ∷ js) {j = j} e = absurd (omega (arith, ap length e, length-append js (j ∷ [])))
last-same (h ∷ is) [] {i = i} e = absurd (omega (arith, ap length e, length-append is (i ∷ [])))
last-same (h ∷ is) (k ∷ js) e =
    let (t, l) = last-same is js (tail-eq_of_cons-eq e) in
    ((λ x. head-eq_of_cons-eq e x ∷ t x), l)

module _ (g : Graph) (anchors : List Anchor) where
  chain-one : {is js : List ℕ} {i j w x k q : ℕ} → Chain g anchors is i w k → Chain g anchors js j x q → is ≡ js → (i ≡ j) × (w ≡ x) × (k ≡ q)
  chain-one (one l) (one m) e =
      let h = head-eq_of_cons-eq e in
      (h, ap (λ (j : ℕ). (anchor_at anchors j).weight) h, refl)
  chain-one (one l) (more {js = js} {j = j} r m p) e = absurd (omega (arith, ap length e, length-append js (j ∷ []), chain-some r))
  chain-one (more {js = is} {j = j} r l p) (one m) e = absurd (omega (arith, ap length e, length-append is (j ∷ []), chain-some r))
  chain-one (more {js = is} {i = h} {j = i} {q = q} r l p) (more {js = js} {i = f} {j = j} {q = t} b m s) e =
      let (same, last) = last-same is js e in
      let (before, w, k) = chain-one r b same in
      let gaps : q ≡ t = step-one g _ _ q t p (subst (λ (A : Anchor). Step g A (anchor_at anchors i) t) (ap (anchor_at anchors) (sym before)) (subst (λ (B : Anchor). Step g (anchor_at anchors f) B t) (ap (anchor_at anchors) (sym last)) s)) in
      (last, omega (arith, w, ap (λ (j : ℕ). (anchor_at anchors j).weight) last), omega arith)

  pub scores-one : (js : List ℕ) (y z : ℤ) → Scores g anchors js y → Scores g anchors js z → y ≡ z
  scores-one js y z a b =
      let (_, w, k) = chain-one a.chain b.chain refl in
      sym a.is ∙ ap₂ score w k ∙ b.is
