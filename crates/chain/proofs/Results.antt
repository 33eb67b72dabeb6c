-- The result of an engine is one, whichever engine gave it.
-- Assumes nothing.
use Prim.Native.Nat.{ℕ, zero, suc}
use mathlib.Core.Path.{◌≡◌, refl, sym, ap, ◌∙◌, subst, fun_ext}
use mathlib.Core.List.{List}
use native.Mathlib.Omega.{arith}
use native.Mathlib.Numerals.{sub-one}
use lib.ListN.{length}
use lib.Seq.{ext_get_or}
use Rattle.rounds.specs.Rounds.{Within, Rounds}
use Rattle.rounds.proofs.Counts.{unique}
use Rattle.graph.specs.Content.{Graph}
use Rattle.anchors.specs.Anchors.{Anchor}
use Rattle.chain.specs.Steps.{anchor_at}
use Rattle.chain.specs.Named.{Returned}
use Rattle.chain.specs.Sweep.{IsSteps, weights, sweep_round, Swept, none, rounds}
use Rattle.chain.specs.ChainEntries.{Result, IsResult}
use Rattle.chain.proofs.StepLaws.{step-one}
use Rattle.chain.proofs.BestScores.{best-one}
use Rattle.chain.proofs.NamedLaws.{returned-one}

-- two engines give the same scores, chain and score: "The plain pass over pairs returns the same scores and chain."
pub record Same (r t : Result) : Type 0 where
  pub scores : r.scores ≡ t.scores
  pub chain : r.chain ≡ t.chain
  pub score : r.score ≡ t.score

pub result-one : (g : Graph) (anchors : List Anchor) (r t : Result) → IsResult g anchors r → IsResult g anchors t → Same r t
result-one g anchors r t p q =
    let e : r.scores ≡ t.scores =
    ext_get_or 0 r.scores t.scores (p.size ∙ sym q.size) (λ i h.
    let w : Within (length anchors) (suc i) = record { low = omega arith; high = omega (arith, p.size) } in
    let b = best-one g anchors (suc i) _ _ (p.best (suc i) w) (q.best (suc i) w) in
    rw sub-one at b) in
    let c = returned-one g anchors t.scores (subst (λ (S : List ℕ). Returned g anchors S r.chain r.score) e p.returned) q.returned in
    record { scores = e; chain = c.0; score = c.1 }

-- ---- the sweep's rounds are one number

module _ (g : Graph) (anchors : List Anchor) (f h : ℕ → ℕ → ℕ) (F : IsSteps g anchors f) (H : IsSteps g anchors h) where
  steps_same : (i j : ℕ) → f i j ≡ h i j
  steps_same i j = on (f i j) (h i j) refl refl
    where
      on : (x z : ℕ) → f i j ≡ x → h i j ≡ z → f i j ≡ h i j
      on zero zero e d = e ∙ sym d
      on zero (suc z) e d = let t = H.some i j z d in absurd (F.none i j t.0 t.1 e t.2.before)
      on (suc x) zero e d = let t = F.some i j x e in absurd (H.none i j t.0 t.1 d t.2.before)
      on (suc x) (suc z) e d =
          let q : x ≡ z = step-one g (anchor_at anchors i) (anchor_at anchors j) x z (F.some i j x e).2 (H.some i j z d).2 in
          e ∙ ap suc q ∙ sym d

  steps_one : f ≡ h
  steps_one = fun_ext (λ i. fun_ext (λ j. steps_same i j))

-- "the rounds reported are those of the rule": two sweeps of the same anchors report the same rounds and scores
pub swept-one : (g : Graph) (anchors : List Anchor) (j k : ℕ) (S T : List ℕ) → Swept g anchors j S → Swept g anchors k T → (j ≡ k) × (S ≡ T)
swept-one g anchors j k S T (none e) (none d) = (refl, refl)
swept-one g anchors j k S T (none e) (rounds f l F r) = absurd (omega arith)
swept-one g anchors j k S T (rounds f l F r) (none e) = absurd (omega arith)
swept-one g anchors j k S T (rounds f l F r) (rounds h m H q) =
    unique (sweep_round anchors f) r (subst (λ (w : ℕ → ℕ → ℕ). Rounds (sweep_round anchors w) (weights anchors) k T) (sym (steps_one g anchors f h F H)) q)
