-- The sweep: from the weights its rounds settle, within N, at the best score of all chains.
-- Assumes nothing.
use Prim.Native.Nat.{ℕ, zero, suc, ◌+◌, ◌-◌, ◌≤◌, ◌<◌}
use mathlib.Core.Path.{◌≡◌, refl, ap, ◌∙◌, subst}
use mathlib.Core.List.{List, [], ◌∷◌, ◌++◌, map}
use native.Mathlib.Omega.{arith}
use lib.ListN.{length, get_or-map}
use Rattle.rounds.specs.Rounds.{Within}
use Rattle.rounds.specs.Place.{entry_place}
use Rattle.rounds.specs.Table.{entry}
use Rattle.rounds.specs.Best.{Link, start, along, Best, Finished, Column}
use Rattle.rounds.specs.Kinds.{score_column}
use Rattle.rounds.specs.Loop.{Settles}
use Rattle.rounds.proofs.Fits.{score-lawful, score_fit}
use Rattle.rounds.proofs.Relax.{optimal}
use Rattle.rounds.proofs.Table.{vector_settles}
use Rattle.rounds.proofs.Counts.{settled}
use Rattle.graph.specs.Content.{Graph}
use Rattle.anchors.specs.Anchors.{Anchor}
use Rattle.anchors.specs.AnchorRules.{no_anchor}
use Rattle.chain.specs.Steps.{anchor_at, Step}
use Rattle.chain.specs.Chains.{Chain, one, more, IsBest}
use Rattle.chain.specs.Sweep.{IsSteps, weights, step_links, sweep_round, Swept, none, rounds}
use Rattle.chain.proofs.StepLaws.{Sound, step-one, step-rises}

-- the column of scores
abbrev pub sweep_column : List Anchor → (ℕ → ℕ → ℕ) → Column
sweep_column anchors f = score_column (step_links (length anchors) f) (λ j. (anchor_at anchors j).weight) (λ i j. f i j - 1)

length-map : {A B : Type 0} (f : A → B) (l : List A) → length (map f l) ≡ length l
length-map f [] = refl
length-map f (x ∷ l) = ap suc (length-map f l)

module _ (g : Graph) (anchors : List Anchor) (S : Sound anchors) (some : 1 ≤ length anchors) (f : ℕ → ℕ → ℕ) (F : IsSteps g anchors f) where
  -- a link is a step, with the gaps that f gives
  linked : (i j : ℕ) → Link (step_links (length anchors) f) i j
      → Within (length anchors) i × Within (length anchors) j × (1 ≤ f i j) × Step g (anchor_at anchors i) (anchor_at anchors j) (f i j - 1)
  linked i j l =
      let h : 1 ≤ f i j = subst (λ (e : ℕ). 1 ≤ f e j) l.leaves l.enters in
      let t = F.some i j (f i j - 1) (omega arith) in
      (t.0, t.1, h, t.2)

  -- .. and a step is a link
  pub link : (i j k : ℕ) → Within (length anchors) i → Within (length anchors) j → Step g (anchor_at anchors i) (anchor_at anchors j) k
      → (f i j ≡ suc k) × Link (step_links (length anchors) f) i j
  link i j k wi wj p = go (f i j) refl
    where
      go : (x : ℕ) → f i j ≡ x → (f i j ≡ suc k) × Link (step_links (length anchors) f) i j
      go zero e = absurd (F.none i j wi wj e p.before)
      go (suc x) e =
          let q : x ≡ k = step-one g (anchor_at anchors i) (anchor_at anchors j) x k (F.some i j x e).2 p in
          (e ∙ ap suc q, record { e = i; listed = wi; leaves = refl; enters = omega arith })

  rank : ℕ → ℕ
  rank j = (anchor_at anchors j).c

  rising : (i j : ℕ) → Link (step_links (length anchors) f) i j → rank i < rank j
  unfolding rank
  rising i j l = let t = linked i j l in step-rises g anchors i j (f i j - 1) S t.0 t.3

  module _ (T : ℕ → ℕ) (is : (v : ℕ) → Within (length anchors) v → Best (sweep_column anchors f) v (T v)) where
    -- no chain scores more
    high : {js : List ℕ} {j w k : ℕ} → Chain g anchors js j w k → Within (length anchors) j × (w ≤ T j + k)
    high (one {j = j} l) = (l, omega (arith, (is j l).top _ start))
    high (more {i = i} {j = j} {q = q} r l p) =
        let (wi, ih) = high r in
        let (e, a) = link i j q wi l p in
        (l, omega (arith, (is j l).top _ (along (is i wi).derived a), a.leaves, ap (λ (x : ℕ). f x j) a.leaves))

    Reached : ℕ → Type 0
    Reached j = (js : List ℕ) × (w : ℕ) × (k : ℕ) × Chain g anchors js j w k × (w ≡ T j + k)

    -- and one scores as much
    reached : (j : ℕ) → Within (length anchors) j → Reached j
    unfolding Reached
    reached =
        optimal
        (score-lawful (length anchors) (step_links (length anchors) f) some (λ e w. w) (λ j. (anchor_at anchors j).weight) (λ i j. f i j - 1) S.heavy rank rising)
        T is Reached
        (λ v l e. (v ∷ [], (anchor_at anchors v).weight, 0, one l, omega arith))
        (λ u v a wu l (js, w, k, r, e) q. (
          js ++ (v ∷ []),
          w + (anchor_at anchors v).weight,
          k + (f u v - 1),
          more r l (linked u v a).3,
          omega (arith, S.heavy v l, (is v l).top _ start, rw a.leaves at q),
        ))

    pub best-score : (j : ℕ) → Within (length anchors) j → IsBest g anchors j (T j)
    unfolding Reached
    best-score j l =
        let (js, w, k, r, e) = reached j l in
        record { js = js; w = w; k = k; chain = r; attained = e; greatest = λ js w k r. (high r).1 }

  -- from the weights the rounds are 1 to N, and leave each anchor its best score
  pub sweep_settles : Settles (length anchors) (sweep_round anchors f) (Finished entry_place (length anchors) 1 (λ _. sweep_column anchors f) (weights anchors)) (weights anchors)
  sweep_settles =
      vector_settles (length anchors) (sweep_column anchors f) (weights anchors) (omega (arith, length-map (λ (a : Anchor). a.weight) anchors))
      (score_fit (length anchors) (step_links (length anchors) f) some (λ e w. w) (λ j. (anchor_at anchors j).weight) (λ i j. f i j - 1) S.heavy rank rising)
      (λ v w. get_or-map (λ (a : Anchor). a.weight) anchors (v - 1) no_anchor)

-- what the sweep leaves: as many scores as anchors, each the best of all chains that end there, in 1 to N rounds
pub record SweptWell (g : Graph) (anchors : List Anchor) (count : ℕ) (scores : List ℕ) : Type 0 where
  pub size : length scores ≡ length anchors
  pub best : (j : ℕ) → Within (length anchors) j → IsBest g anchors j (entry j scores)
  -- "With N anchors, N at least one, a round that changes nothing comes no later than round N"; with none there are no rounds
  pub few : count ≤ length anchors

-- THE SWEEP: each score ends as the best of all chains that end there
pub swept_well : (g : Graph) (anchors : List Anchor) → Sound anchors → (count : ℕ) (scores : List ℕ) → Swept g anchors count scores
    → SweptWell g anchors count scores
swept_well g anchors S count scores (none e) = record { size = omega arith; best = λ j w. absurd (omega arith); few = omega arith }
swept_well g anchors S count scores (rounds f some F r) =
    let w = sweep_settles g anchors S some f F in
    let (a, b, h) = settled w r in
    record {
      size = h.long ∙ length-map (λ (a : Anchor). a.weight) anchors;
      best = best-score g anchors S some f F (λ v. entry v scores) (λ v l. h.final v 1 l (record { low = omega arith; high = omega arith }));
      few = b;
    }
