-- The anchors of a setting, how their best scores follow from those before, and that they are low. Assumes nothing.
use Prim.Native.Nat.{ℕ, zero, suc, ◌+◌, ◌-◌, ◌*◌, ◌≤◌, ◌<◌}
use mathlib.Core.Path.{◌≡◌, refl, ap, ◌∙◌}
use mathlib.Core.Logic.{◌⊎◌, inl, inr}
use mathlib.Core.List.{List}
use native.Mathlib.Omega.{arith}
use lib.ListN.{length}
use Rattle.wire.specs.Sizes.{most_weight}
use Rattle.rounds.specs.Rounds.{Within}
use Rattle.rounds.specs.Table.{entry}
use Rattle.rounds.proofs.Upto.{within}
use Rattle.graph.specs.Content.{Graph}
use Rattle.anchors.specs.Anchors.{Anchor, AnchorSet}
use Rattle.chain.specs.Steps.{anchor_at, Step}
use Rattle.chain.specs.Chains.{Chain, one, more, IsBest}
use Rattle.chain.proofs.StepLaws.{Sound, good_sound, step-one, step-rises}
use Rattle.chain.proofs.BestScores.{chain-within, follows_best}
use Rattle.pair_step.specs.Pairs.{Greatest}
use Rattle.steps.specs.Setting.{Setting, anchor_of, step_of, Holds}
use Rattle.steps.proofs.SettingLaws.{anchor-fits, held-not, held-step}

module _ {s : Setting} {g : Graph} {a : AnchorSet} (H : Holds s g a) where
  pub held-within : {j : ℕ} → Within s.count j → Within (length a.anchors) j
  held-within w = within w.low (omega (arith, H.anchors_are, w.high))

  pub within_held : {j : ℕ} → Within (length a.anchors) j → Within s.count j
  within_held w = within w.low (omega (arith, H.anchors_are, w.high))

  -- one number of an anchor
  pub held_number : (f : Anchor → ℕ) (j : ℕ) → Within s.count j → f (anchor_of s j) ≡ f (anchor_at a.anchors j)
  held_number f j w = ap f (H.numbers j w)

  pub held_sound : Sound a.anchors
  held_sound = good_sound H.good_anchors

  -- the read place rises along a step
  pub held-order : (i j k : ℕ) → Within s.count i → Within s.count j → Step g (anchor_at a.anchors i) (anchor_at a.anchors j) k
      → (anchor_of s i).c < (anchor_of s j).c
  held-order i j k wi wj p =
      omega (arith, held_number (λ b. b.c) i wi, held_number (λ b. b.c) j wj, step-rises g a.anchors i j k held_sound (held-within wi) p)

  -- a step is what the setting's step tells
  pub step-told : (i j k : ℕ) → Within s.count i → Within s.count j → Step g (anchor_at a.anchors i) (anchor_at a.anchors j) k → step_of s i j ≡ suc k
  step-told i j k wi wj p = on (step_of s i j) refl
    where
      on : (x : ℕ) → step_of s i j ≡ x → step_of s i j ≡ suc k
      on zero e = absurd (held-not H i j wi wj e p.before)
      on (suc x) e =
          e ∙ ap suc (step-one g (anchor_at a.anchors i) (anchor_at a.anchors j) x k (held-step H i j wi wj x e) p)

  -- The greatest of the weight of anchor j and of the candidates of anchors that have their best scores, among them all that come before j in the read, is
  -- the best score of j, however it is found.
  pub greatest-best : {P : ℕ → Type 0} (S : List ℕ) (j : ℕ) {x : ℕ} → Within s.count j → ((i : ℕ) → P i → Within s.count i)
      → ((i : ℕ) → Within s.count i → (anchor_of s i).c < (anchor_of s j).c → P i × IsBest g a.anchors i (entry i S))
      → Greatest (anchor_of s j).weight (anchor_of s j).weight (λ i. step_of s i j) (λ i. entry i S) P x → IsBest g a.anchors j x
  greatest-best {P} S j {x} w there known b = follows_best g a.anchors (λ i. entry i S) j x (held-within w) (record {
    known = λ i k wi p. (known i (within_held wi) (held-order i j k (within_held wi) w p)).1;
    heavy = omega (arith, b.heavy, weigh);
    each = λ i k wi p.
        let e = step-told i j k (within_held wi) w p in
        omega (arith, b.each i (known i (within_held wi) (held-order i j k (within_held wi) w p)).0 (omega arith), weigh);
    which = on b.which;
  })
    where
      weigh : (anchor_of s j).weight ≡ (anchor_at a.anchors j).weight
      weigh = held_number (λ b. b.weight) j w

      on : (x ≡ (anchor_of s j).weight) ⊎ ((i : ℕ) × P i × (1 ≤ step_of s i j) × (entry i S + (anchor_of s j).weight ≡ x + (step_of s i j - 1)))
          → (x ≡ (anchor_at a.anchors j).weight)
          ⊎ ((i : ℕ) × (k : ℕ) × Within (length a.anchors) i × Step g (anchor_at a.anchors i) (anchor_at a.anchors j) k × (entry i S + (anchor_at a.anchors j).weight ≡ x + k))
      on (inl e) = inl (e ∙ weigh)
      on (inr (i, p, l, e)) =
          inr (i, step_of s i j - 1, held-within (there i p), held-step H i j (there i p) w (step_of s i j - 1) (omega arith), omega (arith, weigh))

  -- the weights of a chain are at most the greatest weight for each place of the read up to its last anchor's first
  chain_light : {js : List ℕ} {j w k : ℕ} → Chain g a.anchors js j w k → w ≤ most_weight * (anchor_of s j).c
  chain_light (one {j = j} l) =
      let b = anchor-fits H j (within_held l) in
      omega (arith, b.c.low, b.weight.high, held_number (λ b. b.weight) j (within_held l))
  chain_light (more {i = i} {j = j} {q = q} r l p) =
      let wi = within_held (chain-within g a.anchors r) in
      let b = anchor-fits H j (within_held l) in
      omega (arith, chain_light r, b.weight.high, held_number (λ b. b.weight) j (within_held l), held-order i j q wi (within_held l) p)

  -- .. and so is a best score
  pub best-low : (j t : ℕ) → IsBest g a.anchors j t → t ≤ most_weight * (anchor_of s j).c
  best-low j t b = omega (arith, b.attained, chain_light b.chain)

-- a list as long as another has the same room
pub room_kept : (m n full : ℕ) → m ≡ n → full ≤ n → full ≤ m
room_kept m n full e h = omega arith
