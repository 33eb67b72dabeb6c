-- How high the scores come in a round: at most the greatest weight for each place of the read up to the anchor's first. Assumes nothing.
use Prim.Native.Nat.{ℕ, ◌+◌, ◌-◌, ◌*◌, ◌≤◌}
use mathlib.Core.Path.{◌≡◌}
use mathlib.Core.Logic.{◌⊎◌, inl, inr}
use native.Mathlib.Decide.{dec_le, ℕ_discrete}
use native.Mathlib.Omega.{arith}
use lib.ListN.{set, length-set}
use lib.Seq.{get_or-set_same, get_or-set_other}
use Rattle.wire.specs.Sizes.{most_weight}
use Rattle.rounds.specs.Rounds.{Within}
use Rattle.rounds.specs.Rule.{value}
use Rattle.rounds.specs.Table.{entry, cell_step, entry_step}
use Rattle.rounds.proofs.Fits.{max-order}
use Rattle.rounds.proofs.Gather.{gather-one}
use Rattle.rounds.proofs.InPlace.{Keeps}
use Rattle.graph.specs.Content.{Graph}
use Rattle.anchors.specs.Anchors.{AnchorSet}
use Rattle.steps.specs.Setting.{Setting, anchor_of, step_of, Holds}
use Rattle.steps.specs.Scores.{ScoresLow}
use Rattle.steps.proofs.SettingLaws.{anchor-fits, held-rises}
use Rattle.sweep_round.specs.Round.{rule_of}

module _ {s : Setting} {g : Graph} {a : AnchorSet} (H : Holds s g a) where
  -- each step adds a weight at most, and comes to a later place of the read
  pub low_keeps : Keeps s.count (entry_step (rule_of s)) (ScoresLow s)
  unfolding cell_step value
  low_keeps v t w l = record {
    size = rw length-set l.size;
    low = λ j wj. at j wj (ℕ_discrete j v);
  }
    where
      x : ℕ
      x = value (rule_of s) (λ u. entry u t) v

      below : x ≤ most_weight * (anchor_of s v).c
      below = go (gather-one max-order (λ i. dec_le 1 (step_of s i v)) (λ i. entry i t + (anchor_of s v).weight - (step_of s i v - 1)) (entry v t) s.count)
        where
          go : (x ≡ entry v t) ⊎ ((e : ℕ) × Within s.count e × (1 ≤ step_of s e v) × (x ≡ entry e t + (anchor_of s v).weight - (step_of s e v - 1))) → x ≤ most_weight * (anchor_of s v).c
          go (inl e) = omega (arith, l.low v w)
          go (inr (e, we, h, q)) =
              let r = held-rises H e v we w h in
              let p = l.low e we in
              let b = (anchor-fits H v w).weight.high in
              omega arith

      at : (j : ℕ) → Within s.count j → Dec (j ≡ v) → entry j (set t (v - 1) x) ≤ most_weight * (anchor_of s j).c
      at j wj (yes e) = rw e (rw (get_or-set_same t (v - 1) x 0 (omega (arith, l.size))) below)
      at j wj (no n) = rw (get_or-set_other t (v - 1) (j - 1) x 0 (λ e. n (omega arith))) (l.low j wj)
