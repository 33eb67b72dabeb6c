-- The loop over the anchors, turn by turn in the code's numbers.
-- Assumes nothing.
use Prim.Native.Nat.{ℕ, ◌+◌, ◌-◌, ◌≤◌, ◌<◌}
use mathlib.Core.Path.{◌≡◌, ap, ◌∙◌, subst}
use mathlib.Core.Logic.{◌≢◌}
use mathlib.Core.Bool.{Bool, true}
use mathlib.Core.List.{List}
use native.Mathlib.Nat.{le_refl}
use native.Mathlib.Omega.{arith}
use lib.ListN.{get_or, set}
use Rattle.wire.specs.Sizes.{most_read, most_weight}
use Rattle.rounds.specs.Rule.{value}
use Rattle.rounds.specs.Place.{entry_place}
use Rattle.rounds.specs.Table.{entry, entry_step}
use Rattle.rounds.proofs.Upto.{within}
use Rattle.rounds.proofs.InPlace.{sweep_keeps, round_keeps}
use Rattle.rounds.proofs.Table.{entry_local}
use Rattle.rounds.proofs.Turns.{Swept, swept_kept, swept-set, cell-step}
use Rattle.graph.specs.Content.{Graph}
use Rattle.anchors.specs.Anchors.{AnchorSet}
use Rattle.anchors.specs.AnchorEntries.{anchor_in}
use Rattle.pair_step.specs.Pairs.{EndsFit, RowFits, ScoresFit}
use Rattle.steps.specs.Setting.{Setting, row_in, step_of, Holds}
use Rattle.sweep_round.specs.Round.{best_in, rule_of, round_of}
use Rattle.steps.specs.Scores.{ScoresLow}
use Rattle.steps.proofs.SettingLaws.{AnchorFits, anchor-fits, ends_fit, row_fits, scores_fit}
use Rattle.sweep_round.proofs.RoundLow.{low_keeps}

-- the invariant of the loop over the anchors
abbrev pub RoundInv : Setting → List ℕ → ℕ → List ℕ → Bool → Type 0
RoundInv s = Swept 1 (entry_step (rule_of s)) (λ v _. entry v)

-- anchor j + 1, at place j
pub placed_fits : {s : Setting} {g : Graph} {a : AnchorSet} → Holds s g a → (j : ℕ) → j < s.count → AnchorFits s.n (anchor_in s.numbers j)
placed_fits {s} H j l =
    let e : j + 1 - 1 ≡ j = omega arith in
    subst (λ (q : ℕ). AnchorFits s.n (anchor_in s.numbers q)) e (anchor-fits H (j + 1) (within (omega arith) (omega arith)))

module _ {s : Setting} {g : Graph} {a : AnchorSet} (H : Holds s g a) {start : List ℕ} (low : ScoresLow s start) (j : ℕ) (l : j < s.count) {row : List ℕ}
    (turn_row : row ≡ row_in s (anchor_in s.numbers j).v) {t : List ℕ} {b : Bool} (w : RoundInv s start j t b)
  where
    turn_low : ScoresLow s t
    turn_low = rw w.is (sweep_keeps s.count (entry_step (rule_of s)) (ScoresLow s) (low_keeps H) j start (omega arith) low)

    -- what the best of the candidates is given
    pub turn_fits : EndsFit s.count s.ends
        × (RowFits s.count s.ends row
        × (ScoresFit s.count t
        × (((anchor_in s.numbers j).x ≤ most_read) × ((anchor_in s.numbers j).c ≤ most_read) × (1 ≤ (anchor_in s.numbers j).x) × ((anchor_in s.numbers j).weight ≤ most_weight))))
    turn_fits =
        let f = placed_fits H j l in
        let e : j + 1 - 1 ≡ j = omega arith in (
          ends_fit H,
          (
            rw turn_row (row_fits H (anchor_in s.numbers j).v f.vertex (j + 1) (within (omega arith) (omega arith)) (ap (λ (q : ℕ). (anchor_in s.numbers q).v) e)),
            (scores_fit H t turn_low, (f.x.high, f.c.high, f.x.low, f.weight.high)),
          ),
        )

    module _ (best : ℕ)
        (is : best ≡ best_in s.ends t row (get_or t j 0) (anchor_in s.numbers j).v (anchor_in s.numbers j).x (anchor_in s.numbers j).c (anchor_in s.numbers j).weight s.count)
      where
        best-value : best ≡ value (rule_of s) (λ u. entry u t) (j + 1)
        unfolding value step_of
        best-value =
            let e : j ≡ j + 1 - 1 = omega arith in
            is
            ∙ ap (λ (r : List ℕ). best_in s.ends t r (get_or t j 0) (anchor_in s.numbers j).v (anchor_in s.numbers j).x (anchor_in s.numbers j).c (anchor_in s.numbers j).weight s.count) turn_row
            ∙ ap (λ (q : ℕ). best_in s.ends t (row_in s (anchor_in s.numbers q).v) (get_or t q 0) (anchor_in s.numbers q).v (anchor_in s.numbers q).x (anchor_in s.numbers q).c (anchor_in s.numbers q).weight s.count) e

        set_to : entry_step (rule_of s) (j + 1) t ≡ set t j best
        set_to = cell-step entry_place (λ _. rule_of s) (j + 1) 1 t (omega arith) best-value

        pub turn_same : best ≡ get_or t j 0 → RoundInv s start (j + 1) t b
        turn_same e = swept_kept s.count (λ _ _. entry_local s.count (rule_of s)) j best l w set_to e

        pub turn_set : best ≢ get_or t j 0 → RoundInv s start (j + 1) (set t j best) true
        turn_set d =
            swept-set s.count (λ _ _. entry_local s.count (rule_of s)) j best 1 l w set_to (omega (arith, turn_low.size)) d (within (le_refl 1) (le_refl 1))
            (λ r. ap (λ (q : ℕ). get_or r q 0) (omega arith))

-- a round leaves the scores low
pub round-low : {s : Setting} {g : Graph} {a : AnchorSet} → Holds s g a → (t u : List ℕ) → ScoresLow s t → u ≡ round_of s t → ScoresLow s u
round-low {s} H t u l e = rw e (round_keeps s.count (entry_step (rule_of s)) (ScoresLow s) (low_keeps H) t l)
