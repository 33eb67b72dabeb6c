-- The rounds over a setting are the rounds of the sweep: they end, and leave each anchor the best score of all chains that end there. Assumes nothing.
use Prim.Native.Nat.{ℕ, zero, suc, ◌+◌, ◌-◌, ◌≤◌, ◌<◌, max}
use mathlib.Core.Path.{◌≡◌, refl, sym, ap, ◌∙◌, subst}
use mathlib.Core.Logic.{ite}
use mathlib.Core.List.{List}
use native.Mathlib.Decide.{dec_le}
use native.Mathlib.Nat.{le_refl}
use native.Mathlib.Omega.{arith}
use lib.ListN.{length, get_or, set, length-map, get_or-map}
use lib.Seq.{ext_get_or}
use Rattle.rounds.specs.Rounds.{Within, sweep, Rounds}
use Rattle.rounds.specs.Gather.{gather}
use Rattle.rounds.specs.Rule.{value}
use Rattle.rounds.specs.Kinds.{score_rule}
use Rattle.rounds.specs.Table.{entry, cell_step, entry_step}
use Rattle.rounds.specs.Loop.{Ends}
use Rattle.rounds.proofs.Upto.{within, within-suc, within-last}
use Rattle.rounds.proofs.Counts.{rounds_mirror}
use Rattle.graph.specs.Content.{Graph}
use Rattle.anchors.specs.Anchors.{Anchor, AnchorSet}
use Rattle.anchors.specs.AnchorRules.{no_anchor}
use Rattle.chain.specs.Steps.{anchor_at}
use Rattle.chain.specs.Sweep.{IsSteps, weights, step_links, sweep_round, Swept, none, rounds}
use Rattle.chain.proofs.StepLaws.{Sound, good_sound}
use Rattle.chain.proofs.SweepLaws.{SweptWell, sweep_settles, swept_well}
use Rattle.steps.specs.Setting.{Setting, anchor_of, step_of, Holds}
use Rattle.sweep_round.specs.Round.{rule_of, round_of}
use Rattle.sweep_engine.specs.Sweeping.{weights_of, SweptIn, empty, made}
use Rattle.steps.proofs.EachLaws.{each-length, each_at}
use Rattle.steps.proofs.SettingLaws.{held-not, held-step}

-- ---- a number that counts only where two facts hold

gate : {P Q : Type 0} → Dec P → Dec Q → ℕ → ℕ
gate (yes p) (yes q) x = x
gate (yes p) (no _) x = 0
gate (no _) q x = 0

gate_both : {P Q : Type 0} (p : Dec P) (q : Dec Q) (x : ℕ) → P → Q → gate p q x ≡ x
unfolding gate
gate_both (yes _) (yes _) x p q = refl
gate_both (yes _) (no n) x p q = absurd (n q)
gate_both (no n) b x p q = absurd (n p)

gate_some : {P Q : Type 0} (p : Dec P) (q : Dec Q) (x k : ℕ) → gate p q x ≡ suc k → P × Q × (x ≡ suc k)
unfolding gate
gate_some (yes p) (yes q) x k e = (p, q, e)
gate_some (yes p) (no _) x k e = absurd (omega arith)
gate_some (no _) q x k e = absurd (omega arith)

within? : (n v : ℕ) → Dec (Within n v)
within? n v = both (dec_le 1 v) (dec_le v n)
  where
    both : Dec (1 ≤ v) → Dec (v ≤ n) → Dec (Within n v)
    both (yes l) (yes h) = yes (within l h)
    both (yes l) (no n) = no (λ w. n w.high)
    both (no n) h = no (λ w. n w.low)

-- the step between two anchors that are there, and 0 for other numbers
pub steps_of : Setting → ℕ → ℕ → ℕ
steps_of s i j = gate (within? s.count i) (within? s.count j) (step_of s i j)

-- ---- rounds that do the same are the same

-- rounds that do the same make the same rounds
rounds-same : {S : Type 0} (f h : S → S) → ((t : S) → h t ≡ f t) → {s t : S} {k : ℕ} → Rounds f s k t → Rounds h s k t
rounds-same f h e r = rounds_mirror f h (λ t. t) (λ _. Unit {0}) (λ _ _. tt) (λ t _. e t) (λ _ _ _ _ q. q) r tt

-- candidates along steps that agree on 1 to k
steps_ext : (f h has : ℕ → ℕ) (w own k : ℕ) → ((e : ℕ) → Within k e → f e ≡ h e)
    → gather max (λ e. dec_le 1 (f e)) (λ e. has e + w - (f e - 1)) own k ≡ gather max (λ e. dec_le 1 (h e)) (λ e. has e + w - (h e - 1)) own k
unfolding gather
steps_ext f h has w own zero q = refl
steps_ext f h has w own (suc k) q =
    ap (λ (x : ℕ). ite (dec_le 1 x) (max (gather max (λ e. dec_le 1 (f e)) (λ e. has e + w - (f e - 1)) own k) (has (suc k) + w - (x - 1))) (gather max (λ e. dec_le 1 (f e)) (λ e. has e + w - (f e - 1)) own k))
    (q (suc k) (within-last k))
    ∙ ap (λ (y : ℕ). ite (dec_le 1 (h (suc k))) (max y (has (suc k) + w - (h (suc k) - 1))) y) (steps_ext f h has w own k (λ e v. q e (within-suc v)))

module _ {s : Setting} {g : Graph} {a : AnchorSet} (H : Holds s g a) where
  -- ---- the steps

  anchor-within : {j : ℕ} → Within s.count j → Within (length a.anchors) j
  anchor-within w = within w.low (omega (arith, H.anchors_are))

  within-anchor : {j : ℕ} → Within (length a.anchors) j → Within s.count j
  within-anchor w = within w.low (omega (arith, H.anchors_are))

  steps_held : (i j : ℕ) → Within s.count i → Within s.count j → steps_of s i j ≡ step_of s i j
  unfolding steps_of
  steps_held i j wi wj = gate_both (within? s.count i) (within? s.count j) (step_of s i j) wi wj

  -- they tell of each two anchors whether the first comes before the second, and the gaps
  pub is_steps : IsSteps g a.anchors (steps_of s)
  unfolding steps_of
  is_steps = record {
    none = λ i j wi wj e. held-not H i j (within-anchor wi) (within-anchor wj) (sym (steps_held i j (within-anchor wi) (within-anchor wj)) ∙ e);
    some = λ i j k e.
        let (wi, wj, q) = gate_some (within? s.count i) (within? s.count j) (step_of s i j) k e in
        (anchor-within wi, anchor-within wj, held-step H i j wi wj k q);
  }

  -- ---- the rounds

  step_same : (v : ℕ) (t : List ℕ) → Within s.count v
      → entry_step (rule_of s) v t ≡ entry_step (score_rule (step_links s.count (steps_of s)) (λ j. (anchor_at a.anchors j).weight) (λ i j. steps_of s i j - 1)) v t
  unfolding cell_step value
  step_same v t w = ap (set t (v - 1))
      (steps_ext (λ i. step_of s i v) (λ i. steps_of s i v) (λ u. entry u t) (anchor_of s v).weight (entry v t) s.count (λ e k. sym (steps_held e v k w))
      ∙ ap (λ (A : Anchor). gather max (λ e. dec_le 1 (steps_of s e v)) (λ e. entry e t + A.weight - (steps_of s e v - 1)) (entry v t) s.count) (H.numbers v w))

  round_same : (t : List ℕ) → round_of s t ≡ sweep_round a.anchors (steps_of s) t
  unfolding sweep
  round_same t = rw H.anchors_are (go s.count (le_refl _))
    where
      go : (m : ℕ) → m ≤ s.count
          → sweep (entry_step (rule_of s)) m t ≡ sweep (entry_step (score_rule (step_links s.count (steps_of s)) (λ j. (anchor_at a.anchors j).weight) (λ i j. steps_of s i j - 1))) m t
      go zero l = refl
      go (suc m) l =
          step_same (suc m) _ (within (omega arith) l)
          ∙ ap (entry_step (score_rule (step_links s.count (steps_of s)) (λ j. (anchor_at a.anchors j).weight) (λ i j. steps_of s i j - 1)) (suc m)) (go m (omega arith))

  -- they start at the anchors' weights
  weights-are : weights_of s ≡ weights a.anchors
  weights-are =
      ext_get_or 0 (weights_of s) (weights a.anchors)
      (each-length (λ A. A.weight) s.numbers s.count ∙ sym (length-map a.anchors (λ (A : Anchor). A.weight) ∙ H.anchors_are))
      (λ i h. at i (omega (arith, each-length (λ A. A.weight) s.numbers s.count)))
    where
      at : (i : ℕ) → i < s.count → get_or (weights_of s) i 0 ≡ get_or (weights a.anchors) i 0
      at i h =
          let e : suc i - 1 ≡ i = omega arith in
          each_at (λ A. A.weight) s.numbers s.count i h
          ∙ ap (λ (A : Anchor). A.weight) (rw e at (H.numbers (suc i) (within (omega arith) h)))
          ∙ sym (get_or-map (λ (A : Anchor). A.weight) a.anchors i no_anchor)

  sound : Sound a.anchors
  sound = good_sound H.good_anchors

  -- with some anchors, they end
  pub sweep-ends : 1 ≤ s.count → Ends s.count (round_of s) (weights_of s)
  sweep-ends l =
      let w = sweep_settles g a.anchors sound (omega (arith, H.anchors_are)) (steps_of s) is_steps in
      record {
        count = w.count;
        last = w.last;
        rounds = rw weights-are (rounds-same (sweep_round a.anchors (steps_of s)) (round_of s) round_same w.rounds);
        bound = omega (arith, w.bound, H.anchors_are);
      }

  -- THE SWEEP over a setting is the sweep of the anchors it holds
  pub swept-held : {k : ℕ} {S : List ℕ} → SweptIn s k S → Swept g a.anchors k S
  swept-held (empty e) = none (H.anchors_are ∙ e)
  swept-held (made {k = k} {S = S} l r) =
      rounds (steps_of s) (omega (arith, H.anchors_are)) is_steps
      (rounds-same (round_of s) (sweep_round a.anchors (steps_of s)) (λ t. sym (round_same t)) (subst (λ (t : List ℕ). Rounds (round_of s) t k S) weights-are r))

  -- so it leaves each anchor the best score of all chains that end there, in N rounds at most
  pub swept-best : {k : ℕ} {S : List ℕ} → SweptIn s k S → SweptWell g a.anchors k S
  swept-best {k} {S} r = swept_well g a.anchors sound k S (swept-held r)
