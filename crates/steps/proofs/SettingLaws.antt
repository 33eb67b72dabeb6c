-- What a setting that holds a graph and anchors gives the engines: that its sums fit, and that its steps are those of the anchors. Assumes nothing.
use Prim.Native.Nat.{ℕ, zero, suc, ◌-◌, ◌*◌, ◌≤◌, ◌<◌}
use mathlib.Core.Path.{◌≡◌, sym, ap, ◌∙◌, subst}
use mathlib.Core.Logic.{◌⊎◌}
use mathlib.Core.List.{List}
use native.Mathlib.Decide.{dec_le}
use native.Mathlib.Omega.{arith}
use lib.ListN.{length, get_or}
use Rattle.wire.specs.Sizes.{most_letters, most_read, most_weight}
use Rattle.rounds.specs.Rounds.{Within}
use Rattle.rounds.specs.Table.{entry}
use Rattle.rounds.proofs.Upto.{within, total}
use Rattle.graph.specs.Content.{Graph, vertex_count}
use Rattle.graph.specs.Good.{GoodGraph}
use Rattle.anchors.specs.Anchors.{Anchor, AnchorSet, y, d}
use Rattle.anchors.specs.AnchorRules.{no_anchor}
use Rattle.anchors.specs.GoodAnchors.{GoodAnchor, GoodAnchors}
use Rattle.cover.specs.Walks.{L}
use Rattle.cover.proofs.GoodLaws.{all_at, labels-few, total_upto}
use Rattle.chain.specs.Steps.{anchor_at, Before, Step}
use Rattle.pair_step.specs.Pairs.{step_in, step_from, EndsFit, RowFits, ScoresFit}
use Rattle.steps.specs.Setting.{Setting, anchor_of, row_in, step_of, Holds}
use Rattle.steps.specs.Scores.{ScoresLow}
use Rattle.pair_step.proofs.PairLaws.{step_late}
use Rattle.steps.proofs.RowLaws.{row_says, row-own, row-long}
use Rattle.steps.proofs.StepSays.{RowSays, step-not, step_is, entry-fits}

less_one : (k : ℕ) → suc k - 1 ≡ k
less_one k = omega arith

-- a label is no longer than all together
label_few : {g : Graph} → GoodGraph g → (v : ℕ) → Within (vertex_count g) v → L g v ≤ most_letters
unfolding total
label_few {g} G zero w = absurd (omega arith)
label_few {g} G (suc v) w = omega (arith, total_upto (L g) (suc v) (vertex_count g) w.high, labels-few G)

-- what keeps an anchor's numbers within their types
pub record AnchorFits (n : ℕ) (A : Anchor) : Type 0 where
  pub vertex : Within n A.v
  pub x : Within most_read A.x
  pub c : Within most_read A.c
  pub length : 1 ≤ A.len
  pub weight : Within most_weight A.weight
  pub last : y A ≤ most_read
  pub end : d A ≤ most_read

good-anchor : {g : Graph} {a : AnchorSet} → GoodAnchors g a → (j : ℕ) → Within (length a.anchors) j → GoodAnchor g a.read (anchor_at a.anchors j)
good-anchor {g} {a} A j w = all_at no_anchor _ a.anchors A.each (j - 1) (omega arith)

-- an accepted anchor's do
pub good-fits : {g : Graph} {a : AnchorSet} → GoodGraph g → GoodAnchors g a → (j : ℕ) → Within (length a.anchors) j → AnchorFits (vertex_count g) (anchor_at a.anchors j)
unfolding L
good-fits {g} {a} G As j w =
    let A = good-anchor As j w in
    let v : Within (vertex_count g) (anchor_at a.anchors j).v = within A.vertex.0 A.vertex.1 in
    let l = label_few G (anchor_at a.anchors j).v v in
    let r = As.few_read in
    record {
      vertex = v;
      x = within A.some_x (omega (arith, A.in_label, A.some_length));
      c = within A.some_c (omega (arith, A.in_read, A.some_length));
      length = A.some_length;
      weight = within A.some_weight A.few_weight;
      last = omega (arith, A.in_label);
      end = omega (arith, A.in_read);
    }

module _ {s : Setting} {g : Graph} {a : AnchorSet} (H : Holds s g a) where
  pub held-anchor : (j : ℕ) → Within s.count j → GoodAnchor g a.read (anchor_at a.anchors j)
  held-anchor j w = good-anchor H.good_anchors j (within w.low (omega (arith, H.anchors_are)))

  pub anchor-fits : (j : ℕ) → Within s.count j → AnchorFits s.n (anchor_of s j)
  anchor-fits j w = rw (H.numbers j w, ← H.vertices) (good-fits H.good H.good_anchors j (within w.low (omega (arith, H.anchors_are))))

  -- ---- the step

  pub row_of : (v : ℕ) → Within s.n v → RowSays g v (row_in s v)
  row_of v w = record {
    others = λ u wu h. row_says H v w u (within wu.low (omega (arith, H.vertices))) h;
    closed = entry v s.closed;
    is_closed = H.closed v w;
    own = row-own H v w;
  }

  module _ (i j : ℕ) (wi : Within s.count i) (wj : Within s.count j) where
    target : Within s.n (anchor_at a.anchors j).v
    target = let A = held-anchor j wj in within A.vertex.0 (omega (arith, A.vertex.1, H.vertices))

    -- the step from anchor i to anchor j, by their numbers
    pub step-held : step_of s i j ≡ step_in (row_in s (anchor_at a.anchors j).v) (anchor_at a.anchors i).v (y (anchor_at a.anchors i)) (d (anchor_at a.anchors i))
        (anchor_at a.anchors j).v (anchor_at a.anchors j).x (anchor_at a.anchors j).c
    unfolding step_of
    step-held =
        ap (λ (B : Anchor). step_from s.ends (row_in s B.v) B.v B.x B.c i) (H.numbers j wj)
        ∙ rw (H.us i wi, H.ys i wi, H.ds i wi)

    pub held-not : step_of s i j ≡ 0 → Before g (anchor_at a.anchors i) (anchor_at a.anchors j) → ⊥
    held-not e = step-not H.good (held-anchor i wi) (held-anchor j wj) (row_of _ target) (sym step-held ∙ e)

    pub held-step : (k : ℕ) → step_of s i j ≡ suc k → Step g (anchor_at a.anchors i) (anchor_at a.anchors j) k
    held-step k e = step_is H.good (held-anchor i wi) (held-anchor j wj) (row_of _ target) k (sym step-held ∙ e)

    -- along a step the read place rises
    pub held-rises : 1 ≤ step_of s i j → (anchor_of s i).c < (anchor_of s j).c
    held-rises h = late (dec_le (anchor_at a.anchors j).c (d (anchor_at a.anchors i)))
      where
        late : Dec ((anchor_at a.anchors j).c ≤ d (anchor_at a.anchors i)) → (anchor_of s i).c < (anchor_of s j).c
        late (yes l) = absurd (omega (
          arith,
          step-held,
          step_late (row_in s (anchor_at a.anchors j).v) (anchor_at a.anchors i).v (y (anchor_at a.anchors i)) (d (anchor_at a.anchors i))
              (anchor_at a.anchors j).v (anchor_at a.anchors j).x (anchor_at a.anchors j).c l,
        ))
        late (no n) =
            let ei = ap (λ (A : Anchor). A.c) (H.numbers i wi) in
            let ej = ap (λ (A : Anchor). A.c) (H.numbers j wj) in
            let l = (held-anchor i wi).some_length in
            omega arith

  -- ---- that the sums fit

  pub ends_fit : EndsFit s.count s.ends
  ends_fit = record { us = H.us_room; ys = H.ys_room; ds = H.ds_room }

  pub row_fits : (v : ℕ) → Within s.n v → (j : ℕ) → Within s.count j → (anchor_of s j).v ≡ v → RowFits s.count s.ends (row_in s v)
  row_fits v w j wj e = record {
    low = λ i h. rw (here i h) (of i h).vertex.0;
    high = λ i h. rw (here i h) (omega (arith, (of i h).vertex.1, H.vertices, row-long H v w));
    above = λ i h. rw (here i h, there i h) (fits i h).0;
    small = λ i h. rw (here i h) (fits i h).1;
  }
    where
      at : (i : ℕ) → i < s.count → Within s.count (suc i)
      at i h = within (omega arith) h

      of : (i : ℕ) → i < s.count → GoodAnchor g a.read (anchor_at a.anchors (suc i))
      of i h = held-anchor (suc i) (at i h)

      here : (i : ℕ) → i < s.count → get_or s.ends.us i 0 ≡ (anchor_at a.anchors (suc i)).v
      here i h = ap (λ (q : ℕ). get_or s.ends.us q 0) (sym (less_one i)) ∙ H.us (suc i) (at i h)

      there : (i : ℕ) → i < s.count → get_or s.ends.ys i 0 ≡ y (anchor_at a.anchors (suc i))
      there i h = ap (λ (q : ℕ). get_or s.ends.ys q 0) (sym (less_one i)) ∙ H.ys (suc i) (at i h)

      says : RowSays g (anchor_at a.anchors j).v (row_in s v)
      says = subst (λ (u : ℕ). RowSays g u (row_in s v)) (sym e ∙ ap (λ (A : Anchor). A.v) (H.numbers j wj)) (row_of v w)

      fits : (i : ℕ) → i < s.count → ((entry (anchor_at a.anchors (suc i)).v (row_in s v) ≡ 0) ⊎ (y (anchor_at a.anchors (suc i)) < entry (anchor_at a.anchors (suc i)).v (row_in s v)))
          × (entry (anchor_at a.anchors (suc i)).v (row_in s v) ≤ 131072)
      fits i h = entry-fits H.good (of i h) (held-anchor j wj) says

  pub scores_fit : (scores : List ℕ) → ScoresLow s scores → ScoresFit s.count scores
  scores_fit scores l = (omega (arith, l.size), λ i h. high i h)
    where
      high : (i : ℕ) → i < s.count → get_or scores i 0 ≤ most_weight * most_read
      high i h =
          let w : Within s.count (suc i) = within (omega arith) h in
          let q = l.low (suc i) w in
          let c = (anchor-fits (suc i) w).c.high in
          subst (λ (p : ℕ). get_or scores p 0 ≤ most_weight * most_read) (less_one i) (omega arith)
