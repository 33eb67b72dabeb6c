-- What a worked case is shown by: its steps as a list, and tests that compute. Assumes nothing.
use Prim.Native.Nat.{ℕ, zero, suc, ◌+◌, ◌-◌, ◌≤◌, ◌<◌}
use mathlib.Core.Path.{◌≡◌, refl, sym, ◌∙◌}
use mathlib.Core.Logic.{◌≢◌, ◌⊎◌, inl, inr}
use mathlib.Core.Bool.{Bool, true, false, not, ◌&&◌, ◌||◌, false≢true}
use mathlib.Core.List.{List, [], ◌∷◌, ◌++◌}
use native.Mathlib.Omega.{arith}
use lib.ListN.{length}
use lib.Dec.{ltb, leb, eqb}
use borrow.Author.Tests.{ltb-true, leb-true, eqb-true, leb-false, eqb-false, not-true, lt-ltb, eq-eqb}
use Rattle.wire.specs.Cases.{pick}
use Rattle.rounds.specs.Rounds.{Within, Rounds}
use Rattle.rounds.specs.Table.{entry}
use Rattle.rounds.proofs.Upto.{within, within_none, upto-suc}
use Rattle.graph.specs.Content.{Graph}
use Rattle.graph.specs.Good.{All, Next, GoodGraph}
use Rattle.graph.specs.Rules.{is_vertex}
use Rattle.graph.proofs.Kept.{both, either, vertex-is}
use Rattle.anchors.specs.Anchors.{Anchor, AnchorSet, y, d}
use Rattle.anchors.specs.AnchorRules.{anchor_fault, no_anchor}
use Rattle.anchors.specs.GoodAnchors.{GoodAnchor, KeyBelow, GoodAnchors}
use Rattle.anchors.proofs.AnchorOrder.{anchor_kept}
use Rattle.cover.specs.Walks.{Goes}
use Rattle.cover.specs.Cells.{IsClosed}
use Rattle.cover.specs.CoverDistance.{IsCover}
use Rattle.cover.proofs.GoesLaws.{cover_goes, closed_goes}
use Rattle.chain.specs.Steps.{anchor_at, Before, round, across, Step}
use Rattle.chain.specs.Named.{Gives, LowestGiving, Back, stop, go, Top, some}
use Rattle.chain.specs.Sweep.{IsSteps, weights, sweep_round, rounds}
use Rattle.chain.specs.WorkedAnchors.{Works}
use Rattle.chain.proofs.StepLaws.{good_sound, Sound}
use Rattle.chain.proofs.SweepLaws.{link, swept_well}
use Rattle.chain.proofs.StepsThere.{step-made}

-- ---- tests of each of 1 to n

-- each of them passes the test
unfoldable pub each : (ℕ → Bool) → ℕ → Bool
each t zero = true
each t (suc n) = ◌&&◌ (each t n) (t (suc n))

pub each_at : (t : ℕ → Bool) (n : ℕ) → each t n ≡ true → (v : ℕ) → Within n v → t v ≡ true
unfolding each
each_at t zero e v w = absurd (within_none w)
each_at t (suc n) e v w =
    let (a, b) = both (each t n) (t (suc n)) e in
    upto-suc {P = λ v. t v ≡ true} n (each_at t n a) b v w

-- and of each two of them
unfoldable pub each_two : (ℕ → ℕ → Bool) → ℕ → Bool
each_two t n = each (λ i. each (t i) n) n

pub each_two_lem : (t : ℕ → ℕ → Bool) (n : ℕ) → each_two t n ≡ true → (i j : ℕ) → Within n i → Within n j → t i j ≡ true
unfolding each_two
each_two_lem t n e i j wi wj = each_at (t i) n (each_at (λ i. each (t i) n) n e i wi) j wj

-- ---- anchors without fault

-- each of the anchors after `last` is free of faults
unfoldable pub faultless : Graph → List ℕ → Anchor → List Anchor → Bool
faultless g read last [] = true
faultless g read last (a ∷ more) = ◌&&◌ (eqb (anchor_fault g read last a) 0) (faultless g read a more)

module _ (g : Graph) (read : List ℕ) where
  faultless_each : (last : Anchor) (more : List Anchor) → faultless g read last more ≡ true → All (GoodAnchor g read) more
  unfolding faultless All
  faultless_each last [] e = tt
  faultless_each last (a ∷ more) e =
      let (p, q) = both _ _ e in
      ((anchor_kept g read last a (eqb-true _ 0 p)).0, faultless_each a more q)

  faultless_rise : (last : Anchor) (more : List Anchor) → faultless g read last more ≡ true → Next KeyBelow (last ∷ more)
  unfolding faultless Next
  faultless_rise last [] e = tt
  faultless_rise last (a ∷ more) e =
      let (p, q) = both _ _ e in
      ((anchor_kept g read last a (eqb-true _ 0 p)).1, faultless_rise a more q)

  pub faultless_rises : (more : List Anchor) → faultless g read no_anchor more ≡ true → All (GoodAnchor g read) more × Next KeyBelow more
  unfolding Next
  faultless_rises more e = (faultless_each no_anchor more e, after more (faultless_rise no_anchor more e))
    where
      after : (more : List Anchor) → Next KeyBelow (no_anchor ∷ more) → Next KeyBelow more
      after [] r = tt
      after (a ∷ more) r = r.1

-- ---- steps of the two kinds that the cases have

-- between different vertices, by the cover distance
pub step-across : {g : Graph} {A B : Anchor} (s : ℕ) → GoodGraph g → A.v ≢ B.v → IsCover g A.v B.v s → d A < B.c → 1 + y A ≤ s + B.x
    → Step g A B ((B.c - (1 + d A)) + (s + B.x - (1 + y A)))
step-across s G n c r h = step-made s (record { rises = r; way = inr (s, cover_goes G n c) }) (across n c) h

-- round from a vertex to itself, by the closed walk
pub step-round : {g : Graph} {A B : Anchor} (s : ℕ) → A.v ≡ B.v → B.x ≤ y A → IsClosed g A.v s → d A < B.c → 1 + y A ≤ s + B.x
    → Step g A B ((B.c - (1 + d A)) + (s + B.x - (1 + y A)))
step-round s e n c r h =
    step-made s (record { rises = r; way = inr (s, rw (← e) (closed_goes c (omega arith))) }) (round e (λ k. omega arith) c) h

-- ---- the steps as a list

-- anchor i comes before anchor j, with gaps that sum to k
pub record Known : Type 0 where
  pub i : ℕ
  pub j : ℕ
  pub k : ℕ

-- it is so: both are there, and the step has these gaps
pub record IsKnown (g : Graph) (anchors : List Anchor) (s : Known) : Type 0 where
  pub first : Within (length anchors) s.i
  pub second : Within (length anchors) s.j
  pub step : Step g (anchor_at anchors s.i) (anchor_at anchors s.j) s.k

-- both anchors are there
abbrev are_there : List Anchor → Known → Bool
are_there anchors s = ◌&&◌ (is_vertex (length anchors) s.i) (is_vertex (length anchors) s.j)

pub is_known : {g : Graph} {anchors : List Anchor} {s : Known} → are_there anchors s ≡ true
    → Step g (anchor_at anchors s.i) (anchor_at anchors s.j) s.k → IsKnown g anchors s
is_known {anchors = anchors} {s = s} t p =
    let (a, b) = both _ _ t in
    let (il, ih) = vertex-is (length anchors) s.i a in
    let (jl, jh) = vertex-is (length anchors) s.j b in
    record { first = within il ih; second = within jl jh; step = p }

-- what the list tells of each two anchors: 0 where they are not in it, k + 1 where they are, with gaps k
unfoldable pub gaps_in : List Known → ℕ → ℕ → ℕ
gaps_in [] i j = 0
gaps_in (s ∷ more) i j = pick (◌&&◌ (eqb s.i i) (eqb s.j j)) (suc s.k) (gaps_in more i j)

-- each two anchors are in the list, or do not rise in the read
unfoldable pub complete : List Anchor → List Known → Bool
complete anchors known = each_two (λ i j. ◌||◌ (ltb 0 (gaps_in known i j)) (leb (anchor_at anchors j).c (d (anchor_at anchors i)))) (length anchors)

-- no anchor ends before another begins, in places of a label
unfoldable pub level : List Anchor → Bool
level anchors = each_two (λ i j. leb (anchor_at anchors j).x (y (anchor_at anchors i))) (length anchors)

module _ (g : Graph) (anchors : List Anchor) where
  known_step : (known : List Known) → All (IsKnown g anchors) known → (i j k : ℕ) → gaps_in known i j ≡ suc k
      → Within (length anchors) i × Within (length anchors) j × Step g (anchor_at anchors i) (anchor_at anchors j) k
  unfolding gaps_in All
  known_step [] h i j k e = absurd (omega arith)
  known_step (s ∷ more) h i j k e = on (known_step more h.1 i j k) (◌&&◌ (eqb s.i i) (eqb s.j j)) refl e
    where
      Found : Type 0
      Found = Within (length anchors) i × Within (length anchors) j × Step g (anchor_at anchors i) (anchor_at anchors j) k

      on : (gaps_in more i j ≡ suc k → Found) → (b : Bool) → ◌&&◌ (eqb s.i i) (eqb s.j j) ≡ b → pick b (suc s.k) (gaps_in more i j) ≡ suc k → Found
      on later false q e = later e
      on later true q e =
          let (a, b) = both _ _ q in
          let ei : i ≡ s.i = sym (eqb-true s.i i a) in
          let ej : j ≡ s.j = sym (eqb-true s.j j b) in
          let ek : k ≡ s.k = omega arith in
          rw (ei, ej, ek) (h.0.first, h.0.second, h.0.step)

  -- a complete list of steps tells the steps
  pub known_steps : (known : List Known) → All (IsKnown g anchors) known → complete anchors known ≡ true → IsSteps g anchors (gaps_in known)
  unfolding complete
  known_steps known h t = record { none = λ i j wi wj e b. none i j wi wj e b; some = known_step known h }
    where
      none : (i j : ℕ) → Within (length anchors) i → Within (length anchors) j → gaps_in known i j ≡ 0 → Before g (anchor_at anchors i) (anchor_at anchors j) → ⊥
      none i j wi wj e b = on (either _ _ (each_two_lem _ (length anchors) t i j wi wj))
        where
          on : (ltb 0 (gaps_in known i j) ≡ true) ⊎ (leb (anchor_at anchors j).c (d (anchor_at anchors i)) ≡ true) → ⊥
          on (inl q) = omega (arith, ltb-true 0 (gaps_in known i j) q)
          on (inr q) = omega (arith, leb-true (anchor_at anchors j).c (d (anchor_at anchors i)) q, b.rises)

  -- where no walk goes and no anchor ends before another begins, there are no steps
  pub no_steps : ((u v l : ℕ) → Goes g u v l → ⊥) → level anchors ≡ true → IsSteps g anchors (gaps_in [])
  unfolding level gaps_in
  no_steps h t = record { none = λ i j wi wj e b. none i j wi wj b.way; some = λ i j k e. absurd (omega arith) }
    where
      none : (i j : ℕ) → Within (length anchors) i → Within (length anchors) j
          → (((anchor_at anchors i).v ≡ (anchor_at anchors j).v) × (y (anchor_at anchors i) < (anchor_at anchors j).x))
          ⊎ ((l : ℕ) × Goes g (anchor_at anchors i).v (anchor_at anchors j).v l) → ⊥
      none i j wi wj (inl (_, r)) = omega (arith, leb-true (anchor_at anchors j).x (y (anchor_at anchors i)) (each_two_lem _ (length anchors) t i j wi wj))
      none i j wi wj (inr (l, x)) = h _ _ l x

-- ---- the chain returned

-- anchor i gives the score of anchor j
unfoldable pub gives : List Anchor → (ℕ → ℕ → ℕ) → List ℕ → ℕ → ℕ → Bool
gives anchors f S i j = ◌&&◌ (ltb 0 (f i j)) (eqb (entry i S + (anchor_at anchors j).weight) (entry j S + (f i j - 1)))

-- the way back from anchor j is over these, each the lowest-numbered that gives the score of the one it follows
unfoldable pub goes_back : List Anchor → (ℕ → ℕ → ℕ) → List ℕ → ℕ → List ℕ → Bool
goes_back anchors f S j [] = eqb (entry j S) (anchor_at anchors j).weight
goes_back anchors f S j (i ∷ more) =
    ◌&&◌ (not (eqb (entry j S) (anchor_at anchors j).weight))
    (◌&&◌ (gives anchors f S i j) (◌&&◌ (each (λ h. not (gives anchors f S h j)) (i - 1)) (goes_back anchors f S i more)))

-- that way in read order
unfoldable pub in_order : ℕ → List ℕ → List ℕ
in_order j [] = j ∷ []
in_order j (i ∷ more) = in_order i more ++ (j ∷ [])

-- anchor j is the lowest-numbered of greatest score
unfoldable pub highest : List Anchor → List ℕ → ℕ → Bool
highest anchors S j =
    each (λ i. ◌||◌ (ltb (entry i S) (entry j S)) (◌&&◌ (eqb (entry i S) (entry j S)) (leb j i))) (length anchors)

pub highest-top : (anchors : List Anchor) (S : List ℕ) (j : ℕ) → Within (length anchors) j → highest anchors S j ≡ true → Top (length anchors) S j
unfolding highest
highest-top anchors S j w t = record { within = w; greatest = λ i wi. (on i wi).0; lowest = λ i wi. (on i wi).1 }
  where
    on : (i : ℕ) → Within (length anchors) i → (entry i S ≤ entry j S) × (entry i S ≡ entry j S → j ≤ i)
    on i wi = by (either _ _ (each_at _ (length anchors) t i wi))
      where
        by : (ltb (entry i S) (entry j S) ≡ true) ⊎ (◌&&◌ (eqb (entry i S) (entry j S)) (leb j i) ≡ true)
            → (entry i S ≤ entry j S) × (entry i S ≡ entry j S → j ≤ i)
        by (inl q) = let h = ltb-true (entry i S) (entry j S) q in (omega arith, λ e. omega arith)
        by (inr q) =
            let (a, b) = both _ _ q in
            let e = eqb-true (entry i S) (entry j S) a in
            (omega arith, λ _. leb-true j i b)

module _ (g : Graph) (anchors : List Anchor) (sound : Sound anchors) (any : 1 ≤ length anchors) (f : ℕ → ℕ → ℕ) (F : IsSteps g anchors f) (S : List ℕ) where
  gives-is : (i j : ℕ) → gives anchors f S i j ≡ true → Gives g anchors S i j
  unfolding gives
  gives-is i j t =
      let (a, b) = both _ _ t in
      let h = ltb-true 0 (f i j) a in
      let s = F.some i j (f i j - 1) (omega arith) in
      record { within = s.0; k = f i j - 1; step = s.2; exact = eqb-true _ _ b }

  is-gives : (i j : ℕ) → Within (length anchors) j → Gives g anchors S i j → gives anchors f S i j ≡ true
  unfolding gives
  is-gives i j w x =
      let e : f i j ≡ suc x.k = (link g anchors sound any f F i j x.k x.within w x.step).0 in
      let a : ltb 0 (f i j) ≡ true = lt-ltb 0 (f i j) (omega arith) in
      let q : entry i S + (anchor_at anchors j).weight ≡ entry j S + (f i j - 1) = omega (arith, x.exact) in
      let b = eq-eqb _ _ q in
      rw (a, b)

  lowest-is : (i j : ℕ) → Within (length anchors) j → gives anchors f S i j ≡ true → each (λ h. not (gives anchors f S h j)) (i - 1) ≡ true
      → LowestGiving g anchors S i j
  lowest-is i j w t e = record { gives = gives-is i j t; lowest = low }
    where
      low : (h : ℕ) → Gives g anchors S h j → i ≤ h
      low h x = by (leb i h) refl
        where
          by : (b : Bool) → leb i h ≡ b → i ≤ h
          by true q = leb-true i h q
          by false q =
              let n = not-true _ (each_at _ (i - 1) e h (within x.within.low (omega (arith, leb-false i h q)))) in
              absurd (false≢true (sym n ∙ is-gives h j w x))

  back_is : (j : ℕ) (more : List ℕ) → Within (length anchors) j → goes_back anchors f S j more ≡ true → Back g anchors S j (in_order j more)
  unfolding goes_back in_order
  back_is j [] w t = stop (eqb-true _ _ t)
  back_is j (i ∷ more) w t =
      let (a, t1) = both _ _ t in
      let (b, t2) = both _ _ t1 in
      let (c, t3) = both _ _ t2 in
      let l = lowest-is i j w b c in
      go (eqb-false _ _ (not-true _ a)) l (back_is i more l.gives.within t3)

-- A WORKED CASE: the steps and the rounds, and tests of the way back
pub works : {g : Graph} {a : AnchorSet} {f : ℕ → ℕ → ℕ} {count : ℕ} {S : List ℕ} → GoodGraph g → GoodAnchors g a → IsSteps g a.anchors f
    → Rounds (sweep_round a.anchors f) (weights a.anchors) count S
    → (j : ℕ) (more : List ℕ) → Within (length a.anchors) j → highest a.anchors S j ≡ true → goes_back a.anchors f S j more ≡ true
    → Works g a (record { scores = S; chain = in_order j more; score = entry j S; rounds = count })
works {g} {a} {f} {count} {S} G A F r j more w t b =
    let any : 1 ≤ length a.anchors = omega arith in
    let swept = rounds f any F r in
    let x = swept_well g a.anchors (good_sound A) count S swept in
    record {
      graph = G;
      anchors = A;
      sweep = record {
        result = record {
          size = x.size;
          best = x.best;
          returned = some (highest-top a.anchors S j w t) (back_is g a.anchors (good_sound A) any f F S j more w b);
        };
        swept = swept;
      };
    }
