-- Taking the anchors in read order: all that can come before an anchor are taken before it, so it takes its best score. Assumes nothing.
use Prim.Native.Nat.{ℕ, ◌+◌, ◌-◌, ◌*◌, ◌≤◌, ◌<◌}
use mathlib.Core.Path.{◌≡◌, refl, sym, subst}
use mathlib.Core.List.{List}
use native.Mathlib.Omega.{arith}
use native.Mathlib.Decide.{ℕ_discrete, dec_lt}
use lib.ListN.{length, get_or, set, length-set}
use lib.Seq.{get_or-set_same, get_or-set_other}
use Rattle.wire.specs.Sizes.{most_read, most_weight}
use Rattle.rounds.specs.Rounds.{Within}
use Rattle.rounds.specs.Table.{entry}
use Rattle.graph.specs.Content.{Graph}
use Rattle.anchors.specs.Anchors.{AnchorSet}
use Rattle.chain.specs.Chains.{IsBest}
use Rattle.pair_step.specs.Pairs.{Greatest}
use Rattle.steps.specs.Setting.{Setting, anchor_of, step_of, Holds, Prepared}
use Rattle.steps.specs.Scores.{AllBest}
use Rattle.steps.proofs.SettingLaws.{anchor-fits}
use Rattle.steps.proofs.HeldLaws.{greatest-best, best-low}
use Rattle.read_order.specs.Order.{Among, ReadOrder, BestFirst}

module _ {s : Setting} {order S : List ℕ} (o : ReadOrder s.count s.numbers order) where
  -- at first none is taken
  pub first-none : length S ≡ s.count → BestFirst s order S 0
  first-none e = record { size = e; best = λ g a H p l. absurd (omega arith) }

  module _ {q : ℕ} (b : BestFirst s order S q) where
    -- a score that is taken is low
    pub first-low : Prepared s → (p : ℕ) → p < q → q ≤ s.count → entry (get_or order p 0) S ≤ most_weight * most_read
    first-low k p l h =
        omega (arith, best-low k.holds _ _ (b.best k.g k.a k.holds p l), (anchor-fits k.holds (get_or order p 0) (o.there p (omega arith))).c.high)

    -- an anchor whose first place is below that of the next is one of those that are taken
    earlier : q < s.count → (i : ℕ) → Within s.count i → (anchor_of s i).c < (anchor_of s (get_or order q 0)).c → Among order q i
    earlier h i w l = let (p, k, e) = o.all i w in on p k e (dec_lt p q) (ℕ_discrete p q)
      where
        on : (p : ℕ) → p < s.count → get_or order p 0 ≡ i → Dec (p < q) → Dec (p ≡ q) → Among order q i
        on p k e (yes z) _ = (p, z, e)
        on p k e (no z) (yes y) = absurd (lower (subst (λ (m : ℕ). get_or order m 0 ≡ i) y e))
          where
            lower : get_or order q 0 ≡ i → ⊥
            lower r = let t : (anchor_of s i).c < (anchor_of s i).c = subst (λ (m : ℕ). (anchor_of s i).c < (anchor_of s m).c) r l in omega arith
        on p k e (no z) (no y) =
            let t = subst (λ (m : ℕ). (anchor_of s (get_or order q 0)).c ≤ (anchor_of s m).c) e (o.rises q p (omega arith) k) in
            absurd (omega arith)

    -- the next anchor takes the greatest of its weight and of the candidates of those before it, however that is found
    pub first_more : {x : ℕ} → q < s.count
        → Greatest (anchor_of s (get_or order q 0)).weight (anchor_of s (get_or order q 0)).weight (λ i. step_of s i (get_or order q 0)) (λ i. entry i S) (Among order q) x
        → BestFirst s order (set S (get_or order q 0 - 1) x) (q + 1)
    first_more {x} h t = record { size = long; best = λ g a H p l. at g a H p l (ℕ_discrete (get_or order p 0) (get_or order q 0)) }
      where
        j : ℕ
        j = get_or order q 0

        w : Within s.count (get_or order q 0)
        w = o.there q h

        long : length (set S (get_or order q 0 - 1) x) ≡ s.count
        long = simp length-set b.size

        among : (i : ℕ) → Among order q i → Within s.count i
        among i (p, l, e) = subst (Within s.count) e (o.there p (omega arith))

        known : (g : Graph) (a : AnchorSet) → Holds s g a → (i : ℕ) → Among order q i → IsBest g a.anchors i (entry i S)
        known g a H i (p, l, e) = subst (λ (k : ℕ). IsBest g a.anchors k (entry k S)) e (b.best g a H p l)

        at : (g : Graph) (a : AnchorSet) → Holds s g a → (p : ℕ) → p < q + 1 → Dec (get_or order p 0 ≡ get_or order q 0)
            → IsBest g a.anchors (get_or order p 0) (entry (get_or order p 0) (set S (get_or order q 0 - 1) x))
        at g a H p l (yes e) =
            subst (λ (k : ℕ). IsBest g a.anchors k (entry k (set S (get_or order q 0 - 1) x))) (sym e)
            (rw (get_or-set_same S (get_or order q 0 - 1) x 0 (omega (arith, w.low, w.high, b.size)))
            (greatest-best H S (get_or order q 0) w among (λ i wi r. let m = earlier h i wi r in (m, known g a H i m)) t))
        at g a H p l (no n) = on (dec_lt p q)
          where
            on : Dec (p < q) → IsBest g a.anchors (get_or order p 0) (entry (get_or order p 0) (set S (get_or order q 0 - 1) x))
            on (yes k) =
                let wp = o.there p (omega arith) in
                rw (get_or-set_other S (get_or order q 0 - 1) (get_or order p 0 - 1) x 0 (λ e. n (omega (arith, w.low, wp.low)))) (b.best g a H p k)
            on (no k) = let e : p ≡ q = omega arith in absurd (n (subst (λ (m : ℕ). get_or order m 0 ≡ get_or order q 0) (sym e) refl))

  -- when all are taken, every score is the best
  pub first-all : {q : ℕ} → BestFirst s order S q → q ≡ s.count → AllBest s S
  first-all b e g a H j w =
      let (p, l, r) = o.all j w in
      subst (λ (k : ℕ). IsBest g a.anchors k (entry k S)) r (b.best g a H p (omega arith))
