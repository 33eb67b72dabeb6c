-- The three kinds of rule are fit for their rounds, whatever their links: `greatest_fit`, `least_fit`, `score_fit`. A caller has only to say what the best
-- derived value is. Assumes nothing.
use mathlib.Core.Path.{◌≡◌, refl, subst}
use mathlib.Core.Logic.{◌⊎◌, inl, inr}
use Prim.Native.Nat.{ℕ, zero, suc, ◌+◌, ◌*◌, ◌≤◌, ◌<◌, max, min}
use native.Mathlib.Nat.{le_refl, le_trans, le_antisymm, mul-le-mul_right}
use native.Mathlib.Decide.{dec_le}
use native.Mathlib.Omega.{arith}
use Rattle.rounds.specs.Rounds.{Within}
use Rattle.rounds.specs.Rule.{Links, Rule}
use Rattle.rounds.specs.Best.{Link, Column, Derived, start, along, Best, Some, Order, Sources, Lawful, Fit}
use Rattle.rounds.specs.Kinds.{greatest_column, shift, closer, Near, least_column, score_column}
use Rattle.rounds.proofs.Upto.{best_at}
use Rattle.rounds.proofs.Choice.{◌>>=◌, some, decided, greatest, smallest}
use Rattle.rounds.proofs.Relax.{source-within}

-- ---- the two orders

-- greater is better, and max is the better
pub max-order : Order ◌≤◌ max
max-order = record { good? = dec_le; refl = le_refl _; trans = le_trans; antisym = le_antisymm; left = λ x y. omega arith; right = λ x y. omega arith; which = λ x y. go (dec_le x y) }
  where
    go : {x y : ℕ} → Dec (x ≤ y) → (max x y ≡ x) ⊎ (max x y ≡ y)
    go (yes l) = inr (omega arith)
    go (no h) = inl (omega arith)

-- nearer is better, known better than unknown, and `closer` is the better
pub near-order : Order Near closer
unfolding closer Near
near-order = record { good? = near?; refl = λ {x}. near-refl x; trans = λ {x} {y} {z}. trans x y z; antisym = λ {x} {y}. antisym x y; left = left; right = right; which = which }
  where
    near? : (x y : ℕ) → Dec (Near x y)
    near? zero y = yes tt
    near? (suc x) zero = no (λ n. n)
    near? (suc x) (suc y) = dec_le y x

    near-refl : (x : ℕ) → Near x x
    near-refl zero = tt
    near-refl (suc x) = le_refl x

    trans : (x y z : ℕ) → Near x y → Near y z → Near x z
    trans zero y z a b = tt
    trans (suc x) zero z a b = absurd a
    trans (suc x) (suc y) zero a b = absurd b
    trans (suc x) (suc y) (suc z) a b = le_trans b a

    antisym : (x y : ℕ) → Near x y → Near y x → x ≡ y
    antisym zero zero a b = refl
    antisym zero (suc y) a b = absurd b
    antisym (suc x) zero a b = absurd a
    antisym (suc x) (suc y) a b = omega arith

    left : (x y : ℕ) → Near x (closer x y)
    left zero y = tt
    left (suc x) zero = le_refl x
    left (suc x) (suc y) = omega arith

    right : (x y : ℕ) → Near y (closer x y)
    right zero y = near-refl y
    right (suc x) zero = tt
    right (suc x) (suc y) = omega arith

    pick : (x y : ℕ) → Dec (x ≤ y) → (suc (min x y) ≡ suc x) ⊎ (suc (min x y) ≡ suc y)
    pick x y (yes l) = inl (omega arith)
    pick x y (no h) = inr (omega arith)

    which : (x y : ℕ) → (closer x y ≡ x) ⊎ (closer x y ≡ y)
    which zero y = inr refl
    which (suc x) zero = inl refl
    which (suc x) (suc y) = pick x y (dec_le x y)

-- ---- what is carried over a length

module _ (l : ℕ) where
  pub shift-near : (x y : ℕ) → Near x y → Near (shift x l) (shift y l)
  unfolding shift Near
  shift-near zero y a = tt
  shift-near (suc x) zero a = absurd a
  shift-near (suc x) (suc y) a = omega arith

  pub shift-inj : (x y : ℕ) → shift x l ≡ shift y l → x ≡ y
  unfolding shift
  shift-inj zero zero e = refl
  shift-inj zero (suc y) e = omega arith
  shift-inj (suc x) zero e = omega arith
  shift-inj (suc x) (suc y) e = omega arith

  -- no length brings nearer
  pub shift-far : (x : ℕ) → Near (shift x l) x
  unfolding shift Near
  shift-far zero = tt
  shift-far (suc x) = omega arith

  -- what is known was known
  pub shift-known : (x d : ℕ) → shift x l ≡ suc d → (k : ℕ) × (x ≡ suc k) × (d ≡ k + l)
  unfolding shift
  shift-known zero d e = absurd (omega arith)
  shift-known (suc k) d e = (k, refl, omega arith)

-- ---- targets

-- where the values derived at v have a bound, one is the greatest
pub bounded_target : (r : Rule) (starts : ℕ → ℕ) (v top : ℕ) → ((x : ℕ) → Derived (record { rule = r; starts = starts; good = ◌≤◌ }) v x → x ≤ top) → Some ((a : ℕ) × Best (record { rule = r; starts = starts; good = ◌≤◌ }) v a)
bounded_target r starts v top bound = do
  (a, q, high) ← greatest (Derived c v) top
  some (a, record { derived = go q (high _ (bound _ start) start); top = λ x d. high x (bound x d) d })
  where
    c : Column
    c = record { rule = r; starts = starts; good = ◌≤◌ }

    go : {a : ℕ} → (a ≡ 0) ⊎ Derived c v a → starts v ≤ a → Derived c v a
    go {a} (inl z) h = subst (Derived c v) (omega arith) start
    go (inr d) h = d

-- of distances, known or not, one is the least
pub near-target : (r : Rule) (starts : ℕ → ℕ) (v : ℕ) → Some ((a : ℕ) × Best (record { rule = r; starts = starts; good = Near }) v a)
unfolding Near
near-target r starts v = decided >>= go
  where
    c : Column
    c = record { rule = r; starts = starts; good = Near }

    least : (d : ℕ) → ((i : ℕ) → Derived c v (suc i) → d ≤ i) → (x : ℕ) → Derived c v x → Near x (suc d)
    least d h zero w = tt
    least d h (suc x) w = h x w

    never : ¬ ((d : ℕ) × Derived c v (suc d)) → (x : ℕ) → Derived c v x → Near x 0
    never h zero w = tt
    never h (suc x) w = h (x, w)

    none : ¬ ((d : ℕ) × Derived c v (suc d)) → (x : ℕ) → Derived c v x → Derived c v 0
    none h zero w = w
    none h (suc x) w = absurd (h (x, w))

    go : ((d : ℕ) × Derived c v (suc d)) ⊎ (¬ ((d : ℕ) × Derived c v (suc d))) → Some ((a : ℕ) × Best c v a)
    go (inl (k, w)) = do
      (d, q, h) ← smallest (λ i. Derived c v (suc i)) k w
      some (suc d, record { derived = q; top = least d h })
    go (inr h) = some (0, record { derived = none h _ start; top = never h })

-- ---- an entry that is final at the start

-- where no link betters what it carries, the entry with the best start is
module _ {n : ℕ} {c : Column} (W : Lawful n c) (fades : (u v : ℕ) (a : Link c.rule.links u v) (x : ℕ) → c.good (c.rule.carry v a.e x) x) where
  any : (x y : ℕ) → (c.good x y) ⊎ (c.good y x)
  any x y = go (W.order.which x y)
    where
      go : (c.rule.join x y ≡ x) ⊎ (c.rule.join x y ≡ y) → (c.good x y) ⊎ (c.good y x)
      go (inl e) = inr (subst (c.good y) e (W.order.right x y))
      go (inr e) = inl (subst (c.good x) e (W.order.left x y))

  -- nothing derived is better than every start
  pub under_starts : (top : ℕ) → ((u : ℕ) → Within n u → c.good (c.starts u) top) → {v x : ℕ} → Derived c v x → Within n v → c.good x top
  under_starts top h (start {v = v}) w = h v w
  under_starts top h (along {u = u} {v = v} {x = x} d a) w = W.order.trans (fades u v a x) (under_starts top h d (source-within W a))

  pub best-start : 1 ≤ n → (e : ℕ) × Within n e × ((u : ℕ) → Within n u → c.good (c.starts u) (c.starts e))
  best-start l = best_at c.good any (λ x y z. W.order.trans) c.starts n l

  pub best-start_fit : 1 ≤ n → ((v : ℕ) → Within n v → Some ((a : ℕ) × Best c v a)) → Fit n c
  best-start_fit l target =
      let (e, w, h) = best-start l in
      record { lawful = W; target = target; entry = e; among = w; final = record { derived = start; top = λ x d. under_starts (c.starts e) h d w } }

-- ---- the three kinds

module _ (n : ℕ) (l : Links) (filled : 1 ≤ n) (sources : Sources n l) where
  module _ (starts : ℕ → ℕ) where
    pub greatest-lawful : Lawful n (greatest_column l starts)
    greatest-lawful = record { order = max-order; sources = sources; mono = λ a w h. h; inj = λ a w h e. e }

    pub greatest_fit : Fit n (greatest_column l starts)
    greatest_fit = best-start_fit greatest-lawful (λ u v a x. le_refl x) filled
        (λ v w. let (e, _, h) = best-start greatest-lawful (λ u v a x. le_refl x) filled in bounded_target _ starts v (starts e) (λ x d. under_starts greatest-lawful (λ u v a x. le_refl x) (starts e) h d w))

  module _ (far starts : ℕ → ℕ) where
    pub least-lawful : Lawful n (least_column l far starts)
    least-lawful = record { order = near-order; sources = sources; mono = λ a w {x} {y} h. shift-near _ x y h; inj = λ a w {x} {y} _ e. shift-inj _ x y e }

    pub least_fit : Fit n (least_column l far starts)
    least_fit = best-start_fit least-lawful (λ u v a x. shift-far (far a.e) x) filled (λ v w. near-target _ starts v)

  -- a score's entry that is final at the start is the first by a number that rises along the links
  module _ (weight : ℕ → ℕ) (gap : ℕ → ℕ → ℕ) (heavy : (v : ℕ) → Within n v → 1 ≤ weight v) (rank : ℕ → ℕ) (rises : (u v : ℕ) → Link l u v → rank u < rank v) where
    pub score-lawful : Lawful n (score_column l weight gap)
    score-lawful = record { order = max-order; sources = sources; mono = λ a w h. omega arith; inj = λ {u} {v} a w {x} {y} h e. omega (arith, heavy v w) }

    -- a score is no more than the greatest weight, once for each rank
    pub score-bound : (top : ℕ) → ((u : ℕ) → Within n u → weight u ≤ top) → {v x : ℕ} → Derived (score_column l weight gap) v x → Within n v → x ≤ suc (rank v) * top
    score-bound top h (start {v = v}) w = omega (arith, h v w)
    score-bound top h (along {u = u} {v = v} {x = x} d a) w =
        let ih = score-bound top h d (source-within score-lawful a) in
        let up = mul-le-mul_right top (rises u v a) in
        omega (arith, h v w)

    pub score_fit : Fit n (score_column l weight gap)
    score_fit =
        let (e, w, h) = best_at (λ x y. y ≤ x) (λ x y. either (dec_le y x)) (λ x y z a b. le_trans b a) rank n filled in
        record { lawful = score-lawful; target = target; entry = e; among = w; final = record { derived = start; top = λ x d. alone e h d } }
      where
        either : {x y : ℕ} → Dec (y ≤ x) → (y ≤ x) ⊎ (x ≤ y)
        either (yes a) = inl a
        either (no h) = inr (omega arith)

        alone : (e : ℕ) → ((u : ℕ) → Within n u → rank e ≤ rank u) → {x : ℕ} → Derived (score_column l weight gap) e x → x ≤ weight e
        alone e h start = le_refl _
        alone e h (along {u = u} d a) = absurd (omega (arith, rises u e a, h u (source-within score-lawful a)))

        target : (v : ℕ) → Within n v → Some ((a : ℕ) × Best (score_column l weight gap) v a)
        target v w =
            let (e, _, h) = best_at ◌≤◌ (λ x y. either (dec_le x y)) (λ x y z. le_trans) weight n filled in
            bounded_target _ weight v (suc (rank v) * weight e) (λ x d. score-bound (weight e) h d w)
