-- The row of cover distances: going back along the paths leaves, for every vertex, the least over all ways. Assumes nothing.
use Prim.Native.Nat.{ℕ, zero, suc, ◌+◌, ◌-◌, ◌≤◌}
use mathlib.Core.Path.{◌≡◌, refl, sym, ap, ◌∙◌, subst}
use mathlib.Core.Logic.{◌⊎◌, inl, inr}
use mathlib.Core.List.{List}
use native.Mathlib.Decide.{ℕ_discrete}
use native.Mathlib.Omega.{arith}
use native.Mathlib.Numerals.{add-one}
use lib.ListN.{length, get_or, length-set, replicate, length-replicate}
use lib.Seq.{get_or-set_same, get_or-set_other}
use Rattle.rounds.specs.Rounds.{Within}
use Rattle.rounds.specs.Kinds.{closer, Near}
use Rattle.rounds.specs.Place.{cell_place, entry_place}
use Rattle.rounds.specs.Table.{cell, entry}
use Rattle.rounds.proofs.Upto.{within-suc, within-last, within_none, within_cases}
use Rattle.rounds.proofs.Fits.{near-order}
use Rattle.graph.specs.Content.{Graph}
use Rattle.cover.specs.Walks.{L}
use Rattle.cover.specs.Cells.{vertex}
use Rattle.cover.specs.CoverDistance.{path_at, along}
use Rattle.cover.specs.Row.{unknown, put, below, back, backs}

-- ---- a row in which nothing is known

pub unknown-size : (k : ℕ) → length (unknown k) ≡ k
unfolding unknown
unknown-size k = length-replicate k 0

pub unknown-entry : (k u : ℕ) → entry u (unknown k) ≡ 0
unfolding unknown
unknown-entry k u = go k (u - 1)
  where
    go : (k q : ℕ) → get_or {A = ℕ} (replicate k 0) q 0 ≡ 0
    go zero q = refl
    go (suc k) zero = refl
    go (suc k) (suc q) = go k q

-- ---- the sum along a path, one position more at its end

pub along-last : (g : Graph) (p : List ℕ) (a k : ℕ) → along g p a (suc k) ≡ along g p a k + L g (vertex p (a + k))
unfolding along
along-last g p a zero = let e : a + 0 ≡ a = omega arith in rw e (omega arith)
along-last g p a (suc k) =
    let e : a + 1 + k ≡ a + suc k = omega arith in
    omega (arith, along-last g p (a + 1) k, ap (λ (x : ℕ). L g (vertex p x)) e)

-- ---- a row of the least of candidates: `C u s` is a candidate s for entry u

pub record Leasts (n : ℕ) (C : ℕ → ℕ → Type 0) (row : List ℕ) : Type 0 where
  pub long : n ≤ length row
  pub attained : (u s : ℕ) → Within n u → entry u row ≡ suc s → C u s
  pub least : (u s : ℕ) → Within n u → C u s → Near (suc s) (entry u row)

-- the same candidates in other words
pub leasts_map : {n : ℕ} {C D : ℕ → ℕ → Type 0} {row : List ℕ} → ((u s : ℕ) → C u s → D u s) → ((u s : ℕ) → D u s → C u s) → Leasts n C row → Leasts n D row
leasts_map f h r = record { long = r.long; attained = λ u s w e. f u s (r.attained u s w e); least = λ u s w d. r.least u s w (h u s d) }

module _ {n : ℕ} {C : ℕ → ℕ → Type 0} {row : List ℕ} where
  -- one candidate more
  pub leasts_put : (w s : ℕ) → Within n w → Leasts n C row → Leasts n (λ u t. C u t ⊎ ((u ≡ w) × (t ≡ s))) (put w s row)
  unfolding put
  leasts_put w s ww r = record { long = rw length-set r.long; attained = λ u t wu. got u t wu (ℕ_discrete u w); least = λ u t wu. near u t wu (ℕ_discrete u w) }
    where
      new : entry w (put w s row) ≡ closer (entry w row) (s + 1)
      new = get_or-set_same row (entry_place w 1) _ 0 (omega (arith, r.long))

      old : (u : ℕ) → Within n u → ¬ (u ≡ w) → entry u (put w s row) ≡ entry u row
      old u wu h = get_or-set_other row (entry_place w 1) (entry_place u 1) _ 0 (λ e. h (omega arith))

      got : (u t : ℕ) → Within n u → Dec (u ≡ w) → entry u (put w s row) ≡ suc t → C u t ⊎ ((u ≡ w) × (t ≡ s))
      got u t wu (yes e) q = rw e (one (near-order.which (entry w row) (s + 1)))
        where
          q' : closer (entry w row) (s + 1) ≡ suc t
          q' = sym new ∙ (rw e at q)

          one : (closer (entry w row) (s + 1) ≡ entry w row) ⊎ (closer (entry w row) (s + 1) ≡ s + 1) → C w t ⊎ ((w ≡ w) × (t ≡ s))
          one (inl z) = inl (r.attained w t ww (sym z ∙ q'))
          one (inr z) = inr (refl, omega (arith, q'))
      got u t wu (no h) q = inl (r.attained u t wu (sym (old u wu h) ∙ q))

      near : (u t : ℕ) → Within n u → Dec (u ≡ w) → C u t ⊎ ((u ≡ w) × (t ≡ s)) → Near (suc t) (entry u (put w s row))
      near u t wu (yes e) (inl c) = rw (e, new) (near-order.trans (r.least w t ww (rw e at c)) (near-order.left (entry w row) (s + 1)))
      near u t wu (yes e) (inr (_, z)) = rw (e, new, z) (subst (λ (x : ℕ). Near x (closer (entry w row) (s + 1))) (add-one s) (near-order.right (entry w row) (s + 1)))
      near u t wu (no h) (inl c) = rw (old u wu h) (r.least u t wu c)
      near u t wu (no h) (inr (e, _)) = absurd (h e)

-- ---- back along one path

-- the candidate at a position b, 1 to a, of the path
pub record Behind (g : Graph) (p : List ℕ) (a sum u s : ℕ) : Type 0 where
  pub b : ℕ
  pub at : Within a b
  pub holds : vertex p b ≡ u
  pub is : s ≡ along g p b (a - b) + sum

module _ (g : Graph) (p : List ℕ) (a sum : ℕ) where
  -- one position less: the sum is `below`
  behind_up : {u s : ℕ} → Behind g p a (below g p a sum) u s → Behind g p (suc a) sum u s
  unfolding below
  behind_up x = go a x
    where
      go : (a : ℕ) {u s : ℕ} → Behind g p a (below g p a sum) u s → Behind g p (suc a) sum u s
      go zero x = absurd (within_none x.at)
      go (suc a) {u} {s} x =
          let b = x.b in
          let e : suc (suc a) - b ≡ suc (suc a - b) = omega arith in
          let q : b + (suc a - b) ≡ suc a = omega arith in
          record { b = b; at = within-suc x.at; holds = x.holds; is = rw e (omega (arith, x.is, along-last g p b (suc a - b), ap (λ (y : ℕ). L g (vertex p y)) q)) }

  behind_last : Behind g p (suc a) sum (vertex p (suc a)) sum
  unfolding along
  behind_last =
      let e : suc a - suc a ≡ 0 = omega arith in
      record { b = suc a; at = within-last a; holds = refl; is = rw e (omega arith) }

  behind_down : {u s : ℕ} → Behind g p (suc a) sum u s → Behind g p a (below g p a sum) u s ⊎ ((u ≡ vertex p (suc a)) × (s ≡ sum))
  unfolding below along
  behind_down x = go a x (within_cases x.at)
    where
      go : (a : ℕ) {u s : ℕ} (x : Behind g p (suc a) sum u s) → (x.b ≡ suc a) ⊎ Within a x.b → Behind g p a (below g p a sum) u s ⊎ ((u ≡ vertex p (suc a)) × (s ≡ sum))
      go a x (inl e) =
          let z : suc a - x.b ≡ 0 = omega arith in
          inr (sym x.holds ∙ ap (vertex p) e, omega (arith, x.is, ap (along g p x.b) z))
      go zero x (inr w) = absurd (within_none w)
      go (suc a) {u} {s} x (inr w) =
          let b = x.b in
          let e : suc (suc a) - b ≡ suc (suc a - b) = omega arith in
          let q : b + (suc a - b) ≡ suc a = omega arith in
          inl (record { b = b; at = w; holds = x.holds; is = omega (arith, x.is, ap (along g p b) e, along-last g p b (suc a - b), ap (λ (y : ℕ). L g (vertex p y)) q) })

-- going back adds the candidates of the path
pub leasts_back : {n : ℕ} {C : ℕ → ℕ → Type 0} {row : List ℕ} (g : Graph) (p : List ℕ) (a sum : ℕ) → ((b : ℕ) → Within a b → Within n (vertex p b)) → Leasts n C row
    → Leasts n (λ u s. C u s ⊎ Behind g p a sum u s) (back g p a sum row)
unfolding back
leasts_back {C = C} g p zero sum on r = leasts_map (λ u s c. inl c) (λ u s x. only x) r
  where
    only : {X : Type 0} {u s : ℕ} → X ⊎ Behind g p zero sum u s → X
    only (inl c) = c
    only (inr x) = absurd (within_none x.at)
leasts_back {n} {C = C} {row} g p (suc a) sum on r = leasts_map (λ u s c. to c) (λ u s c. from c)
    (leasts_back {C = λ u s. C u s ⊎ ((u ≡ vertex p (suc a)) × (s ≡ sum))} g p a (below g p a sum) (λ b w. on b (within-suc w)) (leasts_put (vertex p (suc a)) sum (on (suc a) (within-last a)) r))
  where
    to : {u s : ℕ} → (C u s ⊎ ((u ≡ vertex p (suc a)) × (s ≡ sum))) ⊎ Behind g p a (below g p a sum) u s → C u s ⊎ Behind g p (suc a) sum u s
    to (inl (inl c)) = inl c
    to (inl (inr (e, q))) = inr (rw (e, q) (behind_last g p a sum))
    to (inr x) = inr (behind_up g p a sum x)

    split : {X : Type 0} {u s : ℕ} → Behind g p a (below g p a sum) u s ⊎ ((u ≡ vertex p (suc a)) × (s ≡ sum)) → (X ⊎ ((u ≡ vertex p (suc a)) × (s ≡ sum))) ⊎ Behind g p a (below g p a sum) u s
    split (inl x) = inr x
    split (inr e) = inl (inr e)

    from : {u s : ℕ} → C u s ⊎ Behind g p (suc a) sum u s → (C u s ⊎ ((u ≡ vertex p (suc a)) × (s ≡ sum))) ⊎ Behind g p a (below g p a sum) u s
    from (inl c) = inl (inl c)
    from (inr x) = split (behind_down g p a sum x)

-- ---- over the paths

-- a candidate of one of paths 1 to k
pub record OnSome (g : Graph) (reach distance : List ℕ) (v k u s : ℕ) : Type 0 where
  pub i : ℕ
  pub path : Within k i
  pub behind : Behind g (path_at g i) (cell cell_place v i reach) (cell cell_place v i distance) u s

pub leasts_backs : {n : ℕ} (row : List ℕ) (g : Graph) (reach distance : List ℕ) (v k : ℕ) → ((i : ℕ) → Within k i → (b : ℕ) → Within (cell cell_place v i reach) b → Within n (vertex (path_at g i) b))
    → n ≤ length row → ((u : ℕ) → Within n u → entry u row ≡ 0) → Leasts n (OnSome g reach distance v k) (backs g reach distance v k row)
unfolding backs
leasts_backs {n} row g reach distance v zero on l z = record { long = l; attained = λ u s w e. absurd (omega (arith, z u w)); least = λ u s w x. absurd (within_none x.path) }
leasts_backs {n} row g reach distance v (suc k) on l z = leasts_map (λ u s c. to c) (λ u s c. from c)
    (leasts_back g (path_at g (suc k)) (cell cell_place v (suc k) reach) (cell cell_place v (suc k) distance) (on (suc k) (within-last k)) (leasts_backs row g reach distance v k (λ i w. on i (within-suc w)) l z))
  where
    to : {u s : ℕ} → OnSome g reach distance v k u s ⊎ Behind g (path_at g (suc k)) (cell cell_place v (suc k) reach) (cell cell_place v (suc k) distance) u s → OnSome g reach distance v (suc k) u s
    to (inl x) = record { i = x.i; path = within-suc x.path; behind = x.behind }
    to (inr b) = record { i = suc k; path = within-last k; behind = b }

    from : {u s : ℕ} → OnSome g reach distance v (suc k) u s → OnSome g reach distance v k u s ⊎ Behind g (path_at g (suc k)) (cell cell_place v (suc k) reach) (cell cell_place v (suc k) distance) u s
    from {u} {s} x = go (within_cases x.path)
      where
        go : (x.i ≡ suc k) ⊎ Within k x.i → OnSome g reach distance v k u s ⊎ Behind g (path_at g (suc k)) (cell cell_place v (suc k) reach) (cell cell_place v (suc k) distance) u s
        go (inl e) = inr (subst (λ (i : ℕ). Behind g (path_at g i) (cell cell_place v i reach) (cell cell_place v i distance) u s) e x.behind)
        go (inr w) = inl (record { i = x.i; path = w; behind = x.behind })
