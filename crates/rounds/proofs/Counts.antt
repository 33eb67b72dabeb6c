-- The count of rounds of any state: its two wordings agree, it and the result are unique, a run computes them. Assumes nothing.
use mathlib.Core.Path.{◌≡◌, refl, sym, ap, ◌∙◌, subst}
use mathlib.Core.Logic.{◌≢◌, ite}
use mathlib.Core.HLevel.{Discrete}
use mathlib.Core.List.{List, [], ◌∷◌, nil≢cons, cons≢nil, head-eq_of_cons-eq, tail-eq_of_cons-eq}
use Prim.Native.Nat.{ℕ, zero, suc, ◌-◌, ◌≤◌, ◌<◌}
use native.Mathlib.Nat.{le_of_suc-le-suc, not-suc-le-zero, le_refl}
use native.Mathlib.Omega.{arith}
use Rattle.rounds.specs.Rounds.{iterate, Rounds, quiet, busy, Least}
use Rattle.rounds.specs.Loop.{Ends, Settles}
use Rattle.rounds.proofs.Upto.{ite_cases}

less_one : (k : ℕ) → suc k - 1 ≡ k
less_one k = omega arith

module _ {S : Type 0} (round : S → S) where
  -- k rounds and one more: the one may be the first
  pub iterate-shift : (k : ℕ) (s : S) → iterate round k (round s) ≡ round (iterate round k s)
  unfolding iterate
  iterate-shift zero s = refl
  iterate-shift (suc k) s = ap round (iterate-shift k s)

  -- ---- the two wordings

  pub rounds-least : {s t : S} {k : ℕ} → Rounds round s k t → Least round s k t
  unfolding iterate
  rounds-least (quiet e) = record { counted = le_refl 1; left = e; still = e; moving = λ j l h. absurd (omega arith) }
  rounds-least (busy {s = s} {t = t} {k = k} h r) = go k (rounds-least r)
    where
      go : (k : ℕ) → Least round (round s) k t → Least round s (suc k) t
      go zero w = absurd (omega arith)
      go (suc k) w = record {
        counted = omega arith;
        left = sym (iterate-shift (suc k) s) ∙ w.left;
        still = rw less_one (sym (iterate-shift (suc k) s) ∙ (rw less_one at w.still) ∙ iterate-shift k s);
        moving = moving;
      }
        where
          moving : (j : ℕ) → 1 ≤ j → j < suc (suc k) → iterate round j s ≢ iterate round (j - 1) s
          moving zero l b = absurd (omega arith)
          moving (suc zero) l b = h
          moving (suc (suc j)) l b = λ e. w.moving (suc j) (omega arith) (omega arith) (rw less_one (iterate-shift (suc j) s ∙ (rw less_one at e) ∙ sym (iterate-shift j s)))

  pub least-rounds : (k : ℕ) (s t : S) → Least round s k t → Rounds round s k t
  unfolding iterate
  least-rounds zero s t w = absurd (omega arith)
  least-rounds (suc zero) s t w = subst (Rounds round s 1) (sym w.still ∙ w.left) (quiet w.still)
  least-rounds (suc (suc k)) s t w = busy (w.moving 1 (le_refl 1) (omega arith)) (least-rounds (suc k) (round s) t (record {
    counted = omega arith;
    left = iterate-shift (suc k) s ∙ w.left;
    still = rw less_one (iterate-shift (suc k) s ∙ (rw less_one at w.still) ∙ sym (iterate-shift k s));
    moving = moving;
  }))
    where
      moving : (j : ℕ) → 1 ≤ j → j < suc k → iterate round j (round s) ≢ iterate round (j - 1) (round s)
      moving zero l b = absurd (omega arith)
      moving (suc j) l b = λ e. w.moving (suc (suc j)) (omega arith) (omega arith) (rw less_one (sym (iterate-shift (suc j) s) ∙ (rw less_one at e) ∙ iterate-shift j s))

  -- ---- one count, one result

  pub unique : {s t t' : S} {k k' : ℕ} → Rounds round s k t → Rounds round s k' t' → (k ≡ k') × (t ≡ t')
  unique (quiet e) (quiet e') = (refl, refl)
  unique (quiet e) (busy h r) = absurd (h e)
  unique (busy h r) (quiet e) = absurd (h e)
  unique (busy h r) (busy h' r') = let w = unique r r' in (ap suc w.0, w.1)

  -- what is left is quiet
  pub left-quiet : {s t : S} {k : ℕ} → Rounds round s k t → round t ≡ t
  left-quiet (quiet e) = e
  left-quiet (busy h r) = left-quiet r

  -- what each round keeps, the rounds keep
  pub rounds_keep : (P : S → Type 0) → ((s : S) → P s → P (round s)) → {s t : S} {k : ℕ} → Rounds round s k t → P s → P t
  rounds_keep P h (quiet e) p = p
  rounds_keep P h (busy {s = s} _ r) p = rounds_keep P h r (h s p)

  pub iterate_keeps : (P : S → Type 0) → ((s : S) → P s → P (round s)) → (k : ℕ) (s : S) → P s → P (iterate round k s)
  unfolding iterate
  iterate_keeps P h zero s p = p
  iterate_keeps P h (suc k) s p = h (iterate round k s) (iterate_keeps P h k s p)

  -- Rounds of another state that mirror these are as many: code may keep the same table in another form, or make the rounds in another way.
  pub rounds_mirror : {S' : Type 0} (round' : S' → S') (form : S → S') (P : S → Type 0) → ((s : S) → P s → P (round s)) → ((s : S) → P s → round' (form s) ≡ form (round s))
      → ((s t : S) → P s → P t → form s ≡ form t → s ≡ t) → {s t : S} {k : ℕ} → Rounds round s k t → P s → Rounds round' (form s) k (form t)
  rounds_mirror round' form P keep mirror inj (quiet {s = s} e) p = quiet (mirror s p ∙ ap form e)
  rounds_mirror round' form P keep mirror inj (busy {s = s} {t = t} {k = k} h r) p = busy (λ e. h (inj (round s) s (keep s p) p (sym (mirror s p) ∙ e)))
      (subst (λ x. Rounds round' x k (form t)) (sym (mirror s p)) (rounds_mirror round' form P keep mirror inj r (keep s p)))

  module _ (same : Discrete S) where
    -- where round j + 1 would be quiet, the rounds end by then
    pub settle : (j : ℕ) (s : S) → round (iterate round j s) ≡ iterate round j s → Ends (suc j) round s
    unfolding iterate
    settle zero s e = record { count = 1; last = s; rounds = quiet e; bound = le_refl 1 }
    settle (suc j) s e = go (settle j (round s) (rw (iterate-shift j s) e)) (same (round s) s)
      where
        go : Ends (suc j) round (round s) → Dec (round s ≡ s) → Ends (suc (suc j)) round s
        go w (yes e) = record { count = 1; last = s; rounds = quiet e; bound = omega arith }
        go w (no h) = record { count = suc w.count; last = w.last; rounds = busy h w.rounds; bound = omega arith }

    -- ---- the count and the result, computed; the fuel bounds the rounds

    unfoldable pub run : ℕ → S → ℕ × S
    run zero s = (zero, s)
    run (suc f) s = ite (same (round s) s) (1, s) (let w = run f (round s) in (suc w.0, w.1))

    -- a run with fuel left over shows them
    pub run_shows : (f : ℕ) (s : S) → (run f s).0 < f → Rounds round s (run f s).0 (run f s).1
    unfolding run
    run_shows zero s l = absurd (not-suc-le-zero l)
    run_shows (suc f) s l = ite_cases (λ (w : ℕ × S). w.0 < suc f → Rounds round s w.0 w.1) (same (round s) s)
        (λ e _. quiet e) (λ h b. busy h (run_shows f (round s) (le_of_suc-le-suc b))) l

-- ---- rounds that settle

-- an end whose result is Done is all that document 01 says
pub settles : {S : Type 0} {n : ℕ} {round : S → S} {Done : S → Type 0} {s : S} (w : Ends n round s) → Done w.last → Settles n round Done s
settles {round = round} w d = record {
  count = w.count;
  last = w.last;
  rounds = w.rounds;
  first = (rounds-least round w.rounds).counted;
  bound = w.bound;
  done = d;
  only = λ k t r. unique round r w.rounds;
}

pub settles_ends : {S : Type 0} {n : ℕ} {round : S → S} {Done : S → Type 0} {s : S} → Settles n round Done s → Ends n round s
settles_ends w = record { count = w.count; last = w.last; rounds = w.rounds; bound = w.bound }

pub settles_map : {S : Type 0} {n : ℕ} {round : S → S} {D E : S → Type 0} {s : S} → ((t : S) → D t → E t) → Settles n round D s → Settles n round E s
unfolding settles_ends
settles_map f w = settles (settles_ends w) (f w.last w.done)

-- what is made of the rounds by one rule holds of those by another, where they are the same
pub settles_as : {S : Type 0} {n : ℕ} {round round' : S → S} {Done : S → Type 0} {s : S} → ((k : ℕ) (t : S) → Rounds round s k t → Rounds round' s k t) → Settles n round Done s → Settles n round' Done s
settles_as f w = settles (record { count = w.count; last = w.last; rounds = f w.count w.last w.rounds; bound = w.bound }) w.done

-- whatever count and result the rule gives: the count is one of 1 to n, the result is Done
pub settled : {S : Type 0} {n : ℕ} {round : S → S} {Done : S → Type 0} {s : S} → Settles n round Done s → {k : ℕ} {t : S} → Rounds round s k t → (1 ≤ k) × (k ≤ n) × Done t
settled {n = n} {Done = Done} w {k} {t} r =
    let (e, q) = w.only k t r in
    (rw e w.first, rw e w.bound, rw q w.done)

-- equality of lists decided, by a function that computes (mathlib's `List-discrete` does not unfold)
unfoldable pub list? : {A : Type 0} → Discrete A → Discrete (List A)
list? d [] [] = yes refl
list? d [] (y ∷ ys) = no nil≢cons
list? d (x ∷ xs) [] = no cons≢nil
list? d (x ∷ xs) (y ∷ ys) = both (d x y) (list? d xs ys)
  where
    both : Dec (x ≡ y) → Dec (xs ≡ ys) → Dec (x ∷ xs ≡ y ∷ ys)
    both (yes p) (yes q) = yes (λ i. p i ∷ q i)
    both (yes p) (no h) = no (λ e. h (tail-eq_of_cons-eq e))
    both (no h) q = no (λ e. h (head-eq_of_cons-eq e))
