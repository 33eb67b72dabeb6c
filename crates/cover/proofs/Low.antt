-- The distances of the rounds never pass the sum of the labels, so that a sum fits: whatever is known, with its own label, is at most the sum of the labels of
-- all that is known. Entries are 0 where not known, and d + 1. Assumes nothing.
use Prim.Native.Nat.{ℕ, zero, suc, ◌+◌, ◌≤◌, ◌<◌, zero-le}
use mathlib.Core.Path.{◌≡◌, refl, sym, ap, ◌∙◌, subst}
use mathlib.Core.Logic.{◌≢◌, ◌⊎◌, inl, inr}
use native.Mathlib.Nat.{not-suc-le-zero, le_refl}
use native.Mathlib.Decide.{ℕ_discrete}
use native.Mathlib.Omega.{arith}
use Rattle.rounds.specs.Rounds.{Within}
use Rattle.rounds.proofs.Upto.{within-suc, within-last, within_none, within_cases, total, total_mono}

-- one term greater by c makes the sum greater by c
total_bump : (f g : ℕ → ℕ) (c v n : ℕ) → ((w : ℕ) → Within n w → f w ≤ g w) → Within n v → f v + c ≤ g v → total f n + c ≤ total g n
unfolding total
total_bump f g c v zero h l b = absurd (within_none l)
total_bump f g c v (suc n) h l b = go (λ k. total_bump f g c v n (λ w lw. h w (within-suc lw)) k b) (within_cases l)
  where
    go : (Within n v → total f n + c ≤ total g n) → (v ≡ suc n) ⊎ Within n v → total f n + f (suc n) + c ≤ total g n + g (suc n)
    go ih (inr k) = omega (arith, ih k, h (suc n) (within-last n))
    go ih (inl e) = omega (arith, total_mono f g n (λ w lw. h w (within-suc lw)), subst (λ (w : ℕ). f w + c ≤ g w) e b)

-- a term is no more than its sum
pub total_term : (f : ℕ → ℕ) (v n : ℕ) → Within n v → f v ≤ total f n
total_term f v n w = omega (arith, total_bump (λ _. 0) f (f v) v n (λ _ _. zero-le) w (omega arith))

-- a label counts where its entry is known
counted : ℕ → ℕ → ℕ
counted zero l = zero
counted (suc d) l = l

counted_le : (x l : ℕ) → counted x l ≤ l
unfolding counted
counted_le zero l = zero-le
counted_le (suc d) l = le_refl l

counted_none : (x l : ℕ) → x ≡ 0 → counted x l ≡ 0
unfolding counted
counted_none zero l e = refl
counted_none (suc d) l e = absurd (omega arith)

counted-known : (x l : ℕ) → 0 < x → counted x l ≡ l
unfolding counted
counted-known zero l h = absurd (not-suc-le-zero h)
counted-known (suc d) l h = refl

-- entries 1 to n, with labels
module _ (n : ℕ) (lab : ℕ → ℕ) where
  -- the labels of what is known
  pub labels : (ℕ → ℕ) → ℕ
  labels f = total (λ w. counted (f w) (lab w)) n

  pub record Low (f : ℕ → ℕ) : Type 0 where
    pub low : (v : ℕ) → Within n v → (f v ≡ 0) ⊎ (f v + lab v ≤ suc (labels f))

  -- at the start each entry is 0 or 1
  pub low-start : (f : ℕ → ℕ) → ((v : ℕ) → Within n v → f v ≤ 1) → Low f
  unfolding labels
  low-start f h = record { low = λ v w. go v w (f v) refl (h v w) }
    where
      go : (v : ℕ) → Within n v → (x : ℕ) → f v ≡ x → x ≤ 1 → (f v ≡ 0) ⊎ (f v + lab v ≤ suc (labels f))
      go v w zero e l = inl e
      go v w (suc x) e l = inr (omega (arith, total_term (λ w. counted (f w) (lab w)) v n w, counted-known (f v) (lab v) (omega arith)))

  -- no entry, with its label, passes the sum of all labels by more than 1
  pub fits : (f : ℕ → ℕ) → Low f → (u : ℕ) → Within n u → (f u ≡ 0) ⊎ (f u + lab u ≤ suc (total lab n))
  unfolding labels
  fits f w u l = go (w.low u l)
    where
      go : (f u ≡ 0) ⊎ (f u + lab u ≤ suc (labels f)) → (f u ≡ 0) ⊎ (f u + lab u ≤ suc (total lab n))
      go (inl z) = inl z
      go (inr h) = inr (omega (arith, total_mono (λ w. counted (f w) (lab w)) lab n (λ w _. counted_le (f w) (lab w))))

  -- an entry that becomes known from a known one, or nearer than it was
  pub data Gets (f : ℕ → ℕ) (v : ℕ) : ℕ → Type 0 where
    as_it_was : Gets f v (f v)
    newly : (u : ℕ) → Within n u → f v ≡ 0 → 0 < f u → Gets f v (f u + lab u)
    nearer : {x : ℕ} → 0 < x → x ≤ f v → Gets f v x

  pub low_step : (f g : ℕ → ℕ) (v : ℕ) → Within n v → ((w : ℕ) → Within n w → w ≢ v → g w ≡ f w) → Gets f v (g v) → Low f → Low g
  unfolding labels counted
  low_step f g v lv same gets w = go (g v) refl gets
    where
      F : ℕ → ℕ
      F u = counted (f u) (lab u)

      G : ℕ → ℕ
      G u = counted (g u) (lab u)

      rise : (c : ℕ) → F v + c ≤ G v → labels f + c ≤ labels g
      rise c b = total_bump F G c v n (λ u l. up u l (ℕ_discrete u v)) lv b
        where
          up : (u : ℕ) → Within n u → Dec (u ≡ v) → F u ≤ G u
          up u l (yes e) = subst (λ (x : ℕ). F x ≤ G x) (sym e) (omega arith)
          up u l (no h) = rw (same u l h) (le_refl _)

      rest : labels f ≤ labels g → (g v ≡ 0) ⊎ (g v + lab v ≤ suc (labels g)) → (u : ℕ) → Within n u → (g u ≡ 0) ⊎ (g u + lab u ≤ suc (labels g))
      rest h b u l = at (ℕ_discrete u v) (w.low u l)
        where
          at : Dec (u ≡ v) → (f u ≡ 0) ⊎ (f u + lab u ≤ suc (labels f)) → (g u ≡ 0) ⊎ (g u + lab u ≤ suc (labels g))
          at (yes e) _ = rw e b
          at (no d) (inl z) = inl (same u l d ∙ z)
          at (no d) (inr k) = inr (omega (arith, same u l d))

      go : (x : ℕ) → g v ≡ x → Gets f v x → Low g
      go x e as_it_was =
          let h = rise 0 (omega (arith, ap (λ (y : ℕ). counted y (lab v)) e)) in
          record { low = rest (omega arith) (old (omega arith) (w.low v lv)) }
        where
          old : labels f ≤ labels g → (f v ≡ 0) ⊎ (f v + lab v ≤ suc (labels f)) → (g v ≡ 0) ⊎ (g v + lab v ≤ suc (labels g))
          old h (inl z) = inl (e ∙ z)
          old h (inr k) = inr (omega arith)
      go x e (newly u lu z p) =
          let h = rise (lab v) (omega (arith, counted_none (f v) (lab v) z, counted-known (g v) (lab v) (omega arith))) in
          record { low = rest (omega arith) (inr (new h (w.low u lu))) }
        where
          new : labels f + lab v ≤ labels g → (f u ≡ 0) ⊎ (f u + lab u ≤ suc (labels f)) → g v + lab v ≤ suc (labels g)
          new h (inl q) = absurd (omega arith)
          new h (inr k) = omega arith
      go x e (nearer p q) =
          let h = rise 0 (omega (arith, counted-known (f v) (lab v) (omega arith), counted-known (g v) (lab v) (omega arith))) in
          record { low = rest (omega arith) (inr (new h (w.low v lv))) }
        where
          new : labels f + 0 ≤ labels g → (f v ≡ 0) ⊎ (f v + lab v ≤ suc (labels f)) → g v + lab v ≤ suc (labels g)
          new h (inl z) = absurd (omega arith)
          new h (inr k) = omega arith
