-- THE ARGUMENT OF THE ROUNDS, for one column of entries 1 to n and a target T. Each round that starts off the target brings one more entry to it; so
-- from one entry at its target, n - 1 rounds bring all. Assumes nothing.
use mathlib.Core.Path.{◌≡◌, refl, ◌∙◌}
use mathlib.Core.Logic.{◌≢◌, ◌⊎◌, inl, inr}
use mathlib.Core.HLevel.{Discrete}
use Prim.Native.Nat.{ℕ, zero, suc, ◌+◌, ◌≤◌, ◌<◌, zero-le}
use native.Mathlib.Nat.{le_refl, lt_of_not-le, lt_irrefl}
use native.Mathlib.Decide.{ℕ_discrete}
use native.Mathlib.Omega.{arith}
use Rattle.rounds.specs.Rounds.{Within, sweep, iterate}
use Rattle.rounds.proofs.Upto.{within, within_none, within_cases, all_or_not, total, total_tight, total_const}
use Rattle.rounds.proofs.Counts.{iterate_keeps}
use Rattle.rounds.proofs.InPlace.{Keeps, Local, sweep_keeps, round_keeps}

-- what the rounds keep, whatever the target
pub record Frame {S A : Type 0} (n : ℕ) (step : ℕ → S → S) (get : ℕ → S → A) (P : S → Type 0) : Type 0 where
  pub same : Discrete A
  pub local : Local n step get
  pub keeps : Keeps n step P

-- every entry is at its target
abbrev pub AtTarget : {S A : Type 0} → ℕ → (ℕ → S → A) → (ℕ → A) → S → Type 0
AtTarget n get T s = (v : ℕ) → Within n v → get v s ≡ T v

module _ {S A : Type 0} (n : ℕ) (step : ℕ → S → S) (get : ℕ → S → A) (P : S → Type 0) (T : ℕ → A) where
  -- an entry b that is off its target in s, and that its step brings there from every state that has at least s's entries at their targets
  pub record Next (s : S) : Type 0 where
    pub b : ℕ
    pub among : Within n b
    pub off : get b s ≢ T b
    pub comes : (t : S) → P t → ((v : ℕ) → Within n v → get v s ≡ T v → get v t ≡ T v) → get b (step b t) ≡ T b

  -- what the argument asks of the steps
  pub record Nearing : Type 0 where
    pub stays : (v : ℕ) (s : S) → Within n v → P s → get v s ≡ T v → get v (step v s) ≡ T v
    pub next : (v : ℕ) (s : S) → Within n v → P s → get v s ≢ T v → Next s

-- a stronger invariant will do
pub weaken : {S A : Type 0} {n : ℕ} {step : ℕ → S → S} {get : ℕ → S → A} {P Q : S → Type 0} {T : ℕ → A} → ((s : S) → Q s → P s) → Nearing n step get P T → Nearing n step get Q T
weaken f N = record {
  stays = λ v s w q. N.stays v s w (f s q);
  next = λ v s w q h. let x = N.next v s w (f s q) h in record { b = x.b; among = x.among; off = x.off; comes = λ t r. x.comes t (f t r) };
}

-- ---- counting

hit : {X : Type 0} → Dec X → ℕ
hit (yes _) = 1
hit (no _) = 0

hit_le : {X : Type 0} (d : Dec X) → hit d ≤ 1
unfolding hit
hit_le (yes _) = le_refl 1
hit_le (no _) = zero-le

hit_mono : {X Y : Type 0} (d : Dec X) (e : Dec Y) → (X → Y) → hit d ≤ hit e
unfolding hit
hit_mono (yes x) (yes y) f = le_refl 1
hit_mono (yes x) (no y) f = absurd (y (f x))
hit_mono (no x) e f = zero-le

hit_one : {X : Type 0} (d : Dec X) → hit d ≡ 1 → X
unfolding hit
hit_one (yes x) e = x
hit_one (no x) e = absurd (omega arith)

one_hit : {X : Type 0} (d : Dec X) → X → hit d ≡ 1
unfolding hit
one_hit (yes x) e = refl
one_hit (no x) e = absurd (x e)

module _ {S A : Type 0} (n : ℕ) (step : ℕ → S → S) (get : ℕ → S → A) (P : S → Type 0) (T : ℕ → A) (F : Frame n step get P) (N : Nearing n step get P T) where
  -- how many entries are at their targets
  pub finals : S → ℕ
  finals s = total (λ v. hit (F.same (get v s) (T v))) n

  -- what is at its target stays there
  sweep_stays : (m : ℕ) (s : S) → m ≤ n → P s → (v : ℕ) → Within n v → get v s ≡ T v → get v (sweep step m s) ≡ T v
  unfolding sweep
  sweep_stays zero s l p v w e = e
  sweep_stays (suc m) s l p v w e = go (ℕ_discrete v (suc m)) (sweep_stays m s (omega arith) p v w e)
    where
      go : Dec (v ≡ suc m) → get v (sweep step m s) ≡ T v → get v (step (suc m) (sweep step m s)) ≡ T v
      go (yes q) i = rw (← q) (N.stays v (sweep step m s) w (sweep_keeps n step P F.keeps m s (omega arith) p) i)
      go (no h) i = F.local v (suc m) (sweep step m s) w (within (omega arith) l) h ∙ i

  -- the next entry comes to its target
  sweep_comes : (m : ℕ) (s : S) → m ≤ n → P s → (x : Next n step get P T s) → Within m x.b → get x.b (sweep step m s) ≡ T x.b
  unfolding sweep
  sweep_comes zero s l p x k = absurd (within_none k)
  sweep_comes (suc m) s l p x k = go (sweep_comes m s (omega arith) p x) (within_cases k)
    where
      go : (Within m x.b → get x.b (sweep step m s) ≡ T x.b) → (x.b ≡ suc m) ⊎ Within m x.b → get x.b (step (suc m) (sweep step m s)) ≡ T x.b
      go ih (inl q) = rw (← q) (x.comes (sweep step m s) (sweep_keeps n step P F.keeps m s (omega arith) p) (sweep_stays m s (omega arith) p))
      go ih (inr w) = F.local x.b (suc m) (sweep step m s) x.among (within (omega arith) l) (omega arith) ∙ ih w

  -- so a round that starts off the target brings one more entry to it
  pub grows : (s : S) → P s → Next n step get P T s → finals s < finals (sweep step n s)
  unfolding finals
  grows s p x = lt_of_not-le (λ h. absurd (lose h))
    where
      d : (t : S) (v : ℕ) → Dec (get v t ≡ T v)
      d t v = F.same (get v t) (T v)

      lose : finals (sweep step n s) ≤ finals s → ⊥
      lose h = x.off (hit_one (d s x.b)
          (total_tight (λ v. hit (d s v)) (λ v. hit (d (sweep step n s) v)) n (λ v w. hit_mono (d s v) (d (sweep step n s) v) (sweep_stays n s (le_refl n) p v w)) h x.b x.among
          ∙ one_hit (d (sweep step n s) x.b) (sweep_comes n s (le_refl n) p x x.among)))

  at_target? : (s : S) → AtTarget n get T s ⊎ ((v : ℕ) × Within n v × (get v s ≢ T v))
  at_target? s = all_or_not (λ v. F.same (get v s) (T v)) n

  -- one entry at its target is a beginning
  pub finals_one : (s : S) (v : ℕ) → Within n v → get v s ≡ T v → 1 ≤ finals s
  unfolding finals
  finals_one s v w e = lt_of_not-le (λ h. absurd (lose h))
    where
      d : (u : ℕ) → Dec (get u s ≡ T u)
      d u = F.same (get u s) (T u)

      lose : finals s ≤ 0 → ⊥
      lose h = let z = total_tight (λ _. 0) (λ u. hit (d u)) n (λ u k. zero-le) (omega arith) v w ∙ one_hit (d v) e in omega arith

  -- n of them are all
  pub finals_all : (s : S) → n ≤ finals s → AtTarget n get T s
  unfolding finals
  finals_all s h v w =
      let d : (u : ℕ) → Dec (get u s ≡ T u) = λ u. F.same (get u s) (T u) in
      hit_one (d v) (total_tight (λ u. hit (d u)) (λ _. 1) n (λ u k. hit_le (d u)) (omega (arith, total_const 1 n)) v w)

  -- ---- the two halves

  -- THE QUIET ROUND LEAVES THE TARGET
  pub quiet-final : (s : S) → P s → sweep step n s ≡ s → AtTarget n get T s
  quiet-final s p e = go (at_target? s)
    where
      go : AtTarget n get T s ⊎ ((v : ℕ) × Within n v × (get v s ≢ T v)) → AtTarget n get T s
      go (inl f) = f
      go (inr (v, w, h)) = let g = grows s p (N.next v s w p h) in absurd (lt_irrefl (finals s) (rw e at g))

  -- k rounds bring k more entries to their targets, or all
  nears : (k : ℕ) (s : S) → P s → AtTarget n get T (iterate (sweep step n) k s) ⊎ (k + finals s ≤ finals (iterate (sweep step n) k s))
  unfolding iterate
  nears zero s p = inr (omega arith)
  nears (suc k) s p = go (iterate (sweep step n) k s) (iterate_keeps (sweep step n) P (round_keeps n step P F.keeps) k s p) (nears k s p) (at_target? (iterate (sweep step n) k s))
    where
      go : (t : S) → P t → AtTarget n get T t ⊎ (k + finals s ≤ finals t) → AtTarget n get T t ⊎ ((v : ℕ) × Within n v × (get v t ≢ T v)) → AtTarget n get T (sweep step n t) ⊎ (suc k + finals s ≤ finals (sweep step n t))
      go t q (inl f) y = inl (λ v w. sweep_stays n t (le_refl n) q v w (f v w))
      go t q (inr h) (inl f) = inl (λ v w. sweep_stays n t (le_refl n) q v w (f v w))
      go t q (inr h) (inr (v, w, d)) = let g = grows t q (N.next v t w q d) in inr (omega arith)

  -- THE TARGET IS REACHED IN TIME
  pub in_time : (k : ℕ) (s : S) → P s → n ≤ k + finals s → AtTarget n get T (iterate (sweep step n) k s)
  in_time k s p h = go (nears k s p)
    where
      go : AtTarget n get T (iterate (sweep step n) k s) ⊎ (k + finals s ≤ finals (iterate (sweep step n) k s)) → AtTarget n get T (iterate (sweep step n) k s)
      go (inl f) = f
      go (inr g) = finals_all (iterate (sweep step n) k s) (omega arith)
