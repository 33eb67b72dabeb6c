-- The argument for a table of several columns, where each entry has a target though nothing computes it: every equation asked is decidable.
-- Assumes nothing.
use mathlib.Core.Path.{◌≡◌, refl, sym, ap, ◌∙◌, subst}
use mathlib.Core.HLevel.{Discrete}
use Prim.Native.Nat.{ℕ, zero, suc, ◌≤◌}
use native.Mathlib.Nat.{le_refl}
use native.Mathlib.Omega.{arith}
use Rattle.rounds.specs.Rounds.{Within, sweep, iterate}
use Rattle.rounds.specs.Best.{Some}
use Rattle.rounds.specs.Loop.{Ends, Settles}
use Rattle.rounds.proofs.Upto.{within}
use Rattle.rounds.proofs.Counts.{settle, settles, left-quiet, iterate_keeps}
use Rattle.rounds.proofs.InPlace.{round_keeps, leaves}
use Rattle.rounds.proofs.Choice.{◌>>=◌, some, by_dec, choose}
use Rattle.rounds.proofs.Nearing.{Frame, Nearing, in_time, finals_one, quiet-final}

-- Columns 1 to wide, each renewed by the same steps. `get v i` reads cell (v, i); `Is v i a` says that a is what it is to be.
pub record Columns {S : Type 0} (n wide : ℕ) (step : ℕ → S → S) (get : ℕ → ℕ → S → ℕ) (P : S → Type 0) (Is : ℕ → ℕ → ℕ → Type 0) : Type 0 where
  pub any : 1 ≤ wide
  pub same : Discrete S
  pub frame : (i : ℕ) → Within wide i → Frame n step (λ v. get v i) P
  -- a step that leaves its row leaves the state
  pub fix : (v : ℕ) (s : S) → Within n v → P s → ((i : ℕ) → Within wide i → get v i (step v s) ≡ get v i s) → step v s ≡ s
  pub there : (v i : ℕ) → Within n v → Within wide i → Some ((a : ℕ) × Is v i a)
  pub near : (i : ℕ) → Within wide i → (T : ℕ → ℕ) → ((v : ℕ) → Within n v → Is v i (T v)) → Nearing n step (λ v. get v i) P T

module _ {S : Type 0} (n wide : ℕ) (step : ℕ → S → S) (get : ℕ → ℕ → S → ℕ) (P : S → Type 0) (Is : ℕ → ℕ → ℕ → Type 0) (B : Columns n wide step get P Is) where
  -- one entry of column i is what it is to be
  abbrev pub Begun : ℕ → S → Type 0
  Begun i s = (v : ℕ) × Within n v × ((a : ℕ) → Is v i a → get v i s ≡ a)

  -- a state whose every step is quiet
  still : (s : S) → P s → ((v i : ℕ) → Within n v → Within wide i → get v i (step v s) ≡ get v i s) → (m : ℕ) → m ≤ n → sweep step m s ≡ s
  unfolding sweep
  still s p h zero l = refl
  still s p h (suc m) l =
      let w : Within n (suc m) = within (omega arith) l in
      ap (step (suc m)) (still s p h m (omega arith)) ∙ B.fix (suc m) s w p (λ i k. h (suc m) i w k)

  target : (i : ℕ) → Within wide i → Some ((T : ℕ → ℕ) × ((v : ℕ) → Within n v → Is v i (T v)))
  target i k = choose {R = λ v. Is v i} n (λ v w. B.there v i w k)

  first : Frame n step (λ v. get v 1) P
  first = B.frame 1 (within (le_refl 1) B.any)

  module _ (s : S) (p : P s) (begun : (i : ℕ) → Within wide i → Begun i s) where
    -- what j rounds leave, with n at most j + 1, is quiet
    quiet_at : (j : ℕ) → n ≤ suc j → sweep step n (iterate (sweep step n) j s) ≡ iterate (sweep step n) j s
    quiet_at j h = still t q (λ v i w k. by_dec ((B.frame i k).same (get v i (step v t)) (get v i t)) (target i k >>= go i k v w)) n (le_refl n)
      where
        t : S
        t = iterate (sweep step n) j s

        q : P t
        q = iterate_keeps (sweep step n) P (round_keeps n step P first.keeps) j s p

        go : (i : ℕ) → Within wide i → (v : ℕ) → Within n v → ((T : ℕ → ℕ) × ((v : ℕ) → Within n v → Is v i (T v))) → Some (get v i (step v t) ≡ get v i t)
        go i k v w (T, is) =
            let N = B.near i k T is in
            let F = B.frame i k in
            let (u, wu, e) = begun i k in
            let f = finals_one n step (λ v. get v i) P T F N s u wu (e (T u) (is u wu)) in
            let d = in_time n step (λ v. get v i) P T F N j s p (omega arith) v w in
            some (N.stays v t w q d ∙ sym d)

    -- the rounds end, there are at most n, and they leave what is to be
    pub ends : Settles n (sweep step n) (λ t. P t × ((v i : ℕ) → Within n v → Within wide i → Some (Is v i (get v i t)))) s
    ends = go n refl (begun 1 (within (le_refl 1) B.any)).1
      where
        end : Ends n (sweep step n) s → Settles n (sweep step n) (λ t. P t × ((v i : ℕ) → Within n v → Within wide i → Some (Is v i (get v i t)))) s
        end x =
            let q : P x.last = leaves n step P first.keeps x.rounds p in
            let e = left-quiet (sweep step n) x.rounds in
            settles x (
              q,
              λ v i w k. do
                (T, is) ← target i k
                some (subst (Is v i) (sym (quiet-final n step (λ v. get v i) P T (B.frame i k) (B.near i k T is) x.last q e v w)) (is v w)),
            )

        go : (m : ℕ) → m ≡ n → Within n (begun 1 (within (le_refl 1) B.any)).0 → Settles n (sweep step n) (λ t. P t × ((v i : ℕ) → Within n v → Within wide i → Some (Is v i (get v i t)))) s
        go zero e w = absurd (omega arith)
        go (suc j) e w = end (subst (λ (m : ℕ). Ends m (sweep step n) s) e (settle (sweep step n) B.same j s (quiet_at j (omega arith))))
